use Rattle.std.proofs.Common.{rules, ◌≡◌, ◌<◌, ◌≤◌, ◌++◌, ◌∷◌, [], length, take, subst, inr, ◌∙◌, vec_len, vec_capacity, arith}
use Rattle.std.specs.Prelude.{IsOk}
use Rattle.std.proofs.lemmas.Grind.{common_steps}
use Rattle.std.proofs.lemmas.List.{take_all}
use Rattle.dmc_tag.specs.Steps.{Runs}
use Rattle.dmc_tag.proofs.Running.{grows_here, runs_more}
use Rattle.dmc_tag.proofs.run.run_commands.Goals as goal

pub returns-in-Err-clause-stop : goal.returns-in-Err-clause-stop
returns-in-Err-clause-stop g c =
    let state = g.S.Scheduler.state in
    (omega arith, c.in-Err.ensures.2 ∙ c.loop-done.invariant.0.1)

pub returns-then-is_err-clause-stop : goal.returns-then-is_err-clause-stop
returns-then-is_err-clause-stop g c =
    let state = g.S.Scheduler.state in
    let within : c.loop-done.done < length c.args.commands.now = omega arith in
    (omega arith, (runs_more g.T.Tag.ops (state c.args.scheduler.now) (state c.loop-done.scheduler) (state c.apply.new.self) c.args.commands.now c.loop-done.replies.items c.loop-done.done c.index-commands-done.result c.in-Ok-apply.reply within c.index-commands-done.is c.loop-done.invariant.0 c.in-Ok-apply.ensures).1)

pub loop-done-preserved : goal.loop-done-preserved
loop-done-preserved g c =
    let state = g.S.Scheduler.state in
    let within : c.loop-done.done < length c.args.commands.now = omega arith in
    let pushed : c.push.new.self.items ≡ c.loop-done.replies.items ++ c.in-Ok-apply.reply ∷ [] = search (rules, common_steps) in
    (rw pushed (runs_more g.T.Tag.ops (state c.args.scheduler.now) (state c.loop-done.scheduler) (state c.apply.new.self) c.args.commands.now c.loop-done.replies.items c.loop-done.done c.index-commands-done.result c.in-Ok-apply.reply within c.index-commands-done.is c.loop-done.invariant.0 c.in-Ok-apply.ensures), search (rules, arith), omega arith)

pub returns-clause-replies : goal.returns-clause-replies
returns-clause-replies g c =
    let state = g.S.Scheduler.state in
    let all : length c.args.commands.now ≤ c.loop-done.done = omega arith in
    subst (λ cs. Runs g.T.Tag.ops (state c.args.scheduler.now) (state c.loop-done.scheduler) cs c.loop-done.replies.items) (take_all c.loop-done.done c.args.commands.now all) c.loop-done.invariant.0

pub returns-in-Err-clause-cause : goal.returns-in-Err-clause-cause
returns-in-Err-clause-cause g c =
    let within : c.loop-done.done < length c.args.commands.now = omega arith in
    inr (grows_here c.args.commands.now c.loop-done.done c.index-commands-done.result within c.index-commands-done.is c.in-Err.ensures.0)

pub returns-then-is_err-clause-cause : goal.returns-then-is_err-clause-cause
returns-then-is_err-clause-cause g c =
    let room : vec_len c.loop-done.replies < vec_capacity c.loop-done.replies = omega arith in
    let pushed : IsOk c.push.result = c.push.ensures.succeeds room in
    absurd (search (rules, pushed))
