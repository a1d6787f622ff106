-- No event yet, one more, and the end of the history.
use Rattle.std.proofs.Common.{rules, ◌≡◌, ◌≤◌, ◌+◌, length, take, sym, subst, arith, Some, None}
use Rattle.std.specs.Prelude.{slice_get}
use Rattle.dmc_check.specs.Verdicts.{IsVerdict, RepresentsEvents}
use Rattle.dmc_check.proofs.VerdictLemmas.{none_within, represents_next, verdict_is, replays_exactly}
use Rattle.dmc_check.proofs.check.check.Goals.{in-Some+in_ok-add, in_default}
use Rattle.dmc_check.proofs.check.check.Goals as goal

pub loop-index-init : goal.loop-index-init
loop-index-init g c = search rules

pub loop-index-preserved : goal.loop-index-preserved
loop-index-preserved g c =
    let ops = g.T.Tag.ops in
    let config = c.args.config in
    let all = g.L.EventList.events c.args.history.now in
    let i = c.loop-index.index in
    elim c.match-event_at.branch [
      | in-Some+in_ok-add w ↦
          let at : slice_get all i ≡ Some w.in-Some.event = sym w.in-Some.ensures in
          let next = w.in_ok-add.ensures.added config (take i all) c.loop-index.invariant in
          subst (RepresentsEvents ops config (take (i + 1) all)) (sym w.replay-is) (represents_next ops config all i w.in-Some.event w.add.new.self at next)
      | in_default w ↦
          let at : None ≡ slice_get all i = w.in_default.ensures in
          absurd (none_within all i (omega arith) (sym at))
    ]

pub returns-clause-verdict : goal.returns-clause-verdict
returns-clause-verdict g c =
    let all = g.L.EventList.events c.args.history.now in
    let past : length all ≤ c.loop-index.index = omega arith in
    subst (IsVerdict g.T.Tag.ops c.args.config all) (sym c.verdict.ensures) (verdict_is g.T.Tag.ops c.args.config all c.loop-index.index c.loop-index.replay past c.loop-index.invariant)

pub returns-clause-exactly : goal.returns-clause-exactly
returns-clause-exactly g c =
    let all = g.L.EventList.events c.args.history.now in
    let past : length all ≤ c.loop-index.index = omega arith in
    let verdict = subst (IsVerdict g.T.Tag.ops c.args.config all) (sym c.verdict.ensures) (verdict_is g.T.Tag.ops c.args.config all c.loop-index.index c.loop-index.replay past c.loop-index.invariant) in
    replays_exactly g.T.Tag.ops c.args.config all c.verdict.result verdict
