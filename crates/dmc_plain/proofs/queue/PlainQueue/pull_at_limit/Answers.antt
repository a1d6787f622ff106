use Rattle.std.proofs.Common.{◌≡◌, ◌∙◌, sym, subst}
use Rattle.dmc_types.specs.declared.config.AtLimit.TheVariants.{Allow}
use Rattle.dmc_tag.specs.Answers.{sure_call_reply, pull_reply}
use Rattle.dmc_plain.specs.internal.Settled.{Settles}
use Rattle.dmc_plain.proofs.Beyond.{allowed}
use Rattle.dmc_plain.proofs.queue.PlainQueue.pull_at_limit.Goals as goal

pub returns-in-Allow : goal.returns-in-Allow
returns-in-Allow g c =
    let old = c.args.self.now in
    let is = subst (λ s. s.config.at_limit ≡ Allow) c.self.view_is (sym c.at_limit.ensures.value ∙ c.in-Allow.is) in
    subst (λ outcome. Settles old c.pull_beyond.new.self outcome (sure_call_reply pull_reply c.pull_beyond.result)) (allowed g.T.Tag.ops old c.args.at is) c.pull_beyond.ensures
