use Rattle.std.proofs.Common.{◌≡◌, false, sym, subst}
use Rattle.dmc_tag.specs.Rules.{is_over_limit}
use Rattle.dmc_pull.proofs.queue.PullQueue.can_add.Goals as goal

pub returns-clause-outcome : goal.returns-clause-outcome
returns-clause-outcome g c =
    let is = c.in_ok-addition.ensures.outcome in
    let within : is_over_limit g.T.Tag.ops c.args.self.now.config.at_limit c.args.at c.in_ok-addition.addition.tags.l ≡ false =
    subst (λ q. is_over_limit g.T.Tag.ops q.config.at_limit c.args.at c.in_ok-addition.addition.tags.l ≡ false) c.in_ok-addition.ensures.same (sym c.if-rejects.ensures) in
    record { added = is.added within; fits = is.fits }
