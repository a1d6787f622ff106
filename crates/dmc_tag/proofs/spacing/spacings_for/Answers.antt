use Rattle.std.proofs.Common.{rules, ◌≡◌, subst}
use Rattle.std.specs.Prelude.{IfSome, Ok}
use Rattle.dmc_types.specs.Values.{AreRates, IsRate}
use Rattle.dmc_tag.specs.Spacing.{spacings_of}
use Rattle.dmc_tag.proofs.TagOrder.{spacings_not_below}
use Rattle.dmc_tag.proofs.spacing.spacings_for.Goals as goal

pub returns-clause-spacings : goal.returns-clause-spacings
returns-clause-spacings g c =
    let rates : AreRates c.args.info.reservation c.args.info.weight c.args.info.limit = record {
      reserved = subst (λ o. IfSome o IsRate) c.reservation.ensures.value c.reservation.ensures.rate;
      weighed = subst IsRate c.weight.ensures.value c.weight.ensures.rate;
      limited = subst (λ o. IfSome o IsRate) c.limit.ensures.value c.limit.ensures.rate;
    } in
    let e : spacings_of g.T.Tag.ops c.args.hz c.args.info ≡ Ok (record { r = c.in_ok-r.r; l = c.unwrap_or-l.result; p = c.in_ok-p.p }) = search rules in
    spacings_not_below g.T.Tag.ops g.T.Tag.fraction g.T.Tag.is_value g.met.T.Tag.exact c.args.hz c.args.info _ rates e

pub returns-in_err-p-clause-value : goal.returns-in_err-p-clause-value
returns-in_err-p-clause-value g c = search rules
