use Rattle.std.proofs.Common.{rules, not}
use Rattle.std.proofs.lemmas.Fn.{filter_same}
use Rattle.dmc_tag.specs.Cancel.{has_token}
use Rattle.dmc_plain.proofs.cancelling.remove.Goals as goal

pub returns : goal.returns
returns g c = filter_same _ (λ r. not (has_token c.args.token r)) _ (λ r b f called. search rules) _ _ c.retain.ensures.filtered
