use Rattle.std.proofs.Common.{rules, not}
use Rattle.std.proofs.lemmas.Fn.{filter_same}
use Rattle.dmc_tag.specs.Rules.{is_stale}
use Rattle.dmc_plain.proofs.cleaning.erase.Goals as goal

pub returns-clause-items : goal.returns-clause-items
returns-clause-items g c = filter_same _ (λ r. not (is_stale c.args.at c.args.erase_age r)) _ (λ r b f called. search rules) _ _ c.retain.ensures.filtered
