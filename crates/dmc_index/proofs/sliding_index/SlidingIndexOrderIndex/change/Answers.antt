use Rattle.std.proofs.Common.{◌∙◌, ap, set, Some, None}
use Rattle.std.proofs.lemmas.List.{set-set}
use Rattle.dmc_index.proofs.sliding_index.SlidingIndexOrderIndex.change.Goals as goal

pub returns : goal.returns
returns g c =
    c.insert.ensures ∙ ap (λ s. set s c.args.key (Some c.args.rank)) c.remove.ensures.rest ∙ set-set c.args.self.now c.args.key None (Some c.args.rank)
