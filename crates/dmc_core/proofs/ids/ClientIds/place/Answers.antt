use Rattle.std.proofs.Common.{sym}
use Rattle.std.proofs.lemmas.Option.{slice_get_within}
use Rattle.dmc_tag.proofs.Ids.{position_at}
use Rattle.dmc_core.proofs.ids.ClientIds.place.Goals as goal

pub returns-in-Some-clause-index : goal.returns-in-Some-clause-index
returns-in-Some-clause-index c =
    rw (← c.self.view_is) (sym (position_at c.args.client c.self.inside.ids.keys c.in-Some.place c.as_slice.ensures.unique (rw c.as_slice.ensures.keys at c.in-Some.ensures)))

pub returns-in-Some-clause-within : goal.returns-in-Some-clause-within
returns-in-Some-clause-within c =
    rw (← c.self.view_is) (slice_get_within c.self.inside.ids.keys c.in-Some.place c.args.client (rw c.as_slice.ensures.keys at c.in-Some.ensures))
