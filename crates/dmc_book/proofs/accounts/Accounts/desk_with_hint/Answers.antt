use Rattle.std.proofs.Common.{◌∙◌}
use Rattle.dmc_book.proofs.DeskLemmas.{places_agree}
use Rattle.dmc_book.proofs.accounts.Accounts.desk_with_hint.Goals as goal

pub returns : goal.returns
returns g c = rw (← c.self.view_is) (c.place_with_hint.ensures ∙ places_agree c.args.client.0 c.self.inside.clients.keys c.self.inside.desks.items c.self.invariant.1)
