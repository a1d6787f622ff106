use Rattle.std.proofs.Common.{map}
use Rattle.dmc_ledger.specs.Bundles.{client_side}
use Rattle.dmc_book.proofs.GrantLemmas.{grants_of_desks}
use Rattle.dmc_book.proofs.laws.grants_are_of_desks.Goals as goal

pub returns : goal.returns
returns g c =
    let here = c.accounts.inside in
    let known = c.accounts.invariant.0 in
    rw (← c.book.view_is, ← c.accounts.view_is) (grants_of_desks (map client_side here.desks.items) known.clients_apart here.history.events known.granted)
