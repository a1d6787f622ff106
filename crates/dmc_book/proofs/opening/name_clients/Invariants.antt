use Rattle.std.proofs.Common.{◌≡◌, map, take}
use Rattle.dmc_ledger.specs.Bundles.{ClientSide, client_side}
use Rattle.dmc_book.specs.Opening.{AreApart}
use Rattle.dmc_book.proofs.opening.name_clients.Given as goal

abbrev pub invariant-loop-desk : goal.invariant-loop-desk
invariant-loop-desk g l = record {
  named : l.names.keys ≡ map (λ d. d.client) (take l.desk-index l.desks);
  apart : AreApart (λ (d : ClientSide). d.client) (map client_side (take l.desk-index l.desks));
}
