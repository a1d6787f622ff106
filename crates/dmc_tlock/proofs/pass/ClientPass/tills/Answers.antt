use Rattle.std.proofs.Common.{◌<◌, length, map, arith}
use Rattle.std.specs.Prelude.{IsSome}
use Rattle.std.specs.Option.{ghost_name_of}
use Rattle.std.proofs.lemmas.List.{map-set, length-map}
use borrow.Follows.Closed.{read_of}
use Rattle.dmc_ledger.specs.Bundles.{stamp_holdings}
use Rattle.dmc_tlock.proofs.DeskLemmas.{tills_seen}
use Rattle.dmc_tlock.proofs.pass.ClientPass.tills.Goals as goal

pub returns : goal.returns
returns g c =
    let items = c.self.inside.tills.items in
    rw (← c.self.view_is) (
      (λ i. read_of (ghost_name_of c.get_mut.result) (λ w. map-set stamp_holdings items c.args.server.0 w i) (map stamp_holdings items)),
      (let some : IsSome c.get_mut.result → c.args.server.0 < length items = λ e. (let h = c.get_mut.ensures.variant.0 e in omega arith) in
          let back : c.args.server.0 < length items → IsSome c.get_mut.result = λ h. c.get_mut.ensures.variant.1 (omega arith) in
          let as_many = length-map items (stamp_holdings {S = g.row.S.Denot}) in
          record {
            writes_back = tt;
            value = tills_seen c.get_mut.result items c.args.server.0 some c.get_mut.ensures.value;
            some = (λ e. (let h = some e in omega arith), λ h. back (omega arith));
          }),
    )
