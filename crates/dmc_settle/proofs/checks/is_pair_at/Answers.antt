use Rattle.std.proofs.Common.{◌≡◌, ◌<◌, length, subst, get_or, rules}
use Rattle.dmc_ledger.specs.Bundles.{ClientSide, ServerSide, client_side, server_side}
use Rattle.dmc_ledger.specs.declared.desk.ClientDesk.{ClientDesk}
use Rattle.dmc_ledger.specs.declared.desk.ServerDesk.{ServerDesk}
use Rattle.dmc_settle.specs.Left.{ArePaired}
use Rattle.dmc_settle.proofs.Lists.{got_seen, there_seen}
use Rattle.dmc_settle.proofs.checks.is_pair_at.Goals as goal

pub returns : goal.returns
returns g c =
    let f : ClientDesk g.row.S.Denot → ClientSide = client_side in
    let h : ServerDesk g.row.S.Denot → ServerSide = server_side in
    let x = c.in-Some-Some.desk.now in
    let y = c.in-Some-Some.side.now in
    let in_desks : c.args.client < length c.args.desks.now = search rules in
    let in_sides : c.args.server < length c.args.sides.now = search rules in
    let at_x : x ≡ get_or c.args.desks.now c.args.client x = search rules in
    let at_y : y ≡ get_or c.args.sides.now c.args.server y = search rules in (
      (λ e d t at_d at_t.
          let to_d = got_seen f c.args.desks.now c.args.client x in_desks at_x d at_d in
          let to_t = got_seen h c.args.sides.now c.args.server y in_sides at_y t at_t in
          subst (λ (z : ClientSide). ArePaired z t) to_d (subst (λ (z : ServerSide). ArePaired (f x) z) to_t (c.are_paired.ensures.0 e))),
      (λ all. c.are_paired.ensures.1 (all (f x) (h y)
          (there_seen f c.args.desks.now c.args.client x in_desks at_x) (there_seen h c.args.sides.now c.args.server y in_sides at_y))),
    )
