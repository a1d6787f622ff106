use Rattle.std.proofs.Common.{◌<◌, length, map, refl, sym, ◌∙◌, subst, arith, rules}
use Rattle.std.proofs.lemmas.List.{length-map}
use Rattle.dmc_sharded.specs.BookState.{BookState, DeskState, desk_state, IsConsistent}
use Rattle.dmc_sharded.specs.declared.desk.ShardDesk.{ShardDesk}
use Rattle.dmc_sharded.proofs.ConsistentLemmas.{consistent_after_unit, unit_seen}
use Rattle.dmc_sharded.proofs.book.ArrivalBook.respond_to.Goals as goal

pub returns-clause-book : goal.returns-clause-book
returns-clause-book g c =
    let here = c.self.inside in
    let unit = c.args.unit.now in
    let within : c.in_ok-place.place < length here.desks.items = search rules in
    let taken = c.take.ensures.desk ∙ rw (c.phase.ensures, c.cost.ensures) refl in
    let desks = unit_seen here.desks.items c.in_ok-place.place unit.server c.index_mut.result.now c.take.new.self unit.phase unit.cost
    c.in_ok-place.ensures.place within c.index_mut.ensures.value taken in
    rw (← c.self.view_is, desks) refl

pub invariant_of-self : goal.invariant_of-self
invariant_of-self g c =
    let here = c.self.inside in
    let f : ShardDesk g.row.S.Denot → DeskState = desk_state in
    let b : BookState = record { client = here.client.0; tracker = here.tracker; desks = map f here.desks.items } in
    let unit = c.args.unit.now in
    let within : unit.server < length here.desks.items = search rules in
    subst IsConsistent (sym (returns-clause-book g c))
    (rw (← c.self.view_is) (consistent_after_unit b unit (omega (arith, within, length-map here.desks.items f)) c.self.invariant))
