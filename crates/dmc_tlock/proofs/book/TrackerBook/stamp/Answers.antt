use Rattle.std.proofs.Common.{◌≡◌, ◌+◌, ◌-◌, ◌<◌, length, set, refl, sym, ap, ◌∙◌, arith, rules, subst}
use Rattle.std.proofs.lemmas.List.{length-map, length-set}
use Rattle.dmc_types.specs.Values.{Params}
use Rattle.dmc_ledger.specs.Bundles.{ServerSide, server_side}
use Rattle.dmc_tracker.specs.Numbers.{next_params}
use Rattle.dmc_tlock.specs.Entries.{side_after_stamp}
use Rattle.dmc_tlock.specs.Consistent.{IsConsistent}
use Rattle.dmc_tlock.proofs.DeskLemmas.{found, desks-set}
use Rattle.dmc_tlock.proofs.ConsistentLemmas.{HasPlace, has_place, IsConsistent-stamp}
use Rattle.dmc_tlock.proofs.book.TrackerBook.stamp.Given.{Over}
use Rattle.dmc_tlock.proofs.book.TrackerBook.stamp.Goals.{After-index_mut}
use Rattle.dmc_tlock.proofs.book.TrackerBook.stamp.Goals as goal

-- the next stamp fits into the stamp books of the server
place : (g : Over) (c : After-index_mut g) → HasPlace (next_params c.self.inside.tracker c.args.server c.args.cost) (server_side c.index_mut.result.now).books
place g c =
    let here = c.self.inside in
    let within : c.in_ok-index.index < length here.desks.items = search rules in
    let at = found here.desks.items c.args.server c.in_ok-index.index c.index_mut.result.now c.in_ok-index.ensures.place within c.index_mut.ensures.value in
    subst (λ (d : ServerSide). HasPlace (next_params here.tracker c.args.server c.args.cost) d.books) at.seen
    (has_place _ c.args.server c.args.cost at.within c.in_ok-can_stamp.ensures.within c.self.invariant.0)

pub issue_stamp-requires-clause-delta : goal.issue_stamp-requires-clause-delta
issue_stamp-requires-clause-delta g c =
    rw c.record_stamp-params.ensures.params (place g (goal.at.issue_stamp-requires-clause-delta g c).After-index_mut).delta

pub issue_stamp-requires-clause-rho : goal.issue_stamp-requires-clause-rho
issue_stamp-requires-clause-rho g c =
    rw c.record_stamp-params.ensures.params (place g (goal.at.issue_stamp-requires-clause-rho g c).After-index_mut).rho

pub returns-clause-book : goal.returns-clause-book
returns-clause-book g c =
    let here = c.self.inside in
    let within : c.in_ok-index.index < length here.desks.items = search rules in
    let desks = desks-set (side_after_stamp (next_params here.tracker c.args.server c.args.cost)) here.desks.items c.args.server c.in_ok-index.index
    c.index_mut.result.now c.issue_stamp.new.desk c.in_ok-index.ensures.place within c.index_mut.ensures.value
    (c.issue_stamp.ensures.desk ∙ ap (λ (p : Params). side_after_stamp p (server_side c.index_mut.result.now)) c.record_stamp-params.ensures.params) in
    rw (← c.self.view_is, c.record_stamp-params.ensures.tracker, c.record_stamp-params.ensures.number, c.record_stamp-params.ensures.events, c.record_stamp-params.ensures.first, c.record_stamp-params.ensures.most, c.in_ok-reserve_one.ensures.kept, desks) refl

pub invariant_of-self-2 : goal.invariant_of-self-2
invariant_of-self-2 g c =
    let here = c.self.inside in
    let within : c.args.server.0 < length here.desks.items = search rules in
    let room : length here.list.events < here.list.first + (here.list.most - here.list.first) = omega (arith, c.in_ok-reserve_one.ensures.fewer) in
    let as_many : length c.self.inside.held.items ≡ length (set here.desks.items c.in_ok-index.index c.issue_stamp.new.desk) = c.self.invariant.1 ∙ sym (length-set here.desks.items c.in_ok-index.index c.issue_stamp.new.desk) in (
      subst IsConsistent (sym (returns-clause-book g c))
          (rw (← c.self.view_is) (IsConsistent-stamp _ c.args.server c.args.cost (omega (arith, within, length-map here.desks.items (server_side {S = g.row.S.Denot}))) room c.in_ok-can_stamp.ensures.within c.self.invariant.0)),
      as_many,
    )
