use Rattle.std.proofs.Common.{◌≡◌, ℕ, ◌+◌, ◌-◌, ◌<◌, [], ◌∷◌, ◌++◌, length, set, refl, sym, ◌∙◌, arith, rules, subst}
use Rattle.std.proofs.lemmas.List.{length-map, length-set}
use Rattle.dmc_types.specs.declared.ids.ServerId.{ServerId}
use Rattle.dmc_types.specs.declared.config.PhaseType.{PhaseType}
use Rattle.dmc_tracker.specs.declared.event.TrackerEvent.TheVariants.{Response}
use Rattle.dmc_tracker.specs.Numbers.{after_response}
use Rattle.dmc_tracker.proofs.ForCallers.{same_server}
use Rattle.dmc_ledger.specs.Bundles.{server_side}
use Rattle.dmc_tlock.specs.Entries.{server_of, side_after_response}
use Rattle.dmc_tlock.specs.Consistent.{IsConsistent}
use Rattle.dmc_tlock.proofs.DeskLemmas.{desks-set}
use Rattle.dmc_tlock.proofs.ConsistentLemmas.{IsConsistent-response}
use Rattle.dmc_tlock.proofs.book.TrackerBook.respond_to.Goals as goal

-- one entry under two names
same_entry : {X : Type 0} {s t : ServerId} {phase granted : PhaseType} {cost units : ℕ} (entry : ServerId → PhaseType → ℕ → X)
    → s ≡ t → phase ≡ granted → cost ≡ units → entry s phase cost ≡ entry t granted units
same_entry entry server phase cost = rw (server, phase, cost) refl

pub returns-clause-book : goal.returns-clause-book
returns-clause-book g c =
    let here = c.self.inside in
    let unit = c.args.unit.now in
    let within : c.in_ok-index.index < length here.desks.items = search rules in
    let server = same_server c.server-server.result (server_of unit) c.server-server.ensures in
    let taken = c.take_unit.ensures.desk ∙ rw (c.phase-phase.ensures, c.cost-cost.ensures) refl in
    let desks = desks-set (side_after_response unit.phase unit.cost) here.desks.items (server_of unit) c.in_ok-index.index
    c.index_mut.result.now c.take_unit.new.desk c.in_ok-index.ensures.place within c.index_mut.ensures.value taken in
    let tracker = c.record_response.ensures.tracker
    ∙ same_entry (λ s phase cost. after_response s phase cost here.tracker) server c.phase-phase.ensures c.cost-cost.ensures in
    let events = c.record_response.ensures.events
    ∙ same_entry (λ s phase cost. c.reserve_one.new.self.events ++ Response s phase cost ∷ []) server c.phase-phase.ensures c.cost-cost.ensures in
    rw (← c.self.view_is, tracker, c.record_response.ensures.number, events, c.record_response.ensures.first, c.record_response.ensures.most, c.in_ok-reserve_one.ensures.kept, desks) refl

pub invariant_of-self-2 : goal.invariant_of-self-2
invariant_of-self-2 g c =
    let here = c.self.inside in
    let unit = c.args.unit.now in
    let within : unit.server < length here.desks.items = search rules in
    let room : length here.list.events < here.list.first + (here.list.most - here.list.first) = omega (arith, c.in_ok-reserve_one.ensures.fewer) in
    let fits = rw c.cost-cost.ensures at c.in_ok-can_respond.ensures.fewer in
    let as_many : length c.self.inside.held.items ≡ length (set here.desks.items c.in_ok-index.index c.take_unit.new.desk) = c.self.invariant.1 ∙ sym (length-set here.desks.items c.in_ok-index.index c.take_unit.new.desk) in (
      subst IsConsistent (sym (returns-clause-book g c))
          (rw (← c.self.view_is) (IsConsistent-response _ (server_of unit) unit.phase unit.cost (omega (arith, within, length-map here.desks.items (server_side {S = g.row.S.Denot}))) room fits c.self.invariant.0)),
      as_many,
    )
