use Rattle.std.proofs.Common.{◌≡◌, ◌++◌, length, map, take, drop, refl, sym, ap, ◌∙◌, subst}
use Rattle.std.proofs.lemmas.List.{length-map}
use Rattle.dmc_ledger.specs.Bundles.{StampHoldings, server_side, stamp_holdings}
use Rattle.dmc_ledger.specs.declared.bundle.StampTills.{StampTills}
use Rattle.dmc_tlock.specs.Consistent.{IsConsistent}
use Rattle.dmc_tlock.specs.Settling.{AreGathered, held_of}
use Rattle.dmc_tlock.proofs.SettlingLemmas.{settled_desks}
use Rattle.dmc_tlock.proofs.book.TrackerBook.settle.Given.{Over}
use Rattle.dmc_tlock.proofs.book.TrackerBook.settle.Goals.{After-gather_pass}
use Rattle.dmc_tlock.proofs.book.TrackerBook.settle.Goals as goal
use Rattle.dmc_lemmas.proofs.Lists.{lent_back}

-- ---- what the paths share

gathered : (g : Over) (c : After-gather_pass g) → AreGathered (map (stamp_holdings {S = g.row.S.Denot}) c.pass.inside.tills.items)
    (map (server_side {S = g.row.S.Denot}) c.self.inside.desks.items) (map (server_side {S = g.row.S.Denot}) c.gather_pass.new.desks)
gathered g c = rw c.deref_mut.ensures.value at c.gather_pass.ensures.desks

-- what was lent is all of the desks
back : (g : Over) (c : After-gather_pass g) → take c.self.inside.desks.len (c.gather_pass.new.desks ++ drop (length c.gather_pass.new.desks) c.self.inside.desks.items) ≡ c.gather_pass.new.desks
back g c =
    let items = c.self.inside.desks.items in
    let new = c.gather_pass.new.desks in
    let as_many : length new ≡ length items = sym (length-map new (server_side {S = g.row.S.Denot})) ∙ (gathered g c).as_many ∙ length-map items (server_side {S = g.row.S.Denot}) in
    lent_back new (drop (length new) items) c.self.inside.desks.len (as_many ∙ sym c.self.inside.desks.ok.0)

-- ---- the goals

pub returns-then-not-is_own-clause-own : goal.returns-then-not-is_own-clause-own
returns-then-not-is_own-clause-own g c =
    rw (← c.self.view_is, ← c.pass.view_is, ← c.deref.ensures.value, ← c.deref-2.ensures.value) c.if-not-is_own.ensures

pub gather_pass-requires-clause-own : goal.gather_pass-requires-clause-own
gather_pass-requires-clause-own g c = rw (c.deref_mut.ensures.value, ← c.deref.ensures.value, ← c.deref-2.ensures.value) (c.if-not-is_own.ensures.0 refl)

pub gather_pass-requires-clause-room : goal.gather_pass-requires-clause-room
gather_pass-requires-clause-room g c = ap length c.deref_mut-2.ensures.value ∙ c.self.invariant.1 ∙ ap length (sym c.deref_mut.ensures.value)

pub returns-clause-own : goal.returns-clause-own
returns-clause-own g c = rw (← c.self.view_is, ← c.pass.view_is, ← c.deref.ensures.value, ← c.deref-2.ensures.value) c.if-not-is_own.ensures

pub returns-clause-desks : goal.returns-clause-desks
returns-clause-desks g c =
    let a = (goal.at.returns-clause-desks g c).After-gather_pass in
    rw (← c.self.view_is, ← c.pass.view_is, back g a) (settled_desks _ _ _ c.self.invariant.0 (gathered g a))

pub returns-clause-gathered : goal.returns-clause-gathered
returns-clause-gathered g c =
    let a = (goal.at.returns-clause-gathered g c).After-gather_pass in
    rw (← c.self.view_is, ← c.pass.view_is, back g a) (gathered g a)

pub returns-clause-held : goal.returns-clause-held
returns-clause-held g c =
    let items = c.self.inside.held.items in
    let new = c.gather_pass.new.held in
    let tills = c.pass.inside.tills.items in
    let seen : StampTills g.row.S.Denot → StampHoldings = stamp_holdings in
    let own = c.if-not-is_own.ensures.0 refl in
    let as_many : length new ≡ length items = ap length c.gather_pass.ensures.held ∙ length-map (map seen tills) held_of ∙ rw (c.deref-2.ensures.value, c.deref.ensures.value) at own.as_many ∙ length-map c.self.inside.desks.items (server_side {S = g.row.S.Denot}) ∙ sym c.self.invariant.1 in
    let back = lent_back new (drop (length new) items) c.self.inside.held.len (as_many ∙ sym c.self.inside.held.ok.0) in
    back ∙ c.gather_pass.ensures.held ∙ ap (map held_of) c.pass.view_is

pub returns-clause-consistent : goal.returns-clause-consistent
returns-clause-consistent g c = subst IsConsistent c.self.view_is c.self.invariant.0
