use Rattle.std.proofs.Common.{◌<◌, length, map, refl, sym, ◌∙◌, subst, arith, rules}
use Rattle.std.proofs.lemmas.Bool.{eq-eqb}
use Rattle.dmc_ledger.specs.Bundles.{phase_holdings, server_side}
use Rattle.dmc_ledger.specs.Moves.{AreSamePhase}
use Rattle.dmc_tlock.specs.Entries.{server_of, IsUnitAt}
use Rattle.dmc_tlock.proofs.DeskLemmas.{found, held_seen}
use Rattle.dmc_tlock.proofs.desk.find_grants.Goals.{then-ne-via-then-ne, then-ne-via-else-ne+then-not-are_of_phase}
use Rattle.dmc_tlock.proofs.desk.find_grants.Goals as goal

pub returns-clause-its : goal.returns-clause-its
returns-clause-its g c =
    let unit = c.args.unit.now in
    let at = found c.args.desks.now (server_of unit) c.server-index.result.0 c.in-Some.desk.now c.server-index.ensures c.in-Some.ensures.lookup.3.0 c.in-Some.ensures.lookup.1 in
    let held = held_seen at c.phase.ensures refl in
    record {
      its_client = search rules;
      its_books = subst (AreSamePhase (phase_holdings c.args.tills.now)) held (c.if-not-are_of_phase.ensures.0 refl);
    }

pub returns-clause-stranger : goal.returns-clause-stranger
returns-clause-stranger g c = (λ is. absurd (cc), λ other. absurd (other.1 (returns-clause-its g c)))

pub returns-then-ne-clause-stranger : goal.returns-then-ne-clause-stranger
returns-then-ne-clause-stranger g c =
    let unit = c.args.unit.now in
    let at = found c.args.desks.now (server_of unit) c.server-index.result.0 c.in-Some.desk.now c.server-index.ensures c.in-Some.ensures.lookup.3.0 c.in-Some.ensures.lookup.1 in
    let within : unit.server < length c.args.desks.now = omega (arith, c.server-index.ensures, c.in-Some.ensures.lookup.3.0) in
    let no : IsUnitAt c.args.client.0 (map server_side c.args.desks.now) unit (phase_holdings c.args.tills.now) → ⊥ = elim c.then-ne.branch [
      | then-ne-via-then-ne w ↦
          λ its.
          let same = eq-eqb c.client.result.0 c.args.client.0 (c.client.ensures ∙ its.its_client) in
          let apart = rw same at w.if-ne.ensures in
          cc
      | then-ne-via-else-ne+then-not-are_of_phase w ↦
          λ its.
          let held = held_seen at w.phase.ensures refl in
          let seen = w.if-not-are_of_phase.ensures.1 (subst (AreSamePhase (phase_holdings c.args.tills.now)) (sym held) its.its_books) in
          cc
    ] in
    (λ _. (within, no), λ _. refl)
