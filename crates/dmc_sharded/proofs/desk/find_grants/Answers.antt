use Rattle.std.proofs.Common.{◌<◌, length, map, refl, sym, ◌∙◌, subst, arith, rules}
use Rattle.std.proofs.lemmas.Bool.{eq-eqb}
use Rattle.dmc_ledger.specs.Bundles.{phase_holdings}
use Rattle.dmc_ledger.specs.Moves.{AreSamePhase}
use Rattle.dmc_sharded.specs.BookState.{desk_at, desk_state}
use Rattle.dmc_sharded.specs.Responding.{IsUnitAt}
use Rattle.dmc_sharded.proofs.ConsistentLemmas.{held_seen}
use Rattle.dmc_sharded.proofs.desk.find_grants.Goals.{then-ne-via-then-ne, then-ne-via-else-ne+then-not-are_of_phase}
use Rattle.dmc_sharded.proofs.desk.find_grants.Goals as goal

pub returns-clause-its : goal.returns-clause-its
returns-clause-its g c =
    let unit = c.args.unit.now in
    let held = held_seen c.args.desks.now c.server-place.result.0 unit.server c.in-Some.desk.now c.phase.result unit.phase c.server-place.ensures c.in-Some.ensures.lookup.3.0 c.in-Some.ensures.lookup.1 c.phase.ensures in
    record {
      its_client = search rules;
      its_books = subst (AreSamePhase (phase_holdings c.args.tills.now)) held (c.if-not-are_of_phase.ensures.0 refl);
    }

pub returns-clause-stranger : goal.returns-clause-stranger
returns-clause-stranger g c = (λ is. absurd (cc), λ other. absurd (other.1 (returns-clause-its g c)))

pub returns-then-ne-clause-stranger : goal.returns-then-ne-clause-stranger
returns-then-ne-clause-stranger g c =
    let unit = c.args.unit.now in
    let within : unit.server < length c.args.desks.now = omega (arith, c.server-place.ensures, c.in-Some.ensures.lookup.3.0) in
    let no : IsUnitAt c.args.client.0 (desk_at (map desk_state c.args.desks.now) unit.server) unit (phase_holdings c.args.tills.now) → ⊥ = elim c.then-ne.branch [
      | then-ne-via-then-ne w ↦
          λ its.
          let same = eq-eqb c.client.result.0 c.args.client.0 (c.client.ensures ∙ its.its_client) in
          let apart = rw same at w.if-ne.ensures in
          cc
      | then-ne-via-else-ne+then-not-are_of_phase w ↦
          λ its.
          let held = held_seen c.args.desks.now c.server-place.result.0 unit.server c.in-Some.desk.now w.phase.result unit.phase c.server-place.ensures c.in-Some.ensures.lookup.3.0 c.in-Some.ensures.lookup.1 w.phase.ensures in
          let seen = w.if-not-are_of_phase.ensures.1 (subst (AreSamePhase (phase_holdings c.args.tills.now)) (sym held) its.its_books) in
          cc
    ] in
    (λ _. (within, no), λ _. refl)
