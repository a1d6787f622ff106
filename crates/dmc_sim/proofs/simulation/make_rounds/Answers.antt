use Rattle.std.proofs.Common.{◌≡◌, ℕ, ◌+◌, ◌-◌, ◌*◌, ◌≤◌, get_or, length, min, sym, ap, ◌∙◌, arith}
use Rattle.std.specs.Prelude.{⊤}
use Rattle.dmc_types.specs.Limits.{max_moment}
use Rattle.dmc_pull.specs.Queue.{state_of}
use Rattle.dmc_sim.specs.Simulation.{moment_of, round, rounds}
use Rattle.dmc_sim.specs.internal.Simulations.{AllAt}
use Rattle.dmc_sim.specs.internal.Turns.{HasRun}
use Rattle.dmc_sim.proofs.Endings.{passed_up}
use Rattle.dmc_sim.proofs.Rounds.{all_complete_is, end_after, round_made, round_refused, rounds_done}
use Rattle.dmc_sim.proofs.simulation.make_rounds.Goals as goal

-- the rounds so far, and that not all requests are completed after them
pub returns-then-are_complete-clause-rounds : goal.returns-then-are_complete-clause-rounds
returns-then-are_complete-clause-rounds g c = λ sim h.
    let scene = c.args.scene.now in
    let k = c.loop-round.round in
    let inv = c.loop-round.invariant in
    let r = inv.rounds sim h in
    let complete = sym (all_complete_is scene r.value.trace c.loop-round.clients (inv.scenes ∙ c.requires.scenes) r.holds.at.counted) ∙ sym c.are_complete.ensures ∙ c.if-are_complete.true in
    record {
      value = (k, r.value);
      is = r.is ∙ rounds_done g.T.Tag.ops scene (scene.max_pulls - k) k r.value complete;
      holds = record { at = r.holds; end_is = inv.end };
    }

pub returns-in_err-make_round-clause-rounds : goal.returns-in_err-make_round-clause-rounds
returns-in_err-make_round-clause-rounds g c = λ sim h.
    let ops = g.T.Tag.ops in
    let scene = c.args.scene.now in
    let k = c.loop-round.round in
    let inv = c.loop-round.invariant in
    let r = inv.rounds sim h in
    let whole = rounds ops scene scene.max_pulls 0 sim in
    let here = AllAt state_of scene c.loop-round.core c.loop-round.clients c.loop-round.servers in
    let incomplete = sym (all_complete_is scene r.value.trace c.loop-round.clients (inv.scenes ∙ c.requires.scenes) r.holds.at.counted) ∙ sym c.are_complete.ensures ∙ c.if-are_complete.false in
    let at_is : c.moment_of-end.result ≡ moment_of scene k = c.moment_of-end.ensures ∙ ap (λ (step : ℕ). min (k * step) max_moment) c.step.ensures.value in
    passed_up (round ops scene k r.value) whole (λ (x : ⊤). AllAt state_of scene c.make_round.new.core c.make_round.new.clients c.make_round.new.servers) (HasRun state_of scene c.make_round.new.core c.make_round.new.clients c.make_round.new.servers)
    c.in_err-make_round.field-0.0 c.from_residual.result c.from_residual.ensures.1 (round_refused ops scene scene.max_pulls k (omega (arith, c.max_pulls-round-end.ensures.value)) whole here r incomplete)
    (c.in_err-make_round.ensures.round scene k r.value at_is (inv.scenes ∙ c.requires.scenes) (inv.numbers ∙ c.requires.numbers) r.holds)

pub loop-round-preserved : goal.loop-round-preserved
loop-round-preserved g c =
    let ops = g.T.Tag.ops in
    let scene = c.args.scene.now in
    let k = c.loop-round.round in
    let inv = c.loop-round.invariant in
    let made = c.in_ok-make_round.ensures in
    let servers : length c.loop-round.servers ≤ 64 = omega (arith, c.requires.some_servers) in
    let at_is : c.moment_of-end.result ≡ moment_of scene k = c.moment_of-end.ensures ∙ ap (λ (step : ℕ). min (k * step) max_moment) c.step.ensures.value in
    record {
      marks = omega arith;
      marked = made.marked;
      numbers = made.numbers ∙ inv.numbers;
      scenes = made.scenes ∙ inv.scenes;
      completed = λ i d w.
          let most : (get_or c.make_round.new.clients i d).completed ≤ k * 64 + length c.loop-round.servers = made.completed (k * 64) inv.completed i d w in
          omega (arith, most, servers);
      grants = made.grants k inv.grants;
      end = at_is ∙ sym (end_after scene k);
      rounds = λ sim h.
          let r = inv.rounds sim h in
          let whole = rounds ops scene scene.max_pulls 0 sim in
          let here = AllAt state_of scene c.loop-round.core c.loop-round.clients c.loop-round.servers in
          let incomplete = sym (all_complete_is scene r.value.trace c.loop-round.clients (inv.scenes ∙ c.requires.scenes) r.holds.at.counted) ∙ sym c.are_complete.ensures ∙ c.if-are_complete.false in
          round_made ops scene scene.max_pulls k (omega (arith, c.max_pulls-round-end.ensures.value)) whole here r incomplete (AllAt state_of scene c.make_round.new.core c.make_round.new.clients c.make_round.new.servers)
          (made.round scene k r.value at_is (inv.scenes ∙ c.requires.scenes) (inv.numbers ∙ c.requires.numbers) r.holds);
    }
