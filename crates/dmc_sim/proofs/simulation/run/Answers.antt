use Rattle.std.proofs.Common.{ap, ◌∙◌, map}
use Rattle.dmc_pull.specs.Queue.{state_of}
use Rattle.dmc_sim.specs.Reports.{server_row}
use Rattle.dmc_sim.proofs.RowLemmas.{counted_with_costs, costs_are, left_rows, scenes_with_costs}
use Rattle.dmc_sim.proofs.simulation.run.Goals as goal

pub returns-clause-last : goal.returns-clause-last
returns-clause-last g c = λ sim h.
    let made = c.in_ok-end.ensures.rounds sim h in
    let last = made.value.1 in
    let at = made.holds.at in
    record {
      value = made.value;
      is = made.is;
      holds = record {
        counted = counted_with_costs c.args.scene.now last.trace c.make_rounds.new.core.clients c.make_rounds.new.clients c.count_costs.new.clients c.count_costs.auto.clients c.count_costs.ensures at.at.counted;
        costs = costs_are state_of c.make_rounds.new.core last at.at.run c.make_rounds.new.clients c.count_costs.new.clients c.count_costs.auto.clients c.count_costs.ensures;
        rows_are = c.count_left.ensures ∙ left_rows state_of c.make_rounds.new.core last at.at.run c.make_rounds.new.servers at.grants ∙ ap (map (server_row last)) (c.in_ok-end.ensures.numbers ∙ c.requires.numbers);
        end_is = made.holds.end_is;
      };
    }

pub returns-clause-scenes : goal.returns-clause-scenes
returns-clause-scenes g c = scenes_with_costs c.make_rounds.new.core.clients c.make_rounds.new.clients c.count_costs.new.clients c.count_costs.auto.clients c.count_costs.ensures ∙ c.in_ok-end.ensures.scenes
