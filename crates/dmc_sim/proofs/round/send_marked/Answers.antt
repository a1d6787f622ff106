use Rattle.std.proofs.Common.{ap}
use Rattle.dmc_pull.specs.Queue.{state_of}
use Rattle.dmc_types.specs.declared.ids.ServerId.{ServerId}
use Rattle.std.specs.Prelude.{Option}
use Rattle.dmc_sim.specs.Simulation.{client_turn, send_to}
use Rattle.dmc_sim.specs.internal.Turns.{ClientAt}
use Rattle.dmc_sim.proofs.Endings.{passed_on}
use Rattle.dmc_sim.proofs.Sending.{none_next}
use Rattle.dmc_sim.proofs.round.send_marked.Goals as goal

pub returns-in_err-send-clause-turn : goal.returns-in_err-send-clause-turn
returns-in_err-send-clause-turn g c = λ scene sim h.
    passed_on (client_turn g.T.Tag.ops scene c.args.at c.args.client.now.scene sim) (λ x. ClientAt state_of scene c.send.new.core c.send.new.client) c.in_err-send.field-0.0 c.from_residual.result c.from_residual.ensures.1 (c.in_err-send.ensures.turn scene sim h)

pub returns-else-mark-clause-turn : goal.returns-else-mark-clause-turn
returns-else-mark-clause-turn g c = λ scene sim h.
    let client = c.args.client.now in
    let none = none_next scene sim.trace client h.counted (c.requires c.if-mark.false) in
    record { value = sim; is = ap (λ (o : Option ServerId). send_to g.T.Tag.ops c.args.at client.scene o sim) none; holds = h }
