use Rattle.std.proofs.Common.{◌∙◌, sym}
use Rattle.dmc_sim.proofs.Sending.{some_next}
use Rattle.dmc_sim.proofs.round.send.Goals as goal

pub returns-in-Some-clause-turn : goal.returns-in-Some-clause-turn
returns-in-Some-clause-turn g c = λ scene sim h.
    let next = some_next scene sim.trace c.args.client.now c.in-Some.server h.counted (sym c.next_server.ensures.server ∙ c.in-Some.is) in
    rw next (c.send_to.ensures.turn scene sim h)
