use Rattle.std.proofs.Common.{sym}
use Rattle.dmc_pull.specs.Queue.{state_of}
use Rattle.dmc_sim.proofs.Serving.{after_pull, clients_after, none_granted, one_granted}
use Rattle.dmc_sim.proofs.round.serve.Goals as goal

pub returns-in-Some-clause-turn : goal.returns-in-Some-clause-turn
returns-in-Some-clause-turn g c = λ scene sim h.
    let counted = c.count_grant.ensures in
    let before = clients_after g.T.Tag.ops state_of scene c.args.at c.args.core.now c.ask.new.core c.args.clients.now c.args.row.now c.in_ok-returned.returned c.in_ok-returned.ensures sim h in
    one_granted g.T.Tag.ops state_of scene c.args.at c.args.core.now c.ask.new.core c.args.clients.now c.args.row.now c.in_ok-returned.returned c.in_ok-returned.ensures sim h
    c.in-Some.grant (sym c.in-Some.ensures) c.count_grant.new.row (record { server = counted.server; reservation = counted.reservation; priority = counted.priority }) c.respond.new.core c.respond.new.clients c.respond.result
    (c.respond.ensures.turn scene (after_pull g.T.Tag.ops state_of scene c.args.at c.args.core.now c.ask.new.core c.args.clients.now c.args.row.now c.in_ok-returned.returned c.in_ok-returned.ensures sim h) before)

pub returns-in-None-clause-turn : goal.returns-in-None-clause-turn
returns-in-None-clause-turn g c = λ scene sim h.
    none_granted g.T.Tag.ops state_of scene c.args.at c.args.core.now c.ask.new.core c.args.clients.now c.args.row.now c.in_ok-returned.returned c.in_ok-returned.ensures sim h (sym c.in-None.ensures)
