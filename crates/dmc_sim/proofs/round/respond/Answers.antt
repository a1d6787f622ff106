use Rattle.std.proofs.Common.{◌∙◌, sym}
use Rattle.dmc_pull.specs.Queue.{state_of}
use Rattle.dmc_sim.proofs.Serving.{responded_counted}
use Rattle.dmc_sim.proofs.round.respond.Goals as goal

pub returns-then-is_counted-clause-turn : goal.returns-then-is_counted-clause-turn
returns-then-is_counted-clause-turn g c = λ scene sim h.
    responded_counted g.T.Tag.ops state_of scene c.args.grant.client c.args.server c.args.grant.phase c.args.grant.cost c.args.core.now c.ask.new.core c.args.clients.now c.in_ok-returned.returned c.in_ok-returned.ensures sim h
    c.count_completion.new.clients c.count_completion.auto.clients (sym c.is_counted.ensures ∙ c.if-is_counted.true) c.count_completion.ensures.counted
