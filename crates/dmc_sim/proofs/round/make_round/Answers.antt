use Rattle.std.proofs.Common.{map}
use Rattle.std.specs.Prelude.{⊤}
use Rattle.std.proofs.lemmas.Result.{on_ok_weaker}
use Rattle.dmc_pull.specs.Queue.{state_of}
use Rattle.dmc_sim.specs.Simulation.{client_turn, each_in_turn, round}
use Rattle.dmc_sim.specs.internal.Simulations.{AllAt, ClientsAt}
use Rattle.dmc_sim.specs.declared.client.SimClient.{SimClient}
use Rattle.dmc_sim.specs.declared.report.ServerReport.{ServerReport}
use Rattle.dmc_sim.proofs.Endings.{passed_up}
use Rattle.dmc_sim.proofs.Rounds.{first_refused, all_sent, second_ends}
use Rattle.dmc_sim.proofs.round.make_round.Goals as goal

pub returns-in_err-send_all-clause-round : goal.returns-in_err-send_all-clause-round
returns-in_err-send_all-clause-round g c = λ scene k sim at_is clients_are servers_are h.
    let ops = g.T.Tag.ops in
    let cs = map (λ (x : SimClient). x.scene) c.args.clients.now in
    let ss = map (λ (x : ServerReport). x.server) c.args.servers.now in
    passed_up (each_in_turn (client_turn ops scene c.args.at) cs sim) (round ops scene k sim) (λ (x : ⊤). ClientsAt state_of scene c.send_all.new.core c.send_all.new.clients) (λ x. AllAt state_of scene c.send_all.new.core c.send_all.new.clients c.args.servers.now)
    c.in_err-send_all.field-0.0 c.from_residual.result c.from_residual.ensures.1 (first_refused ops state_of scene k c.args.at at_is cs clients_are ss servers_are sim) (c.in_err-send_all.ensures.turns scene sim h.at)

pub returns-clause-completed : goal.returns-clause-completed
returns-clause-completed g c = on_ok_weaker c.serve_all.result (λ more n h. more n (c.in_ok-send_all.ensures.completed n h)) c.serve_all.ensures.completed

pub returns-clause-round : goal.returns-clause-round
returns-clause-round g c = λ scene k sim at_is clients_are servers_are h.
    let ops = g.T.Tag.ops in
    let cs = map (λ (x : SimClient). x.scene) c.args.clients.now in
    let ss = map (λ (x : ServerReport). x.server) c.args.servers.now in
    let sent = c.in_ok-send_all.ensures.turns scene sim h.at in
    let between = all_sent ops state_of scene k c.args.at at_is cs clients_are ss servers_are sim c.args.core.now c.send_all.new.core c.args.clients.now c.send_all.new.clients c.args.servers.now h sent in
    second_ends ops state_of scene k c.args.at at_is cs clients_are ss servers_are sim c.args.core.now c.send_all.new.core c.args.clients.now c.send_all.new.clients c.args.servers.now h sent
    (AllAt state_of scene c.serve_all.new.core c.serve_all.new.clients c.serve_all.new.servers) c.serve_all.result (c.serve_all.ensures.turns scene sent.value between)
