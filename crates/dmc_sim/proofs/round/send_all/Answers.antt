use Rattle.std.proofs.Common.{◌≡◌, ◌<◌, ◌≤◌, length, get_or, set, map, sym, ◌∙◌, arith}
use Rattle.std.specs.Prelude.{⊤}
use Rattle.std.proofs.Math.Seq.{map-set_same}
use Rattle.std.proofs.lemmas.List.{length-set}
use Rattle.std.proofs.lemmas.List.Elements.{All-set}
use Rattle.dmc_pull.specs.Queue.{state_of}
use Rattle.dmc_sim.specs.Simulation.{client_turn, each_in_turn}
use Rattle.dmc_sim.specs.internal.Simulations.{ClientsAt}
use Rattle.dmc_sim.specs.internal.Turns.{ClientAt}
use Rattle.dmc_sim.specs.declared.client.SimClient.{SimClient}
use Rattle.dmc_sim.proofs.Clients.{marked_with}
use Rattle.dmc_sim.proofs.Endings.{passed_up}
use Rattle.dmc_sim.proofs.Sending.{client_at, one_sent, one_refused}
use Rattle.dmc_sim.proofs.round.send_all.Goals as goal

pub send_marked-requires : goal.send_marked-requires
send_marked-requires g c = c.loop-place.invariant.marked c.loop-place.place c.index-clients-place.result (omega arith)

pub returns-in_err-send_marked-clause-turns : goal.returns-in_err-send_marked-clause-turns
returns-in_err-send_marked-clause-turns g c = λ scene sim h.
    let clients = c.loop-place.clients in
    let i = c.loop-place.place in
    let item = c.index-clients-place.result in
    let within : i < length clients = omega arith in
    let all = map (λ (k : SimClient). k.scene) c.args.clients.now in
    let whole = each_in_turn (client_turn g.T.Tag.ops scene c.args.at) all sim in
    let r = c.loop-place.invariant.turns scene sim h in
    let turn = client_turn g.T.Tag.ops scene c.args.at (get_or clients i item).scene r.value in
    let at = client_at g.T.Tag.ops state_of scene c.args.at c.loop-place.core clients all i item within c.loop-place.invariant.scenes c.requires.apart whole r in
    let refused = one_refused g.T.Tag.ops state_of scene c.args.at c.loop-place.core clients all i item within c.loop-place.invariant.scenes c.requires.apart whole r in
    passed_up turn whole (λ (x : ⊤). ClientAt state_of scene c.send_marked.new.core c.send_marked.new.client) (λ x. ClientsAt state_of scene c.send_marked.new.core (set clients i c.send_marked.new.client)) c.in_err-send_marked.field-0.0 c.from_residual.result c.from_residual.ensures.1 refused
    (c.in_err-send_marked.ensures.turn scene r.value at)

pub loop-place-preserved : goal.loop-place-preserved
loop-place-preserved g c =
    let clients = c.loop-place.clients in
    let i = c.loop-place.place in
    let item = c.index-clients-place.result in
    let new = c.send_marked.new.client in
    let within : i < length clients = omega arith in
    let same : new.scene ≡ (get_or clients i item).scene = c.in_ok-send_marked.ensures.scene in
    let as_many : new.completed ≡ (get_or clients i item).completed = c.in_ok-send_marked.ensures.completed in
    record {
      marks = length-set c.loop-place.marks i c.send_marked.new.mark ∙ c.loop-place.invariant.marks ∙ sym (length-set clients i new);
      scenes = map-set_same (λ (k : SimClient). k.scene) clients i new item same ∙ c.loop-place.invariant.scenes;
      completed = λ n h.
          let all = c.loop-place.invariant.completed n h in
          All-set (λ (k : SimClient). k.completed ≤ n) clients i new (rw as_many (all i item within)) all;
      marked = marked_with c.loop-place.marks clients i c.send_marked.new.mark new c.loop-place.invariant.marks c.loop-place.invariant.marked c.in_ok-send_marked.ensures.mark;
      turns = λ scene sim h.
          let all = map (λ (k : SimClient). k.scene) c.args.clients.now in
          let whole = each_in_turn (client_turn g.T.Tag.ops scene c.args.at) all sim in
          let r = c.loop-place.invariant.turns scene sim h in
          let at = client_at g.T.Tag.ops state_of scene c.args.at c.loop-place.core clients all i item within c.loop-place.invariant.scenes c.requires.apart whole r in
          one_sent g.T.Tag.ops state_of scene c.args.at c.loop-place.core clients all i item within c.loop-place.invariant.scenes c.requires.apart whole r c.send_marked.new.core new (c.in_ok-send_marked.ensures.turn scene r.value at);
    }
