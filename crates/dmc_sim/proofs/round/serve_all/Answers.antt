use Rattle.std.proofs.Common.{◌≡◌, ◌≢◌, ◌+◌, ◌<◌, ◌≤◌, get_or, length, map, set, ap, ◌∙◌, arith}
use Rattle.std.specs.Prelude.{⊤}
use Rattle.dmc_pull.specs.Queue.{state_of}
use Rattle.dmc_sim.specs.Simulation.{server_turn, each_in_turn}
use Rattle.dmc_sim.specs.internal.Simulations.{AllAt}
use Rattle.dmc_sim.specs.internal.Turns.{ServerAt}
use Rattle.dmc_sim.proofs.Endings.{passed_up}
use Rattle.dmc_sim.proofs.Serving.{one_at, one_served, one_unserved}
use Rattle.std.proofs.Math.Seq.{map-set_same}
use Rattle.std.proofs.lemmas.List.{get_or-set_other}
use Rattle.std.proofs.lemmas.List.Elements.{All-set}
use Rattle.dmc_sim.specs.internal.Counts.{grants_of}
use Rattle.dmc_sim.specs.internal.Rows.{idle_row}
use Rattle.dmc_sim.specs.declared.report.ServerReport.{ServerReport}
use Rattle.dmc_sim.proofs.round.serve_all.Goals as goal

pub serve-requires-clause-ids : goal.serve-requires-clause-ids
serve-requires-clause-ids g c = rw c.loop-row.invariant.scenes c.requires.ids

pub serve-requires-clause-clients : goal.serve-requires-clause-clients
serve-requires-clause-clients g c = λ k d w.
    let most : (get_or c.loop-row.clients k d).completed ≤ 68719476672 + c.loop-row.row-index = c.loop-row.invariant.completed 68719476672 c.requires.clients k d w in
    let served : c.loop-row.row-index < length c.args.servers.now = omega arith in
    omega (arith, most, served, c.requires.some_servers)

pub loop-row-preserved : goal.loop-row-preserved
loop-row-preserved g c =
    let rows = c.loop-row.servers in
    let i = c.loop-row.row-index in
    let new = c.serve.new.row in
    let inv = c.loop-row.invariant in
    let within : i < length c.args.servers.now = omega arith in
    let here : i < length rows = omega arith in
    record {
      marks = omega arith;
      numbers = map-set_same (λ (r : ServerReport). r.server) rows i new (idle_row 0) c.in_ok-serve.ensures.server ∙ inv.numbers;
      untouched = λ k d h. let ne : k ≢ i = omega arith in get_or-set_other rows i k new d ne ∙ inv.untouched k d (omega (arith, h));
      grants = λ n h.
          let before : grants_of (get_or c.args.servers.now i (idle_row 0)) ≤ n = h i (idle_row 0) within in
          let same : grants_of (get_or rows i (idle_row 0)) ≡ grants_of (get_or c.args.servers.now i (idle_row 0)) = ap grants_of (inv.untouched i (idle_row 0) (omega arith)) in
          let more : grants_of new ≤ grants_of (get_or rows i (idle_row 0)) + 1 = c.in_ok-serve.ensures.grants in
          All-set (λ r. grants_of r ≤ n + 1) rows i new (omega (arith, before, same, more)) (inv.grants n h);
      scenes = c.in_ok-serve.ensures.scenes ∙ inv.scenes;
      completed = λ n h k d w.
          let most : (get_or c.serve.new.clients k d).completed ≤ n + i + 1 = c.in_ok-serve.ensures.completed (n + i) (inv.completed n h) k d w in
          omega (arith, most);
      marked = c.in_ok-serve.ensures.marked;
      turns = λ scene sim h.
          let all = map (λ (r : ServerReport). r.server) c.args.servers.now in
          let whole = each_in_turn (server_turn g.T.Tag.ops c.args.at) all sim in
          let r = inv.turns scene sim h in
          let at = one_at g.T.Tag.ops state_of scene c.args.at c.loop-row.core c.loop-row.clients rows all i (idle_row 0) here inv.numbers c.requires.different whole r in
          one_served g.T.Tag.ops state_of scene c.args.at c.loop-row.core c.loop-row.clients rows all i (idle_row 0) here inv.numbers c.requires.different whole r c.serve.new.core c.serve.new.clients new (c.in_ok-serve.ensures.turn scene r.value at);
    }

pub returns-in_err-serve-clause-turns : goal.returns-in_err-serve-clause-turns
returns-in_err-serve-clause-turns g c = λ scene sim h.
    let inv = c.loop-row.invariant in
    let rows = c.loop-row.servers in
    let i = c.loop-row.row-index in
    let within : i < length rows = omega arith in
    let all = map (λ (r : ServerReport). r.server) c.args.servers.now in
    let whole = each_in_turn (server_turn g.T.Tag.ops c.args.at) all sim in
    let r = inv.turns scene sim h in
    let at = one_at g.T.Tag.ops state_of scene c.args.at c.loop-row.core c.loop-row.clients rows all i (idle_row 0) within inv.numbers c.requires.different whole r in
    let refused = one_unserved g.T.Tag.ops state_of scene c.args.at c.loop-row.core c.loop-row.clients rows all i (idle_row 0) within inv.numbers c.requires.different whole r in
    passed_up (server_turn g.T.Tag.ops c.args.at (get_or rows i (idle_row 0)).server r.value) whole (λ (x : ⊤). ServerAt state_of scene c.serve.new.core c.serve.new.clients c.serve.new.row) (λ x. AllAt state_of scene c.serve.new.core c.serve.new.clients (set rows i c.serve.new.row)) c.in_err-serve.field-0.0 c.from_residual.result c.from_residual.ensures.1 refused
    (c.in_err-serve.ensures.turn scene r.value at)

pub serve-requires-clause-apart : goal.serve-requires-clause-apart
serve-requires-clause-apart g c = rw c.loop-row.invariant.scenes c.requires.apart

pub returns-clause-completed : goal.returns-clause-completed
returns-clause-completed g c = λ n h k d w.
    let most : (get_or c.loop-row.clients k d).completed ≤ n + c.loop-row.row-index = c.loop-row.invariant.completed n h k d w in
    let all : c.loop-row.row-index ≤ length c.args.servers.now = omega arith in
    omega (arith, most, all)
