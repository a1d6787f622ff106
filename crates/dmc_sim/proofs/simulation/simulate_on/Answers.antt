use Rattle.std.proofs.Common.{◌≡◌, length, map, not, sym, ap, ◌∙◌, subst, arith}
use Rattle.std.specs.List.{AllZip, list_all, range_with_len}
use Rattle.std.specs.Vec.{with_items}
use Rattle.std.proofs.lemmas.List.{length-map, with_items_is}
use Rattle.std.proofs.lemmas.List.FromFn.{length-range_with_len}
use Rattle.dmc_sim.specs.Reports.{IsClientRow, IsComplete}
use Rattle.dmc_sim.specs.internal.Rows.{row_of, idle_row}
use Rattle.dmc_sim.specs.declared.client.SimClient.{SimClient}
use Rattle.dmc_sim.specs.declared.report.ServerReport.{ServerReport}
use Rattle.dmc_sim.specs.internal.Simulations.{is_complete}
use Rattle.dmc_sim.proofs.RowLemmas.{client_rows, complete_rows, report_is, row_numbers}
use Rattle.dmc_sim.proofs.simulation.simulate_on.Given.{Over}
use Rattle.dmc_sim.proofs.simulation.simulate_on.Goals.{After-are_complete}
use Rattle.dmc_sim.proofs.simulation.simulate_on.Goals as goal
use Rattle.std.proofs.lemmas.Bool.{not-false}

pub run_scene-requires-clause-some_servers : goal.run_scene-requires-clause-some_servers
run_scene-requires-clause-some_servers g c =
    let n = c.servers.result in
    let rows : length c.deref_mut-2.result.now ≡ n =
    ap length (c.deref_mut-2.ensures.value ∙ c.in_ok-servers.ensures) ∙ length-map (range_with_len 0 n) idle_row ∙ length-range_with_len 0 n in
    omega (arith, rows, c.servers.ensures.limit)

-- ---- what the two clauses of the report share

scenes : (g : Over) (c : After-are_complete g) → map (λ (k : SimClient). k.scene) c.run_scene.new.clients ≡ c.args.scene.now.clients
scenes g c = c.in_ok-end.ensures.scenes ∙ ap (map (λ (k : SimClient). k.scene)) c.deref_mut.ensures.value ∙ c.in_ok-clients.ensures.scenes

held : (g : Over) (c : After-are_complete g) → (with_items c.in_ok-clients.clients c.run_scene.new.clients).items ≡ c.run_scene.new.clients
held g c = with_items_is c.in_ok-clients.clients c.run_scene.new.clients (omega (arith, c.run_scene.auto.clients, c.deref_mut.ensures.len))

held_servers : (g : Over) (c : After-are_complete g) → (with_items c.in_ok-servers.servers c.run_scene.new.servers).items ≡ c.run_scene.new.servers
held_servers g c = with_items_is c.in_ok-servers.servers c.run_scene.new.servers (omega (arith, c.run_scene.auto.servers, c.deref_mut-2.ensures.len))

rows : (g : Over) (c : After-are_complete g) → c.put_rows.new.rows.items ≡ map row_of c.run_scene.new.clients
rows g c = c.put_rows.ensures ∙ ap (map row_of) (c.deref.ensures.value ∙ held g c)

complete : (g : Over) (c : After-are_complete g) → c.are_complete.result ≡ list_all is_complete c.run_scene.new.clients
complete g c = c.are_complete.ensures ∙ ap (list_all is_complete) (c.deref-2.ensures.value ∙ held g c)

-- ---- the two clauses

pub returns-clause-simulates : goal.returns-clause-simulates
returns-clause-simulates g c =
    let a = (goal.at.returns-clause-simulates g c).After-are_complete in
    report_is g.T.Tag.ops c.args.scene.now c.run_scene.new.clients c.run_scene.new.servers c.in_ok-end.end c.in_ok-end.ensures.last (scenes g a)
    c.put_rows.new.rows.items _ (not c.are_complete.result) c.has_costs.result (rows g a) (held_servers g a) (ap not (complete g a)) c.has_costs.ensures

pub returns-clause-rows : goal.returns-clause-rows
returns-clause-rows g c =
    let a = (goal.at.returns-clause-rows g c).After-are_complete in
    let cs = c.run_scene.new.clients in
    record {
      clients = rw (rows g a) (subst (λ ss. AllZip IsClientRow ss (map row_of cs)) (scenes g a) (client_rows cs));
      servers = ap (map (λ (r : ServerReport). r.server.0)) (held_servers g a ∙ c.in_ok-end.ensures.last.holds.rows_are) ∙ row_numbers c.in_ok-end.ensures.last.value.1 0 c.args.scene.now.servers;
      in_time = λ e. rw (rows g a) (subst (λ ss. AllZip IsComplete ss (map row_of cs)) (scenes g a) (complete_rows cs (sym (complete g a) ∙ not-false c.are_complete.result e)));
    }
