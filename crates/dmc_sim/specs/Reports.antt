-- The report of a simulation.
use Rattle.std.specs.Prelude.{◌≡◌, ℕ, zero, suc, ◌+◌, ◌-◌, ◌≤◌, not, Bool, false, ⊤, List, length, map, slice_get, option_map, unwrap_or, Result, Ok, Err}
use Rattle.std.specs.List.{AllZip, find, range_with_len}
use Rattle.std.specs.Option.{option_map_or}
use Rattle.dmc_types.specs.declared.ids.ClientId.{ClientId}
use Rattle.dmc_types.specs.declared.ids.ServerId.{ServerId}
use Rattle.dmc_types.specs.declared.config.PhaseType.TheVariants.{Reservation, Priority}
use Rattle.dmc_types.specs.declared.config.TagKind.{TagKind}
use Rattle.dmc_types.specs.declared.config.TagKind.TheVariants.{Tick, Ratio}
use Rattle.dmc_types.specs.declared.refusal.Refusal.{Refusal}
use Rattle.dmc_tag.specs.State.{is_client, queued_requests}
use Rattle.dmc_tag.specs.Tag.{Tagging}
use Rattle.dmc_tag.specs.Outcome.{◌>>=◌}
use Rattle.dmc_tick.specs.Tick.{tick_ops}
use Rattle.dmc_ratio.specs.Ratio.{ratio_ops}
use Rattle.dmc_scene.specs.SceneValue.{SceneValue, ClientValue, has_costs}
use Rattle.dmc_tracker.specs.TrackerList.{completions}
use Rattle.dmc_core.specs.Run.{Run}
use Rattle.dmc_sim.specs.Simulation.{Entry, Sim, sent_by, completed_by, reserved_by, granted_by, all_complete, servers_of, moment_of, simulation}
use Rattle.dmc_sim.specs.declared.report.ClientReport.{ClientReport}
use Rattle.dmc_sim.specs.declared.report.ServerReport.{ServerReport}
use Rattle.dmc_sim.specs.declared.report.SimReport.{SimReport}
use Rattle.dmc_sim.specs.declared.report.SimFault.{SimFault}
use Rattle.dmc_sim.specs.declared.report.SimFault.TheVariants.{Refused, Memory}

-- a report in plain data
pub record ReportValue : Type 0 where
  pub clients : List ClientReport
  pub servers : List ServerReport
  pub end : ℕ
  pub turns_out : Bool
  pub with_costs : Bool

abbrev pub value_of : SimReport → ReportValue
value_of report = record {
  clients = report.clients.items;
  servers = report.servers.items;
  end = report.end;
  turns_out = report.turns_out;
  with_costs = report.with_costs;
}

-- the costs of a client's completions, as its tracker counts them
abbrev pub cost_of : {T : Type 0} → Run T → ClientId → ℕ
cost_of run id = option_map_or (λ c. (completions c.list).delta) (find (λ c. is_client id c.id) run.clients) 0

abbrev pub client_row : {T : Type 0} → Sim T → ClientValue → ClientReport
client_row sim c = record {
  client = c.id;
  sent = sent_by c.id sim.trace;
  completed = completed_by c.id sim.trace;
  reservation = reserved_by c.id sim.trace;
  priority = completed_by c.id sim.trace - reserved_by c.id sim.trace;
  cost = cost_of sim.run c.id;
}

-- how many requests are queued at a server
abbrev pub left_at : {T : Type 0} → Run T → ServerId → ℕ
left_at run s = unwrap_or (option_map (λ state. length (queued_requests state.clients)) (slice_get run.servers s.0)) 0

abbrev pub server_row : {T : Type 0} → Sim T → ServerId → ServerReport
server_row sim s = record {
  server = s;
  reservation = granted_by s Reservation sim.trace;
  priority = granted_by s Priority sim.trace;
  left = left_at sim.run s;
}

-- the moment of the last of this many rounds, 0 if there is none
abbrev pub end_of : SceneValue → ℕ → ℕ
end_of scene zero = 0
end_of scene (suc k) = moment_of scene k

abbrev pub report_after : {T : Type 0} → SceneValue → ℕ → Sim T → ReportValue
report_after scene made sim = record {
  clients = map (client_row sim) scene.clients;
  servers = map (server_row sim) (servers_of scene);
  end = end_of scene made;
  turns_out = not (all_complete scene sim.trace);
  with_costs = has_costs scene.clients;
}

-- the report of a scene, or the refusal that ends its simulation
abbrev pub report_of : {T : Type 0} → Tagging T → SceneValue → Result ReportValue Refusal
report_of ops scene = do
  (made, sim) ← simulation ops scene
  Ok (report_after scene made sim)

-- ---- what a call of `simulate` returns

-- The report is that of the scene, and the refusal is the one that ends its simulation. An allocation may fail at any time, and
-- then nothing is claimed.
abbrev pub SimulatesBy : {T : Type 0} → Tagging T → SceneValue → Result SimReport SimFault → Type 0
SimulatesBy ops scene (Ok report) = report_of ops scene ≡ Ok (value_of report)
SimulatesBy ops scene (Err (Refused refusal)) = report_of ops scene ≡ Err refusal
SimulatesBy ops scene (Err Memory) = ⊤

abbrev pub SimulatesOn : TagKind → SceneValue → Result SimReport SimFault → Type 0
SimulatesOn Tick = SimulatesBy tick_ops
SimulatesOn Ratio = SimulatesBy ratio_ops

-- the simulation on the tags that the scene names
abbrev pub Simulates : SceneValue → Result SimReport SimFault → Type 0
Simulates scene = SimulatesOn scene.tags scene

-- ---- what is true of every report

-- the row of a client of the scene: it sent no more than its requests, and each completion is of one phase
pub record IsClientRow (c : ClientValue) (row : ClientReport) : Type 0 where
  pub client : row.client ≡ c.id
  pub sent : row.sent ≤ c.requests
  pub phases : row.completed ≡ row.reservation + row.priority

-- all requests of the client are completed
abbrev pub IsComplete : ClientValue → ClientReport → Type 0
IsComplete c row = row.completed ≡ c.requests

-- A row for each client in the scene's order, and a row for each server by number. If the round limit was not reached, all
-- requests are completed.
pub record IsReportOf (scene : SceneValue) (report : SimReport) : Type 0 where
  pub clients : AllZip IsClientRow scene.clients report.clients.items
  pub servers : map (λ r. r.server.0) report.servers.items ≡ range_with_len 0 scene.servers
  pub in_time : report.turns_out ≡ false → AllZip IsComplete scene.clients report.clients.items
