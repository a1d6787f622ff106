-- The scene of two clients, and its report, computed.
use Rattle.std.specs.Prelude.{ℕ, List, [], ◌∷◌, Some, None, Result}
use Rattle.dmc_types.specs.Values.{Rates}
use Rattle.dmc_types.specs.declared.config.Counting.{Counting}
use Rattle.dmc_types.specs.declared.config.Counting.TheVariants.{All}
use Rattle.dmc_types.specs.declared.config.TagKind.TheVariants.{Tick}
use Rattle.dmc_types.specs.declared.refusal.Refusal.{Refusal}
use Rattle.dmc_tag.specs.Examples.{waiting}
use Rattle.dmc_tick.specs.Tick.{tick_ops}
use Rattle.dmc_scene.specs.SceneValue.{SceneValue, ClientValue}
use Rattle.dmc_sim.specs.Reports.{ReportValue, report_of}
use Rattle.dmc_sim.specs.declared.report.ClientReport.{ClientReport}
use Rattle.dmc_sim.specs.declared.report.ServerReport.{ServerReport}

-- two requests, one outstanding at once
abbrev pub client : ℕ → Rates → ClientValue
client id info = record { id = record { 0 = id }; info = info; requests = 2; window = 1; costs = None }

-- the same, with requests of these costs
abbrev pub client_of_costs : ℕ → Rates → List ℕ → ClientValue
client_of_costs id info costs = record (client id info) { costs = Some costs }

-- client 1 with a reservation of 10 and weight 1, client 2 with weight 2; one server, and 50 ticks a round
abbrev pub two_clients : Counting → ℕ → SceneValue
two_clients counting max_pulls = record {
  config = waiting;
  tags = Tick;
  servers = 1;
  workers = 1;
  step = 50;
  seed = 1;
  max_pulls = max_pulls;
  counting = counting;
  clients = client 1 (record { reservation = Some 10; weight = 1; limit = None }) ∷ client 2 (record { reservation = None; weight = 2; limit = None }) ∷ [];
}

-- The first client's requests cost 1 and 4, and the second's 2 each.
abbrev pub two_costs : SceneValue
two_costs = record (two_clients All 100) {
  clients = client_of_costs 1 (record { reservation = Some 10; weight = 1; limit = None }) (1 ∷ 4 ∷ [])
      ∷ client_of_costs 2 (record { reservation = None; weight = 2; limit = None }) (2 ∷ []) ∷ [];
}

abbrev pub report : SceneValue → Result ReportValue Refusal
report scene = report_of tick_ops scene

abbrev pub client_row : (client sent completed reservation priority cost : ℕ) → ClientReport
client_row client sent completed reservation priority cost = record {
  client = record { 0 = client };
  sent = sent;
  completed = completed;
  reservation = reservation;
  priority = priority;
  cost = cost;
}

abbrev pub server_row : (server reservation priority left : ℕ) → ServerReport
server_row server reservation priority left = record { server = record { 0 = server }; reservation = reservation; priority = priority; left = left }
