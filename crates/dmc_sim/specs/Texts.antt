-- The text of a report.
use Rattle.std.specs.Prelude.{ℕ, Bool, true, false, List, [], ◌∷◌, ◌++◌, codes, flat_map}
use Rattle.std.specs.Fmt.{decimal}
use Rattle.dmc_sim.specs.declared.report.ClientReport.{ClientReport}
use Rattle.dmc_sim.specs.declared.report.ServerReport.{ServerReport}
use Rattle.dmc_sim.specs.declared.report.SimReport.{SimReport}

-- what a client's line ends with in the report of a scene with costs
abbrev pub cost_words : Bool → ℕ → List ℕ
cost_words true cost = codes " cost " ++ decimal cost
cost_words false cost = []

abbrev pub client_numbers : ClientReport → List ℕ
client_numbers row =
    codes "client " ++ (decimal row.client.0
    ++ (codes " sent " ++ (decimal row.sent
    ++ (codes " completed " ++ (decimal row.completed
    ++ (codes " reservation " ++ (decimal row.reservation
    ++ (codes " priority " ++ decimal row.priority))))))))

abbrev pub client_line : Bool → ClientReport → List ℕ
client_line with_costs row = client_numbers row ++ (cost_words with_costs row.cost ++ 10 ∷ [])

abbrev pub server_line : ServerReport → List ℕ
server_line row =
    codes "server " ++ (decimal row.server.0
    ++ (codes " reservation " ++ (decimal row.reservation
    ++ (codes " priority " ++ (decimal row.priority
    ++ (codes " left " ++ (decimal row.left ++ 10 ∷ [])))))))

-- a line for each client, one for each server, and the moment of the last round
abbrev pub report_text : SimReport → List ℕ
report_text report = flat_map (client_line report.with_costs) report.clients.items ++ flat_map server_line report.servers.items
    ++ codes "end " ++ decimal report.end ++ 10 ∷ []
