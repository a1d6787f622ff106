-- The text of a run's report.
use Rattle.std.specs.Prelude.{ℕ, ◌+◌, Bool, List, [], ◌∷◌, ◌++◌, codes, flat_map, sum_by}
use Rattle.std.specs.Fmt.{decimal}
use Rattle.dmc_sim.specs.Texts.{cost_words}
use Rattle.dmc_check.specs.declared.check.Verdict.{Verdict}
use Rattle.dmc_check.specs.declared.check.Verdict.TheVariants.{Replays, Differs}
use Rattle.dmc_settle.specs.declared.report.ClientReport.{ClientReport}
use Rattle.dmc_settle.specs.declared.report.ServerReport.{ServerReport}
use Rattle.dmc_settle.specs.declared.report.ClusterReport.{ClusterReport}

abbrev pub client_numbers : ClientReport → List ℕ
client_numbers row =
    codes "client " ++ (decimal row.client.0
    ++ (codes " sent " ++ (decimal row.sent
    ++ (codes " completed " ++ (decimal row.completed
    ++ (codes " failed " ++ (decimal row.failed
    ++ (codes " units " ++ decimal row.held.stamps))))))))

-- the cost of its completed requests is at its end if a client of the scene has costs
abbrev pub client_line : Bool → ClientReport → List ℕ
client_line with_costs row = client_numbers row ++ (cost_words with_costs row.cost ++ 10 ∷ [])

abbrev pub verdict_text : Verdict → List ℕ
verdict_text Replays = codes "replays"
verdict_text (Differs i) = codes "differs " ++ decimal i

-- the units are those of both phases
abbrev pub server_line : {T : Type 0} → ServerReport T → Verdict → List ℕ
server_line row verdict =
    codes "server " ++ (decimal row.server.0
    ++ (codes " left " ++ (decimal row.left
    ++ (codes " units " ++ (decimal (row.held.reservation + row.held.priority)
    ++ (codes " " ++ (verdict_text verdict ++ 10 ∷ [])))))))

abbrev pub server_lines : {T : Type 0} → List (ServerReport T) → List Verdict → List ℕ
server_lines [] verdicts = []
server_lines (row ∷ rows) [] = []
server_lines (row ∷ rows) (verdict ∷ verdicts) = server_line row verdict ++ server_lines rows verdicts

abbrev pub total_line : List ClientReport → List ℕ
total_line rows =
    codes "total sent " ++ (decimal (sum_by (λ r. r.sent) rows)
    ++ (codes " completed " ++ (decimal (sum_by (λ r. r.completed) rows) ++ 10 ∷ [])))

-- a line for each client, one for each server, and the totals
abbrev pub report_text : {T : Type 0} → Bool → ClusterReport T → List Verdict → List ℕ
report_text with_costs report verdicts =
    flat_map (client_line with_costs) report.clients.items ++ (server_lines report.servers.items verdicts ++ total_line report.clients.items)
