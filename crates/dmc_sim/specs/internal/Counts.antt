-- Bounds of the counts of a simulation: a server grants at most one request a round. And that the servers differ.
use Rattle.std.specs.Prelude.{◌≢◌, ℕ, ◌+◌, ◌≤◌, All, List}
use Rattle.dmc_types.specs.declared.ids.ServerId.{ServerId}
use Rattle.dmc_sim.specs.declared.client.SimClient.{SimClient}
use Rattle.dmc_sim.specs.declared.report.ServerReport.{ServerReport}

-- the grants of a server
abbrev pub grants_of : ServerReport → ℕ
grants_of row = row.reservation + row.priority

-- no server has granted more than this
abbrev pub HaveGranted : ℕ → List ServerReport → Type 0
HaveGranted n rows = All (λ row. grants_of row ≤ n) rows

-- no client has had more completions than this
abbrev pub HaveCompleted : ℕ → List SimClient → Type 0
HaveCompleted n clients = All (λ c. c.completed ≤ n) clients

-- two servers have different numbers
abbrev pub AreDifferent : ServerId → ServerId → Type 0
AreDifferent a b = a.0 ≢ b.0
