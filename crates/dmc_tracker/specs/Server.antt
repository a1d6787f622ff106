-- What a tracker keeps for a server, in the place of a list. No public clause cites this module.
use Rattle.std.specs.Prelude.{◌≡◌, ℕ, ◌<◌, ◌≤◌, List, length, map, All as Each}
use Rattle.dmc_types.specs.Limits.{max_completions, max_servers}
use Rattle.dmc_types.specs.Values.{Counts}
use Rattle.dmc_types.specs.declared.config.Counting.{Counting}
use Rattle.dmc_types.specs.declared.config.Counting.TheVariants.{All, Others}
use Rattle.dmc_tracker.specs.declared.server.ServerCounts.{ServerCounts}
use Rattle.dmc_tracker.specs.Parts.{minus, IsPart}
use Rattle.dmc_tracker.specs.TrackerList.{plus}
use Rattle.dmc_tracker.specs.Numbers.{Numbers, ServerNumbers}

-- the completions that the stamps to a server count
abbrev pub counted_at : Counting → Counts → ServerCounts → Counts
counted_at All completions server = completions
counted_at Others completions server = minus completions server.own

-- what contracts see of it
abbrev pub numbers_now : Counting → Counts → ServerCounts → ServerNumbers
numbers_now counting completions server = record {
  sent = server.sent;
  skipped = server.skipped;
  pending = minus (counted_at counting completions server) server.mark;
}

-- what contracts see of a tracker
abbrev pub view_of : Counting → ℕ → Counts → List ServerCounts → Numbers
view_of counting most completions servers = record {
  counting = counting;
  most = most;
  completions = completions;
  servers = map (numbers_now counting completions) servers;
}

pub record IsKept (counting : Counting) (most : ℕ) (completions : Counts) (server : ServerCounts) : Type 0 where
  pub own : IsPart server.own completions
  pub mark : IsPart server.mark (counted_at counting completions server)
  pub sent_rho : server.sent.rho ≤ server.sent.delta
  pub sent_most : server.sent.delta ≤ most
  pub skipped_rho : server.skipped.rho ≤ server.skipped.delta
  pub skipped_mark : server.skipped.delta ≤ server.mark.delta
  pub sent_all : counting ≡ All → plus server.sent server.skipped ≡ server.mark

pub record AreKept (counting : Counting) (most : ℕ) (completions : Counts) (servers : List ServerCounts) : Type 0 where
  pub some_most : 0 < most
  pub max_limit : most ≤ max_completions
  pub some_servers : 0 < length servers
  pub servers_limit : length servers ≤ max_servers
  pub completions_rho : completions.rho ≤ completions.delta
  pub completions_most : completions.delta ≤ most
  pub each : Each (IsKept counting most completions) servers
