-- What contracts see of a tracker: the numbers of a tracker list, and no list.
use Rattle.std.specs.Prelude.{◌≡◌, ℕ, ◌+◌, ◌<◌, ◌≤◌, List, length, map, replicate, slice_set, slice_index_or}
use Rattle.dmc_types.specs.Limits.{max_completions, max_servers}
use Rattle.dmc_types.specs.Values.{Params, Counts, no_counts, params_with}
use Rattle.dmc_types.specs.declared.ids.ServerId.{ServerId}
use Rattle.dmc_types.specs.declared.config.Counting.{Counting}
use Rattle.dmc_types.specs.declared.config.Counting.TheVariants.{All, Others}
use Rattle.dmc_types.specs.declared.config.PhaseType.{PhaseType}
use Rattle.dmc_tracker.specs.declared.event.TrackerEvent.{TrackerEvent}
use Rattle.dmc_tracker.specs.TrackerList.{plus, completed_in, own_share, completions, sent, skipped, pending, IsTooMuch}

-- what was sent to a server, what was skipped and what is pending there
pub record ServerNumbers : Type 0 where
  pub sent : Counts
  pub skipped : Counts
  pub pending : Counts

pub record Numbers : Type 0 where
  pub counting : Counting
  pub most : ℕ
  pub completions : Counts
  pub servers : List ServerNumbers

abbrev pub no_numbers : ServerNumbers
no_numbers = record { sent = no_counts; skipped = no_counts; pending = no_counts }

-- the limits of a tracker
pub record AreLimits (servers most : ℕ) : Type 0 where
  pub some_servers : 0 < servers
  pub servers_limit : servers ≤ max_servers
  pub some_most : 0 < most
  pub max_limit : most ≤ max_completions

-- no entry yet
abbrev pub new_numbers : Counting → ℕ → ℕ → Numbers
new_numbers counting most servers = record {
  counting = counting;
  most = most;
  completions = no_counts;
  servers = replicate servers no_numbers;
}

abbrev pub sent_pair : ServerNumbers → ℕ × ℕ
sent_pair server = (server.sent.delta, server.sent.rho)

abbrev pub skipped_pair : ServerNumbers → ℕ × ℕ
skipped_pair server = (server.skipped.delta, server.skipped.rho)

abbrev pub pending_pair : ServerNumbers → ℕ × ℕ
pending_pair server = (server.pending.delta, server.pending.rho)

-- the numbers of a server
abbrev pub numbers_at : Numbers → ServerId → ServerNumbers
numbers_at numbers s = slice_index_or numbers.servers s.0 no_numbers

-- what the next stamp to s counts, if its request has this cost, and what it carries
abbrev pub next_counts : Numbers → ServerId → ℕ → Counts
next_counts numbers s cost = plus (numbers_at numbers s).pending (own_share numbers.counting cost)

abbrev pub next_params : Numbers → ServerId → ℕ → Params
next_params numbers s cost = params_with (next_counts numbers s cost) cost

-- the delta of the next stamp to s is too much
pub record IsFullAt (numbers : Numbers) (s : ServerId) (cost : ℕ) : Type 0 where
  pub within : s.0 < length numbers.servers
  pub past : IsTooMuch numbers.counting numbers.most (numbers_at numbers s).sent.delta (next_counts numbers s cost).delta

-- a response of this cost would take the completions past `most`
pub record IsCompleteAt (numbers : Numbers) (s : ServerId) (cost : ℕ) : Type 0 where
  pub within : s.0 < length numbers.servers
  pub past : numbers.most < numbers.completions.delta + cost

-- a stamp to s sends what was pending there, and its own share
abbrev pub after_stamp : ServerId → ℕ → Numbers → Numbers
after_stamp s cost numbers = record numbers {
  servers = slice_set numbers.servers s.0 (record {
    sent = plus (numbers_at numbers s).sent (next_counts numbers s cost);
    skipped = (numbers_at numbers s).skipped;
    pending = no_counts;
  });
}

-- a skip of s skips what was pending there, and sends nothing
abbrev pub after_skip : ServerId → Numbers → Numbers
after_skip s numbers = record numbers {
  servers = slice_set numbers.servers s.0 (record {
    sent = (numbers_at numbers s).sent;
    skipped = plus (numbers_at numbers s).skipped (numbers_at numbers s).pending;
    pending = no_counts;
  });
}

-- a response becomes pending
abbrev pub grown : PhaseType → ℕ → ServerNumbers → ServerNumbers
grown phase cost server = record server { pending = plus server.pending (completed_in phase cost) }

-- a response of s becomes pending at each server, in `Others` at each but s
abbrev pub servers_grown : Counting → ServerId → PhaseType → ℕ → List ServerNumbers → List ServerNumbers
servers_grown All s phase cost servers = map (grown phase cost) servers
servers_grown Others s phase cost servers = slice_set (map (grown phase cost) servers) s.0 (slice_index_or servers s.0 no_numbers)

abbrev pub after_response : ServerId → PhaseType → ℕ → Numbers → Numbers
after_response s phase cost numbers = record numbers {
  completions = plus numbers.completions (completed_in phase cost);
  servers = servers_grown numbers.counting s phase cost numbers.servers;
}

-- the numbers of s in a list
abbrev pub numbers_of : Counting → ServerId → List TrackerEvent → ServerNumbers
numbers_of counting s events = record {
  sent = sent s events;
  skipped = skipped counting s events;
  pending = pending counting s events;
}

-- the numbers are those of the list
pub record RepresentsEvents (numbers : Numbers) (events : List TrackerEvent) : Type 0 where
  pub completed : numbers.completions ≡ completions events
  pub each : (s : ServerId) → s.0 < length numbers.servers
      → numbers_at numbers s ≡ numbers_of numbers.counting s events

-- what no call changes: the form, `most` and how many servers there are
pub record Keeps (old new : Numbers) : Type 0 where
  pub counting : new.counting ≡ old.counting
  pub most : new.most ≡ old.most
  pub servers : length new.servers ≡ length old.servers
