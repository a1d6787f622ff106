-- A tracker's list of stamps, skips and responses, oldest first, and what its counts are. Two counts always go together:
-- delta, of the costs of all responses, and rho, of the costs of those of them in the constraint phase.
use Rattle.std.specs.Prelude.{◌≡◌, ℕ, ◌+◌, ◌<◌, ◌⊎◌, ◌==◌, Bool, false, if◌then◌else◌, List, [], ◌∷◌, ◌++◌, sum_by, count_by}
use Rattle.std.specs.List.{after_last}
use Rattle.dmc_types.specs.Limits.{max_count}
use Rattle.dmc_types.specs.Values.{Params, Counts, no_counts, counts_of, params_with, own_count}
use Rattle.dmc_types.specs.declared.ids.ServerId.{ServerId}
use Rattle.dmc_types.specs.declared.config.Counting.{Counting}
use Rattle.dmc_types.specs.declared.config.Counting.TheVariants.{All, Others}
use Rattle.dmc_types.specs.declared.config.PhaseType.{PhaseType}
use Rattle.dmc_types.specs.declared.config.PhaseType.TheVariants.{Reservation, Priority}
use Rattle.dmc_tracker.specs.declared.event.TrackerEvent.{TrackerEvent}
use Rattle.dmc_tracker.specs.declared.event.TrackerEvent.TheVariants.{Stamp, Skip, Response}

abbrev pub plus : Counts → Counts → Counts
plus a b = record { delta = a.delta + b.delta; rho = a.rho + b.rho }

-- the sum of what each entry of a list counts
abbrev pub total : (TrackerEvent → Counts) → List TrackerEvent → Counts
total f events = record { delta = sum_by (λ e. (f e).delta) events; rho = sum_by (λ e. (f e).rho) events }

-- a response of this cost in a phase
abbrev pub completed_in : PhaseType → ℕ → Counts
completed_in Reservation cost = record { delta = cost; rho = cost }
completed_in Priority cost = record { delta = cost; rho = 0 }

-- what an entry completes
abbrev pub completed_by : TrackerEvent → Counts
completed_by (Stamp server params) = no_counts
completed_by (Skip server) = no_counts
completed_by (Response server phase cost) = completed_in phase cost

-- what an entry counts for the next stamp to s: in `Others` the responses of s count nothing
abbrev pub counted_by : Counting → ServerId → TrackerEvent → Counts
counted_by counting s (Stamp server params) = no_counts
counted_by counting s (Skip server) = no_counts
counted_by All s (Response server phase cost) = completed_in phase cost
counted_by Others s (Response server phase cost) = if server.0 == s.0 then no_counts else completed_in phase cost

-- what an entry sends to s
abbrev pub sent_by : ServerId → TrackerEvent → Counts
sent_by s (Stamp server params) = if server.0 == s.0 then counts_of params else no_counts
sent_by s (Skip server) = no_counts
sent_by s (Response server phase cost) = no_counts

abbrev pub is_stamp_to : ServerId → TrackerEvent → Bool
is_stamp_to s (Stamp server params) = server.0 == s.0
is_stamp_to s (Skip server) = false
is_stamp_to s (Response server phase cost) = false

-- what a stamp to s costs, and 0 of another entry
abbrev pub stamp_cost : ServerId → TrackerEvent → ℕ
stamp_cost s (Stamp server params) = if server.0 == s.0 then params.cost else 0
stamp_cost s (Skip server) = 0
stamp_cost s (Response server phase cost) = 0

abbrev pub is_skip_of : ServerId → TrackerEvent → Bool
is_skip_of s (Stamp server params) = false
is_skip_of s (Skip server) = server.0 == s.0
is_skip_of s (Response server phase cost) = false

-- a stamp and a skip move the mark of their server: what is pending there begins anew
abbrev pub is_mark_of : ServerId → TrackerEvent → Bool
is_mark_of s (Stamp server params) = server.0 == s.0
is_mark_of s (Skip server) = server.0 == s.0
is_mark_of s (Response server phase cost) = false

abbrev pub is_response_in : ServerId → PhaseType → TrackerEvent → Bool
is_response_in s phase (Stamp server params) = false
is_response_in s phase (Skip server) = false
is_response_in s Reservation (Response server Reservation cost) = server.0 == s.0
is_response_in s Reservation (Response server Priority cost) = false
is_response_in s Priority (Response server Reservation cost) = false
is_response_in s Priority (Response server Priority cost) = server.0 == s.0

-- what a response of s in a phase costs, and 0 of another entry
abbrev pub response_cost : ServerId → PhaseType → TrackerEvent → ℕ
response_cost s phase (Stamp server params) = 0
response_cost s phase (Skip server) = 0
response_cost s phase (Response server given cost) = if is_response_in s phase (Response server given cost) then cost else 0

-- what a stamp counts for its own request, of this cost
abbrev pub own_share : Counting → ℕ → Counts
own_share counting cost = record { delta = own_count counting cost; rho = own_count counting cost }

-- the completions at all servers
abbrev pub completions : List TrackerEvent → Counts
completions events = total completed_by events

-- the completions at servers other than s
abbrev pub others : ServerId → List TrackerEvent → Counts
others s events = total (counted_by Others s) events

-- how many responses of s in a phase there are
abbrev pub responses : ServerId → PhaseType → List TrackerEvent → ℕ
responses s phase events = count_by (is_response_in s phase) events

-- what they cost together
abbrev pub response_costs : ServerId → PhaseType → List TrackerEvent → ℕ
response_costs s phase events = sum_by (response_cost s phase) events

-- the completions at s
abbrev pub completions_at : ServerId → List TrackerEvent → Counts
completions_at s events = record {
  delta = response_costs s Reservation events + response_costs s Priority events;
  rho = response_costs s Reservation events;
}

-- how many stamps to s there are
abbrev pub stamps : ServerId → List TrackerEvent → ℕ
stamps s events = count_by (is_stamp_to s) events

-- what the stamps to s cost together
abbrev pub stamp_costs : ServerId → List TrackerEvent → ℕ
stamp_costs s events = sum_by (stamp_cost s) events

-- how many skips of s there are
abbrev pub skips : ServerId → List TrackerEvent → ℕ
skips s events = count_by (is_skip_of s) events

-- how many stamps to s and skips of s there are
abbrev pub marks : ServerId → List TrackerEvent → ℕ
marks s events = count_by (is_mark_of s) events

-- the sum of the counts stamped to s
abbrev pub sent : ServerId → List TrackerEvent → Counts
sent s events = total (sent_by s) events

-- the responses after the last stamp or skip of s, or all if there is none, as the form counts them
abbrev pub pending : Counting → ServerId → List TrackerEvent → Counts
pending counting s events = total (counted_by counting s) (after_last (is_mark_of s) events)

-- what an entry skips at s, after the entries before it: a skip of s skips all that is pending there
abbrev pub skipped_by : Counting → ServerId → List TrackerEvent → TrackerEvent → Counts
skipped_by counting s before (Stamp server params) = no_counts
skipped_by counting s before (Skip server) = if server.0 == s.0 then pending counting s before else no_counts
skipped_by counting s before (Response server phase cost) = no_counts

-- the sum of what the entries of a list skip at s, after the entries before them
abbrev pub skipped_after : Counting → ServerId → (before events : List TrackerEvent) → Counts
skipped_after counting s before [] = no_counts
skipped_after counting s before (e ∷ es) = plus (skipped_by counting s before e) (skipped_after counting s (before ++ e ∷ []) es)

abbrev pub skipped : Counting → ServerId → List TrackerEvent → Counts
skipped counting s events = skipped_after counting s [] events

-- what the stamp of a request of this cost to s must carry after these entries
abbrev pub demanded : Counting → ServerId → ℕ → List TrackerEvent → Params
demanded counting s cost events = params_with (plus (pending counting s events) (own_share counting cost)) cost

-- each stamp of the list carries what the entries before it demand
abbrev pub IsTracked : Counting → List TrackerEvent → Type 0
IsTracked counting events = (before after : List TrackerEvent) (s : ServerId) (params : Params)
    → events ≡ before ++ Stamp s params ∷ after → params ≡ demanded counting s params.cost before

-- a response of this cost would take the completions past `most`
abbrev pub IsResponseFull : ℕ → ℕ → List TrackerEvent → Type 0
IsResponseFull most cost events = most < (completions events).delta + cost

-- A delta that no stamp may carry, if the deltas stamped to its server sum to `sent`: it is past the greatest count (a
-- rho is no more than its delta), or, in `Others`, it would take the sum past `most`.
abbrev pub IsTooMuch : Counting → (most sent delta : ℕ) → Type 0
IsTooMuch All most sent delta = max_count < delta
IsTooMuch Others most sent delta = (max_count < delta) ⊎ (most < sent + delta)

-- the delta that the stamp of a request of this cost to s must carry is too much
abbrev pub IsStampFull : Counting → ℕ → ServerId → ℕ → List TrackerEvent → Type 0
IsStampFull counting most s cost events = IsTooMuch counting most (sent s events).delta (demanded counting s cost events).delta
