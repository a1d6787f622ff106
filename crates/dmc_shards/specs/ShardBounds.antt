-- The bounds of the limit and of the reservation across the shards of a server. The arrivals of a client at a shard, a_1, a_2, ..,
-- are the accepted adds of the client in the history of the shard's queue.
use Rattle.std.specs.Prelude.{◌≡◌, ℕ, zero, suc, ◌+◌, ◌*◌, ◌-◌, ◌≤◌, ◌==◌, Bool, true, false, if◌then◌else◌, List, [], ◌∷◌, ◌++◌, map, take, drop, length, slice_index_or, Option, Some, None}
use Rattle.dmc_types.specs.Values.{Params, Counts, Setting, no_counts}
use Rattle.dmc_types.specs.declared.ids.ClientId.{ClientId}
use Rattle.dmc_types.specs.declared.ids.ServerId.{ServerId}
use Rattle.dmc_types.specs.declared.config.PhaseType.TheVariants.{Reservation, Priority}
use Rattle.dmc_tag.specs.Tag.{Tagging}
use Rattle.dmc_tag.specs.Replay.{after, replays}
use Rattle.dmc_tag.specs.declared.event.Event.{Event}
use Rattle.dmc_tracker.specs.TrackerList.{plus}
use Rattle.dmc_history_laws.specs.Bounds.{Arrival, NeverCancelled, Span, WaitingSpan, IsOf, arrivals, between, given_back as given_back_by_cancels, limit_of, priorities, reservation_of, ticks}
use Rattle.dmc_shards.specs.declared.call.ShardCall.{ShardCall}
use Rattle.dmc_shards.specs.declared.call.ShardCall.TheVariants.{Arrive, GiveBack, Skip}
use Rattle.dmc_shards.specs.CallList.{came, demanded, given_back, skipped_after, stamped_by}

-- ---- the stamps of a list of calls, which are numbered from 0

-- the stamp for s of a call, after the calls before it, if it is an arrival there
abbrev pub stamp_by : ServerId → List ShardCall → ShardCall → Option Params
stamp_by s before (Arrive shard params) = if shard.0 == s.0 then Some (demanded s params before) else None
stamp_by s before (GiveBack shard params) = None
stamp_by s before (Skip shard) = None

abbrev pub stamp_after : ServerId → (before calls : List ShardCall) → ℕ → Option Params
stamp_after s before [] n = None
stamp_after s before (c ∷ cs) zero = stamp_by s before c
stamp_after s before (c ∷ cs) (suc n) = stamp_after s (before ++ c ∷ []) cs n

-- the stamp for s of call number n
abbrev pub stamp_at : ServerId → List ShardCall → ℕ → Option Params
stamp_at s calls n = stamp_after s [] calls n

-- `numbers` has the number of the call that stamped each of a_1, a_2, ..: the first k arrivals came with these stamps for s. Their
-- order may be another than that of the calls.
abbrev pub AreStamped : ℕ → List Arrival → ServerId → List ShardCall → List ℕ → Type 0
AreStamped k arrivals s calls numbers = map (λ a. Some a.params) (take k arrivals) ≡ map (stamp_at s calls) (take k numbers)

-- ---- A_j: what had come in when a_j was stamped

-- the calls up to the stamp of a_j; none for j = 0
abbrev pub calls_to : List ShardCall → List ℕ → ℕ → List ShardCall
calls_to calls numbers zero = []
calls_to calls numbers (suc j) = take (suc (slice_index_or numbers j 0)) calls

-- the sums of the deltas and of the rhos that had come in, for all shards
abbrev pub came_to : List ShardCall → List ℕ → ℕ → Counts
came_to calls numbers j = came (calls_to calls numbers j)

-- the calls after the stamp of a_i, up to that of a_k
abbrev pub calls_between : List ShardCall → List ℕ → (i k : ℕ) → List ShardCall
calls_between calls numbers i k = drop (length (calls_to calls numbers i)) (calls_to calls numbers k)

abbrev pub is_among : ℕ → List ℕ → Bool
is_among n [] = false
is_among n (m ∷ ms) = if m == n then true else is_among n ms

-- what the calls of a list stamp to s, after the calls before them, but those with these numbers
abbrev pub others_after : List ℕ → ServerId → (before calls : List ShardCall) → Counts
others_after numbers s before [] = no_counts
others_after numbers s before (c ∷ cs) = plus (if is_among (length before) numbers then no_counts else stamped_by s before c) (others_after numbers s (before ++ c ∷ []) cs)

-- What was stamped to s between, for other requests than a_(i+1) .. a_k: for those that the shard's queue refused, and for those
-- that arrived out of the order of their stamps.
abbrev pub others_between : ServerId → List ShardCall → List ℕ → (i k : ℕ) → Counts
others_between s calls numbers i k = others_after (drop i (take k numbers)) s (calls_to calls numbers i) (calls_between calls numbers i k)

-- what was skipped at s between: no stamp counts it
abbrev pub skipped_between : ServerId → List ShardCall → List ℕ → (i k : ℕ) → Counts
skipped_between s calls numbers i k = skipped_after s (calls_to calls numbers i) (calls_between calls numbers i k)

-- and what was given back between
abbrev pub back_between : ServerId → List ShardCall → List ℕ → (i k : ℕ) → Counts
back_between s calls numbers i k = given_back s (calls_between calls numbers i k)

-- ---- the bounds, of a client of which no request was taken back

-- What came in between, `came`, is bounded, if what was stamped between for other requests was given back before a_k was stamped, and
-- nothing was skipped between. If not, what was skipped, and what was not given back, is in the bound.
pub record IsBounded (hz came others skipped back bound : ℕ) : Type 0 where
  pub given_back : others + skipped ≤ back → hz * came ≤ bound
  pub always : hz * came ≤ bound + hz * (others + skipped - back)

-- Limit: of a client whose requests at the server are these calls, up to a grant of a_k by the queue of shard s, in phase
-- Priority, not beyond
abbrev pub KeepsToLimitAcross : {T : Type 0} → Tagging T → Setting → ClientId → ServerId → List ShardCall → List ℕ → List (Event T) → Type 0
KeepsToLimitAcross ops config id s calls numbers history =
    (l : ℕ) (span : Span id Priority history)
    → NeverCancelled id history
    → limit_of id (after ops config (take (suc span.arrived) history)) ≡ Some l
    → span.i ≤ span.k → AreStamped span.k (arrivals id history) s calls numbers
    → IsOf span.token span.cost span.k (arrivals id history)
    × IsBounded config.hz
    ((came_to calls numbers span.k).delta - (came_to calls numbers span.i).delta)
    (others_between s calls numbers span.i span.k).delta
    (skipped_between s calls numbers span.i span.k).delta
    (back_between s calls numbers span.i span.k).delta
    (l * ticks ops config history span.arrived span.granted span.moment)

-- Reservation: up to a grant in phase Reservation; the cost of each Priority grant of the client at this shard after a_i counts
-- against the rhos
abbrev pub KeepsToReservationAcross : {T : Type 0} → Tagging T → Setting → ClientId → ServerId → List ShardCall → List ℕ → List (Event T) → Type 0
KeepsToReservationAcross ops config id s calls numbers history =
    (r : ℕ) (span : Span id Reservation history)
    → NeverCancelled id history
    → reservation_of id (after ops config (take (suc span.arrived) history)) ≡ Some r
    → span.i ≤ span.k → AreStamped span.k (arrivals id history) s calls numbers
    → IsOf span.token span.cost span.k (arrivals id history)
    × IsBounded config.hz
    ((came_to calls numbers span.k).rho - (came_to calls numbers span.i).rho)
    (others_between s calls numbers span.i span.k).rho
    (skipped_between s calls numbers span.i span.k).rho
    (back_between s calls numbers span.i span.k).rho
    (r * ticks ops config history span.arrived span.granted span.moment + config.hz * priorities id (between span.arrived span.granted history))

-- ---- the bounds, whatever was taken back

-- Limit: what Cancels in the form Others gave back at this shard, in front of a_k, counts against the deltas
abbrev pub KeepsToLimitAcrossWithCancels : {T : Type 0} → Tagging T → Setting → ClientId → ServerId → List ShardCall → List ℕ → List (Event T) → Type 0
KeepsToLimitAcrossWithCancels ops config id s calls numbers history =
    (l : ℕ) (span : WaitingSpan id Priority history)
    → limit_of id (after ops config (take (suc span.arrived) history)) ≡ Some l
    → span.i ≤ span.k → AreStamped span.k (arrivals id history) s calls numbers
    → IsOf span.token span.cost span.k (arrivals id history)
    × IsBounded config.hz
    ((came_to calls numbers span.k).delta - (came_to calls numbers span.i).delta)
    (others_between s calls numbers span.i span.k).delta
    (skipped_between s calls numbers span.i span.k).delta
    (back_between s calls numbers span.i span.k).delta
    (l * ticks ops config history span.arrived span.granted span.moment + config.hz * given_back_by_cancels id span.i span.k (take span.granted history))

-- Reservation: what was given back counts against the rhos, as the costs of the Priority grants do
abbrev pub KeepsToReservationAcrossWithCancels : {T : Type 0} → Tagging T → Setting → ClientId → ServerId → List ShardCall → List ℕ → List (Event T) → Type 0
KeepsToReservationAcrossWithCancels ops config id s calls numbers history =
    (r : ℕ) (span : WaitingSpan id Reservation history)
    → reservation_of id (after ops config (take (suc span.arrived) history)) ≡ Some r
    → span.i ≤ span.k → AreStamped span.k (arrivals id history) s calls numbers
    → IsOf span.token span.cost span.k (arrivals id history)
    × IsBounded config.hz
    ((came_to calls numbers span.k).rho - (came_to calls numbers span.i).rho)
    (others_between s calls numbers span.i span.k).rho
    (skipped_between s calls numbers span.i span.k).rho
    (back_between s calls numbers span.i span.k).rho
    (r * ticks ops config history span.arrived span.granted span.moment + config.hz * priorities id (between span.arrived span.granted history) + config.hz * given_back_by_cancels id span.i span.k (take span.granted history))

-- ---- of each history of a shard's queue that replays, and each list of calls

abbrev pub LimitAcrossShards : {T : Type 0} → Tagging T → Setting → Type 0
LimitAcrossShards {T} ops config =
    (history : List (Event T)) → replays ops config history
    → (id : ClientId) (s : ServerId) (calls : List ShardCall) (numbers : List ℕ) → KeepsToLimitAcross ops config id s calls numbers history

abbrev pub ReservationAcrossShards : {T : Type 0} → Tagging T → Setting → Type 0
ReservationAcrossShards {T} ops config =
    (history : List (Event T)) → replays ops config history
    → (id : ClientId) (s : ServerId) (calls : List ShardCall) (numbers : List ℕ) → KeepsToReservationAcross ops config id s calls numbers history

abbrev pub LimitAcrossShardsWithCancels : {T : Type 0} → Tagging T → Setting → Type 0
LimitAcrossShardsWithCancels {T} ops config =
    (history : List (Event T)) → replays ops config history
    → (id : ClientId) (s : ServerId) (calls : List ShardCall) (numbers : List ℕ) → KeepsToLimitAcrossWithCancels ops config id s calls numbers history

abbrev pub ReservationAcrossShardsWithCancels : {T : Type 0} → Tagging T → Setting → Type 0
ReservationAcrossShardsWithCancels {T} ops config =
    (history : List (Event T)) → replays ops config history
    → (id : ClientId) (s : ServerId) (calls : List ShardCall) (numbers : List ℕ) → KeepsToReservationAcrossWithCancels ops config id s calls numbers history
