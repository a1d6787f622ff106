-- What the core keeps, and what is true of it.
use Rattle.std.specs.Prelude.{◌≡◌, ◌≢◌, ◌⊎◌, ℕ, ◌+◌, ◌-◌, ◌<◌, ◌≤◌, ◌^◌, ◌==◌, true, nat_le, if◌then◌else◌, is_some, List, [], ◌∷◌, ◌++◌, map, length, position, sum_by, slice_index_or, slice_set, Result, Ok, vec_capacity, AllPairs}
use Rattle.std.specs.List.{AllByRecursion, cons_option}
use Rattle.std.specs.VecDeque.{deque_len, deque_capacity}
use Rattle.std.specs.Option.{ok_or}
use Rattle.dmc_types.specs.declared.ids.ClientId.{ClientId}
use Rattle.dmc_types.specs.declared.ids.ServerId.{ServerId}
use Rattle.dmc_types.specs.declared.config.PhaseType.{PhaseType}
use Rattle.dmc_tag.specs.State.{is_client}
use Rattle.dmc_tag.specs.Outcome.{◌>>=◌, refuse_if}
use Rattle.dmc_core.specs.Run.{Pair, pair_at, with_pair, grants, with_grants, max_grants}
use Rattle.dmc_core.specs.Core.{Room, room_for, room_at, Held, CoreValue}
use Rattle.dmc_core.specs.declared.event.CoreFault.{CoreFault}
use Rattle.dmc_core.specs.declared.event.CoreFault.TheVariants.{NoClient, NoServer}
use Rattle.dmc_core.specs.declared.pair.Pairing.{Pairing}
use Rattle.dmc_core.specs.declared.server.CoreServer.{CoreServer}

abbrev pub pair_of : Pairing → Pair
pair_of p = record {
  flight = cons_option p.flight.oldest p.flight.later.items;
  reservation = p.reservation.items;
  priority = p.priority.items;
}

abbrev pub room_of : Pairing → Room
room_of p = record { waiting = p.waiting; reservation = vec_capacity p.reservation; priority = vec_capacity p.priority }

-- one more message has room, and one more request as a grant of either phase
pub record HasMessageRoom (p : Pairing) : Type 0 where
  pub flight : is_some p.flight.oldest ≡ true → deque_len p.flight.later < deque_capacity p.flight.later
  pub number : p.waiting + 1 < 2 ^ 64
  pub grants : (phase : PhaseType) → length (grants phase (pair_of p)) + p.waiting + 1 ≤ room_for phase (room_of p)

-- the same grants wait for their responses at each server
pub record KeepsGrants (old new : List Pair) : Type 0 where
  pub as_many : length new ≡ length old
  pub grants : (s : ServerId) (phase : PhaseType) → grants phase (pair_at s new) ≡ grants phase (pair_at s old)

-- Those in flight are no more than before, against how many may still be granted; and if there was room for each grant, there is.
pub record KeepsRoom (old : Pair) (was : Room) (new : Pair) (is : Room) : Type 0 where
  pub waiting : length new.flight + was.waiting ≤ length old.flight + is.waiting
  pub room : ((phase : PhaseType) → length (grants phase old) + was.waiting ≤ room_for phase was) → (phase : PhaseType) → length (grants phase new) + is.waiting ≤ room_for phase is

abbrev pub KeepsRooms : Held → Held → Type 0
KeepsRooms old new = (s : ServerId) → KeepsRoom (pair_at s old.pairs) (room_at s old.rooms) (pair_at s new.pairs) (room_at s new.rooms)

-- the grants of a phase are as before, or this cost is behind them; all else is as before
abbrev pub IsOneMore : PhaseType → ℕ → Pair → Pair → Type 0
IsOneMore phase cost old new = (new ≡ old) ⊎ (new ≡ with_grants phase (grants phase old ++ cost ∷ []) old)

-- The client at a place waits for one response more, and one request fewer of it may still be granted.
pub record IsGranted (s : ServerId) (phase : PhaseType) (cost place : ℕ) (h : Held) (old new : List Held) : Type 0 where
  pub granted : Held
  pub clients : new ≡ slice_set old place granted
  pub id : granted.id ≡ h.id
  pub tracker : granted.tracker ≡ h.tracker
  pub paired : s.0 < length h.pairs
  pub pairs : granted.pairs ≡ with_pair s (with_grants phase (grants phase (pair_at s h.pairs) ++ cost ∷ []) (pair_at s h.pairs)) h.pairs
  pub waiting : (room_at s granted.rooms).waiting ≡ (room_at s h.rooms).waiting - 1
  pub as_much : (phase : PhaseType) → room_for phase (room_at s h.rooms) ≤ room_for phase (room_at s granted.rooms)
  pub elsewhere : (other : ServerId) → (other.0 ≡ s.0 → ⊥) → room_at other granted.rooms ≡ room_at other h.rooms

-- the place of the client that an event at a server names, or the first refusal
abbrev pub place_of : {Q : Type 0} → ClientId → ServerId → CoreValue Q → Result ℕ CoreFault
place_of id s core = do
  place ← ok_or (position (λ h. is_client id h.id) core.clients) NoClient
  _ ← refuse_if (nat_le (length core.servers) s.0) NoServer
  Ok place

-- ---- how many lists of grants of a server can't grow

abbrev pub one_if_full : ℕ → ℕ
one_if_full count = if count == max_grants then 1 else 0

abbrev pub full_counts_of : Pair → ℕ
full_counts_of pair = one_if_full (length pair.reservation) + one_if_full (length pair.priority)

abbrev pub full_counts : ServerId → List Held → ℕ
full_counts s clients = sum_by (λ h. full_counts_of (pair_at s h.pairs)) clients

abbrev pub full_at : {Q : Type 0} → ServerId → List (CoreServer Q) → ℕ
full_at s servers = slice_index_or (map (λ x. x.full) servers) s.0 0

-- no list of grants has more than it may
abbrev pub HasFewGrants : Held → Type 0
HasFewGrants h = (s : ServerId) (phase : PhaseType) → length (grants phase (pair_at s h.pairs)) ≤ max_grants

-- The ids are those of the clients, and no two are equal. Each client has a pair with each server, with no more grants than there may
-- be, and each server knows how many of its lists of grants can't grow.
pub record IsKept {Q : Type 0} (ids : List ClientId) (clients : List Held) (servers : List (CoreServer Q)) : Type 0 where
  pub named : ids ≡ map (λ h. h.id) clients
  pub apart : AllPairs (λ a b. a ≢ b) ids
  pub paired : AllByRecursion (λ h. length h.pairs ≡ length servers) clients
  pub full : (s : ServerId) → s.0 < length servers → full_at s servers ≡ full_counts s clients
  pub few : AllByRecursion HasFewGrants clients
