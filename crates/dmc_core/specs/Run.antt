-- A cluster run: a plain state per server, a tracker list per client, and per pair of a client and a server the messages
-- in flight and the grants not yet responded.
use Rattle.std.specs.Prelude.{ℕ, ◌-◌, ◌^◌, Bool, ◌||◌, ◌==◌, if◌then◌else◌, List, [], ◌∷◌, length, slice_get, slice_index_or, slice_set, Result}
use Rattle.std.specs.List.{find, list_any}
use Rattle.std.specs.Option.{ok_or}
use Rattle.dmc_types.specs.Limits as limits
use Rattle.dmc_types.specs.declared.ids.ClientId.{ClientId}
use Rattle.dmc_types.specs.declared.ids.ServerId.{ServerId}
use Rattle.dmc_types.specs.declared.config.Counting.{Counting}
use Rattle.dmc_types.specs.declared.config.PhaseType.{PhaseType}
use Rattle.dmc_types.specs.declared.config.PhaseType.TheVariants.{Reservation, Priority}
use Rattle.dmc_tag.specs.State.{State, is_client}
use Rattle.dmc_tracker.specs.declared.event.TrackerEvent.{TrackerEvent}
use Rattle.dmc_core.specs.declared.event.Message.{Message}
use Rattle.dmc_core.specs.declared.event.CoreFault.{CoreFault}
use Rattle.dmc_core.specs.declared.event.CoreFault.TheVariants.{NoClient, NoServer}

-- a client and a server
pub record Pair : Type 0 where
  -- stamped and not yet arrived, oldest first
  pub flight : List Message
  -- the costs of the grants of each phase that are not yet responded, in the order of the grants
  pub reservation : List ℕ
  pub priority : List ℕ

pub record Client : Type 0 where
  pub id : ClientId
  -- its tracker list
  pub list : List TrackerEvent
  -- what it has at server 0, 1, ..
  pub pairs : List Pair

pub record Run (T : Type 0) : Type 0 where
  pub counting : Counting
  -- server 0, 1, ..
  pub servers : List (State T)
  -- in the scene's order
  pub clients : List Client

-- what a tracker counts at most
abbrev pub max_completions : ℕ
max_completions = limits.max_run_completions

-- the most messages in flight of a pair
abbrev pub max_in_flight : ℕ
max_in_flight = 2 ^ 20

-- the most grants of a pair and phase that are not yet responded
abbrev pub max_grants : ℕ
max_grants = 2 ^ 32 - 1

-- ---- pairs

abbrev pub no_pair : Pair
no_pair = record { flight = []; reservation = []; priority = [] }

abbrev pub pair_at : ServerId → List Pair → Pair
pair_at s pairs = slice_index_or pairs s.0 no_pair

abbrev pub with_pair : ServerId → Pair → List Pair → List Pair
with_pair s pair pairs = slice_set pairs s.0 pair

abbrev pub with_flight : List Message → Pair → Pair
with_flight flight pair = record pair { flight = flight }

abbrev pub grants : PhaseType → Pair → List ℕ
grants Reservation pair = pair.reservation
grants Priority pair = pair.priority

abbrev pub with_grants : PhaseType → List ℕ → Pair → Pair
with_grants Reservation costs pair = record pair { reservation = costs }
with_grants Priority costs pair = record pair { priority = costs }

-- the grants of one of its phases are as many as there may be
abbrev pub are_full : Pair → Bool
are_full pair = (length pair.reservation == max_grants) || (length pair.priority == max_grants)

-- without the first of these costs that is this one
abbrev pub without_first : ℕ → List ℕ → List ℕ
without_first cost [] = []
without_first cost (c ∷ cs) = if c == cost then cs else c ∷ without_first cost cs

-- ---- clients and servers by their names

-- the first of a list that passes a test is changed
abbrev pub change_first : {X : Type 0} → (X → Bool) → (X → X) → List X → List X
change_first test f [] = []
change_first test f (x ∷ xs) = if test x then f x ∷ xs else x ∷ change_first test f xs

abbrev pub change_client : {T : Type 0} → ClientId → (Client → Client) → Run T → Run T
change_client id f run = record run { clients = change_first (λ c. is_client id c.id) f run.clients }

abbrev pub with_client : {T : Type 0} → ClientId → Client → Run T → Run T
with_client id client run = change_client id (λ old. client) run

abbrev pub with_server : {T : Type 0} → ServerId → State T → Run T → Run T
with_server s state run = record run { servers = slice_set run.servers s.0 state }

abbrev pub client_of : {T : Type 0} → Run T → ClientId → Result Client CoreFault
client_of run id = ok_or (find (λ c. is_client id c.id) run.clients) NoClient

abbrev pub server_of : {T : Type 0} → Run T → ServerId → Result (State T) CoreFault
server_of run s = ok_or (slice_get run.servers s.0) NoServer

-- the grants of the server to a client in one of the phases are as many as there may be
abbrev pub are_grants_full : ServerId → List Client → Bool
are_grants_full s clients = list_any (λ c. are_full (pair_at s c.pairs)) clients
