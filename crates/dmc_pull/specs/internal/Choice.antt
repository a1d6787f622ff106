-- The client whose first request a pull grants.
use Rattle.std.specs.Prelude.{◌≡◌, ℕ, Bool, true, false, List, [], Option, Some, None, drop, slice_get}
use Rattle.std.specs.Option.{option_map, option_and_then}
use Rattle.dmc_types.specs.declared.ids.ClientId.{ClientId}
use Rattle.dmc_tag.specs.Tag.{Tagging}
use Rattle.dmc_tag.specs.State.{State, queued_requests}
use Rattle.dmc_tag.specs.Best.{Found, best_of_all, by_reservation, by_weight, is_early, is_free, is_any}
use Rattle.dmc_tag.specs.Rules.{Outcome}
use Rattle.dmc_tag.specs.Step.{answer_of}
use Rattle.dmc_tag.specs.declared.reply.Reply.{Reply}
use Rattle.dmc_client.specs.Record.{Rec, client_of}
use Rattle.dmc_roster.specs.Entries.{Entry, entry_keyed}
use Rattle.dmc_adjust.specs.Changes.{popped, reduced}
use Rattle.dmc_pull.specs.Represented.{clients_in}

-- the client's first request, and the others
abbrev pub first_of : {T : Type 0} → Entry T → Option (Found T)
first_of e = option_map (λ r. record { client = client_of e.id e.rec; request = r; others = drop 1 e.rec.requests }) (slice_get e.rec.requests 0)

-- those of the client under the key
abbrev pub first_at : {T : Type 0} → ℕ → List (Entry T) → Option (Found T)
first_at key entries = option_and_then first_of (entry_keyed key entries)

-- the key has a first request, which is this client's
abbrev pub IsFirstOf : {T : Type 0} → List (Entry T) → ℕ → ClientId → Type 0
IsFirstOf entries key client = option_map (λ found. found.client.id) (first_at key entries) ≡ Some client

-- the first request of the named client is the best of the early ones; none is early if no client is named
abbrev pub Early : {T : Type 0} → Tagging T → ℕ → List (Entry T) → Option (ℕ × ClientId) → Type 0
Early ops t entries None = best_of_all ops by_reservation (is_early ops t) (clients_in entries) ≡ None
Early ops t entries (Some (key, client)) = (best_of_all ops by_reservation (is_early ops t) (clients_in entries) ≡ first_at key entries) × IsFirstOf entries key client

-- The first request of the named client is the best of the free ones; or none is free, and it is the best of all. Nothing is
-- queued if no client is named.
abbrev pub ByWeight : {T : Type 0} → Tagging T → ℕ → List (Entry T) → Option (ℕ × ClientId × Bool) → Type 0
ByWeight ops t entries None = queued_requests (clients_in entries) ≡ []
ByWeight ops t entries (Some (key, client, true)) = (best_of_all ops by_weight (is_free ops t) (clients_in entries) ≡ first_at key entries) × IsFirstOf entries key client
ByWeight ops t entries (Some (key, client, false)) = (best_of_all ops by_weight (is_free ops t) (clients_in entries) ≡ None) × (best_of_all ops by_weight is_any (clients_in entries) ≡ first_at key entries) × IsFirstOf entries key client

-- the result and the state of a call are those of the outcome
abbrev pub Settles : {T : Type 0} → State T → State T → Outcome T → Option (Reply T) → Type 0
Settles old new outcome (Some reply) = (new, reply) ≡ answer_of old outcome
Settles old new outcome None = ⊥

-- a record after a grant of its first request, reduced by an amount
abbrev pub after_grant : {T : Type 0} → Tagging T → Option T → Rec T → Rec T
after_grant ops amount rec = reduced ops amount (popped rec)
