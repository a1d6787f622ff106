-- What contracts see of a roster: its clients in order of registration.
use Rattle.std.specs.Prelude.{[], ◌≡◌, ℕ, ◌≤◌, true, false, List, ◌∷◌, ◌++◌, map, length, Option, None, is_some, ◌==◌, filter_map, slice_index_or, Result, Ok, Err, if◌then◌else◌, ⊤}
use Rattle.std.specs.Option.{option_map}
use Rattle.std.specs.List.{find, AllByRecursion}
use Rattle.std.specs.declared.alloc.AllocError.{AllocError}
use Rattle.dmc_types.specs.Limits.{max_clients}
use Rattle.dmc_types.specs.declared.ids.ClientId.{ClientId}
use Rattle.dmc_tag.specs.State.{is_client}
use Rattle.dmc_client.specs.Record.{Rec}

-- a registered client: its id, the key of its record, and the record
pub record Entry (T : Type 0) : Type 0 where
  pub id : ClientId
  pub key : ℕ
  pub rec : Rec T

pub record Listing (T : Type 0) : Type 0 where
  -- in order of registration
  pub entries : List (Entry T)
  -- the key that the next client gets
  pub next_key : ℕ

abbrev pub entry_named : {T : Type 0} → ClientId → List (Entry T) → Option (Entry T)
entry_named id entries = find (λ e. is_client id e.id) entries

abbrev pub entry_keyed : {T : Type 0} → ℕ → List (Entry T) → Option (Entry T)
entry_keyed key entries = find (λ e. e.key == key) entries

-- the record under a key
abbrev pub record_at : {T : Type 0} → ℕ → List (Entry T) → Option (Rec T)
record_at key entries = option_map (λ e. e.rec) (entry_keyed key entries)

-- an entry whose record is changed
abbrev pub with_rec : {T : Type 0} → (Rec T → Rec T) → Entry T → Entry T
with_rec f e = record e { rec = f e.rec }

-- the record under a key is changed, and each other stays
abbrev pub with_record : {T : Type 0} → ℕ → Rec T → List (Entry T) → List (Entry T)
with_record key rec entries = map (λ e. if e.key == key then with_rec (λ old. rec) e else e) entries

abbrev pub with_record_at : {T : Type 0} → Listing T → ℕ → Rec T → Listing T
with_record_at listing key rec = record listing { entries = with_record key rec listing.entries }

-- no two entries have one id or one key
abbrev pub AreDistinct : {T : Type 0} → List (Entry T) → Type 0
AreDistinct [] = ⊤
AreDistinct (e ∷ entries) = AllByRecursion (λ f. (is_client e.id f.id ≡ false) × ((e.key == f.key) ≡ false)) entries × AreDistinct entries

-- the effect of an add of a new client: the client is last, under the key that was returned; or an allocation failed, and all
-- stays
abbrev pub Adds : {T : Type 0} → Listing T → Listing T → ClientId → Rec T → Result ℕ AllocError → Type 0
Adds old new id rec (Ok key) =
    (key ≡ old.next_key) × (new.entries ≡ old.entries ++ record { id = id; key = key; rec = rec } ∷ []) × AreDistinct new.entries
Adds old new id rec (Err fault) = new ≡ old

-- ---- how it is stored: ids with their keys, in order, and a record or nothing at each key

abbrev pub entry_of : {T : Type 0} → List (Option (Rec T)) → ClientId × ℕ → Option (Entry T)
entry_of slots p = option_map (λ rec. record { id = p.0; key = p.1; rec = rec }) (slice_index_or slots p.1 None)

abbrev pub entries_of : {T : Type 0} → List (ClientId × ℕ) → List (Option (Rec T)) → List (Entry T)
entries_of ids slots = filter_map (entry_of slots) ids

-- no id and no key is there twice
abbrev pub AreApart : List (ClientId × ℕ) → Type 0
AreApart [] = ⊤
AreApart (p ∷ ids) = AllByRecursion (λ q. (is_client p.0 q.0 ≡ false) × ((p.1 == q.1) ≡ false)) ids × AreApart ids

pub record AreHeld {T : Type 0} (ids : List (ClientId × ℕ)) (slots : List (Option (Rec T))) : Type 0 where
  pub held : AllByRecursion (λ p. is_some (slice_index_or slots p.1 None) ≡ true) ids
  pub apart : AreApart ids
  pub bound : length ids ≤ max_clients
