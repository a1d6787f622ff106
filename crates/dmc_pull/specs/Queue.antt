-- What contracts see of the indexed queue, the plain state that it represents, and its invariant.
use Rattle.std.specs.Prelude.{◌≡◌, ℕ, ◌≤◌, ◌<◌, true, false, List, Option, Some, Ok, length, slice_get}
use Rattle.std.specs.Option.{option_map, option_and_then}
use Rattle.std.specs.List.{AllByRecursion}
use Rattle.dmc_types.specs.Limits.{max_requests}
use Rattle.dmc_types.specs.Values.{Setting}
use Rattle.dmc_types.specs.declared.ids.ClientId.{ClientId}
use Rattle.dmc_tag.specs.declared.plain.Progress.{Progress}
use Rattle.dmc_tag.specs.declared.reply.Tags.{Tags}
use Rattle.dmc_tag.specs.Tag.{Fraction, Tagging}
use Rattle.dmc_tag.specs.State.{State, queued_requests}
use Rattle.dmc_tag.specs.Best.{is_due}
use Rattle.dmc_tag.specs.Spacing.{spacings_of}
use Rattle.dmc_client.specs.Record.{Rec, IsRecord, share_tags}
use Rattle.dmc_roster.specs.Entries.{Entry, Listing, entry_keyed, AreDistinct}
use Rattle.dmc_index.specs.Index.{slot_of_key}
use Rattle.dmc_head_index.specs.declared.head.Head.{Head}
use Rattle.dmc_pull.specs.Represented.{clients_in}

pub record Queue (T : Type 0) : Type 0 where
  pub config : Setting
  pub roster : Listing T
  -- what the three indexes hold of each key: its client, the tags of its first request, and the ready mark
  pub heads : List (Option (Head T))
  pub last_moment : ℕ
  -- the virtual time, and the furthest P
  pub progress : Progress T

-- the plain state that it represents
abbrev pub state_of : {T : Type 0} → Queue T → State T
state_of q = record { config = q.config; clients = clients_in q.roster.entries; last_moment = q.last_moment; progress = q.progress }

-- ---- the index clause

abbrev pub unready : {T : Type 0} → Head T → Head T
unready h = record h { ready = false }

abbrev pub unready_head : {T : Type 0} → ClientId → Tags T → Head T
unready_head client tags = record { client = client; tags = tags; ready = false }

-- the client's first request, unready
abbrev pub head_of : {T : Type 0} → Entry T → Option (Head T)
head_of e = option_map (λ r. unready_head e.id r.tags) (slice_get e.rec.requests 0)

-- The indexes hold exactly the clients with a queued request, each under the tags of its first request. A ready mark is true only
-- if L is at most the last effective moment.
pub record AreHeads {T : Type 0} (ops : Tagging T) (t : ℕ) (entries : List (Entry T)) (heads : List (Option (Head T))) : Type 0 where
  pub here : (key : ℕ) → option_map unready (slot_of_key heads key) ≡ option_and_then head_of (entry_keyed key entries)
  pub marks : (key : ℕ) (head : Head T) → slot_of_key heads key ≡ Some head → head.ready ≡ true → is_due ops t (Some head.tags.l) ≡ true

-- ---- the invariant of each queue

-- the invariant of each record: its spacings are those of its rates, and its P tags are values
pub record IsKept {T : Type 0} (ops : Tagging T) (fraction : T → Fraction) (is_value : Fraction → Type 0) (hz : ℕ) (rec : Rec T) : Type 0 where
  pub is_record : IsRecord ops rec
  pub spacings : spacings_of ops hz rec.info ≡ Ok rec.spacings
  pub values : AllByRecursion (λ tag. is_value (fraction tag)) (share_tags rec)

-- the virtual time and the furthest P are values
pub record AreValues {T : Type 0} (fraction : T → Fraction) (is_value : Fraction → Type 0) (progress : Progress T) : Type 0 where
  pub virtual_time : is_value (fraction progress.virtual_time)
  pub furthest : is_value (fraction progress.furthest)

pub record IsQueue {T : Type 0} (ops : Tagging T) (fraction : T → Fraction) (is_value : Fraction → Type 0) (q : Queue T) (queued : ℕ) : Type 0 where
  pub kept : AllByRecursion (λ e. IsKept ops fraction is_value q.config.hz e.rec) q.roster.entries
  pub distinct : AreDistinct q.roster.entries
  pub heads : AreHeads ops q.last_moment q.roster.entries q.heads
  pub in_room : AllByRecursion (λ e. e.key < length q.heads) q.roster.entries
  pub counted : queued ≡ length (queued_requests (clients_in q.roster.entries))
  pub bound : queued ≤ max_requests
  pub progress : AreValues fraction is_value q.progress
