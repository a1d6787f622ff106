-- What becomes of each request of a queue of which some are taken back.
use Rattle.std.specs.Prelude.{◌≡◌, ℕ, Bool, true, false, not, ◌&&◌, is_some, List, [], ◌∷◌, Option, Some, None, if◌then◌else◌}
use Rattle.std.specs.Option.{option_map}
use Rattle.std.specs.Ordering.{is_eq}
use Rattle.dmc_types.specs.declared.ids.Token.{Token}
use Rattle.dmc_tag.specs.Cancel.{has_token, fallen_request, befores_next, level}
use Rattle.dmc_tag.specs.Order.{NotBelow}
use Rattle.dmc_tag.specs.Tag.{Tagging}
use Rattle.dmc_tag.specs.declared.cancel.Before.{Before}
use Rattle.dmc_tag.specs.declared.cancel.Befores.{Befores}
use Rattle.dmc_tag.specs.declared.plain.QueuedRequest.{QueuedRequest}
use Rattle.dmc_tag.specs.declared.plain.Slack.{Slack}

-- those with the token among them, from front to back
abbrev pub all_passed : {T : Type 0} → Tagging T → Token → (ℕ → Slack T) → Befores T → List (QueuedRequest T) → List (QueuedRequest T)
all_passed ops token charged befores [] = []
all_passed ops token charged befores (r ∷ rs) = fallen_request ops befores r ∷ all_passed ops token charged (befores_next ops (has_token token r) (charged r.cost) befores r) rs

-- ---- requests that stay as they are

-- A request of a record: no slack is below 0, and it has an R exactly if the client has a reservation.
pub record IsOfRecord {T : Type 0} (ops : Tagging T) (reserved : Bool) (r : QueuedRequest T) : Type 0 where
  pub slack : NotBelow ops r.slack
  pub has_r : is_some r.tags.r ≡ reserved

-- whether a tag behind it stays as it is: this one did not fall, and its request stays
abbrev pub leaves_tag : {T : Type 0} → Tagging T → Option (Before T) → Bool
leaves_tag ops None = true
leaves_tag ops (Some before) = not before.cancelled && is_eq (ops.compare before.was before.level.tag)

-- whether the request behind stays as it is
abbrev pub leaves_next : {T : Type 0} → Tagging T → Befores T → Bool
leaves_next ops befores = leaves_tag ops befores.r && (leaves_tag ops befores.l && leaves_tag ops befores.p)

abbrev pub unfallen : {T : Type 0} → T → T → Before T
unfallen tag slack = record { was = tag; level = level tag slack; cancelled = false }

-- what became of the tags of a request that stays as it is
abbrev pub unchanged : {T : Type 0} → QueuedRequest T → Befores T
unchanged r = record {
  r = option_map (λ tag. unfallen tag r.slack.r) r.tags.r;
  l = Some (unfallen r.tags.l r.slack.l);
  p = Some (unfallen r.tags.p r.slack.p);
}

-- the same of the last of these requests, if there is one
abbrev pub last_unchanged : {T : Type 0} → Befores T → List (QueuedRequest T) → Befores T
last_unchanged befores [] = befores
last_unchanged befores (r ∷ []) = unchanged r
last_unchanged befores (r ∷ s ∷ rs) = last_unchanged befores (s ∷ rs)

-- what became of the tags of the last request, if those that stay as they are are not noted
abbrev pub noted : {T : Type 0} → Bool → Befores T → List (QueuedRequest T) → Befores T
noted leaves befores done = if leaves then last_unchanged befores done else befores
