-- Heads at a moment, marks, and outcomes without their values.
use Rattle.std.specs.Prelude.{◌≡◌, ℕ, false, Some, Result, Ok, Err, ⊤}
use Rattle.dmc_types.specs.declared.ids.ClientId.{ClientId}
use Rattle.dmc_tag.specs.declared.reply.Tags.{Tags}
use Rattle.dmc_types.specs.declared.refusal.Refusal.{Refusal}
use Rattle.dmc_tag.specs.Tag.{Tagging}
use Rattle.dmc_tag.specs.Best.{is_due}
use Rattle.dmc_index.specs.Index.{slot_of_key}
use Rattle.dmc_head_index.specs.declared.head.Head.{Head}
use Rattle.dmc_pull.specs.Queue.{Queue}

-- marked ready if its L is at most the moment
abbrev pub head_at : {T : Type 0} → Tagging T → ℕ → ClientId → Tags T → Head T
head_at ops t client tags = record { client = client; tags = tags; ready = is_due ops t (Some tags.l) }

-- each head that is free is marked ready
abbrev pub IsMarked : {T : Type 0} → Tagging T → Queue T → Type 0
IsMarked {T} ops q = (key : ℕ) (head : Head T) → slot_of_key q.heads key ≡ Some head → head.ready ≡ false → is_due ops q.last_moment (Some head.tags.l) ≡ false

-- the result of a test, whatever it is
abbrev pub without_value : {X : Type 0} → Result X Refusal → Result ⊤ Refusal
without_value (Ok x) = Ok tt
without_value (Err refusal) = Err refusal
