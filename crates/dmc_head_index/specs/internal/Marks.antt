-- The ready mark of one head.
use Rattle.std.specs.Prelude.{◌≡◌, ℕ, Bool, ◌&&◌, not, Some, true, false}
use Rattle.dmc_tag.specs.Tag.{Tagging}
use Rattle.dmc_tag.specs.Best.{is_due}
use Rattle.dmc_head_index.specs.declared.head.Head.{Head}

abbrev pub with_ready : {T : Type 0} → Bool → Head T → Head T
with_ready ready h = record h { ready = ready }

-- ready, and its L is above t
abbrev pub is_past : {T : Type 0} → Tagging T → ℕ → Head T → Bool
is_past ops t h = h.ready && not (is_due ops t (Some h.tags.l))

-- unready, and its L is at most t
abbrev pub CanMark : {T : Type 0} → Tagging T → ℕ → Head T → Type 0
CanMark ops t h = (h.ready ≡ false) × (is_due ops t (Some h.tags.l) ≡ true)
