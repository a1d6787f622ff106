-- The entries after a rule was applied to each.
use Rattle.std.specs.Prelude.{[], ℕ, ◌+◌, Bool, List, ◌∷◌, Option, Some, None, if◌then◌else◌}
use Rattle.dmc_client.specs.Record.{Rec}

-- a record that stays and is changed, or is removed
abbrev pub after_retain : {T : Type 0} → (Rec T → Bool) → (Rec T → Rec T) → Option (Rec T) → Option (Rec T)
after_retain keeps changed None = None
after_retain keeps changed (Some rec) = if keeps rec then Some (changed rec) else None

-- the slots from a key on: each record stays and is changed, or is removed
abbrev pub slots_after_retain : {T : Type 0} → (ℕ → Rec T → Bool) → (ℕ → Rec T → Rec T) → ℕ → List (Option (Rec T)) → List (Option (Rec T))
slots_after_retain keeps changed key [] = []
slots_after_retain keeps changed key (o ∷ slots) = after_retain (keeps key) (changed key) o ∷ slots_after_retain keeps changed (key + 1) slots
