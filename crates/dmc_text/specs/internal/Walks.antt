-- Reading line by line.
use Rattle.std.specs.Prelude.{◌≡◌, ℕ, suc, ◌+◌, length, Bool, List, [], ◌∷◌, ◌++◌, Result, Ok, Err, ⊤, if◌then◌else◌}
use Rattle.dmc_text.specs.declared.cause.LineCause.{LineCause}
use Rattle.dmc_text.specs.declared.cause.LineCause.TheVariants.{Hz}
use Rattle.dmc_text.specs.declared.script.ScriptFault.{ScriptFault}
use Rattle.dmc_text.specs.declared.script.ScriptFault.TheVariants as faults
use Rattle.dmc_text.specs.declared.walk.Walk.{Walk}
use Rattle.dmc_text.specs.Texts.{lines_of}
use Rattle.dmc_text.specs.Walks.{GoesThrough, IsCut}

-- the line that was found last is taken
pub record TakesLine {S : Type 0} (takes : S → List ℕ → List ℕ → S → Type 0) (s : S) (old : Walk) (t : S) (new : Walk) : Type 0 where
  pub answer : List ℕ
  pub is_taken : takes s old.lines.line answer t
  pub out : new.out.items ≡ old.out.items ++ answer
  pub number : new.number ≡ suc old.number
  pub lines : new.lines ≡ old.lines

-- or it is faulty, or an allocation failed
abbrev pub Takes : {S : Type 0} → (takes : S → List ℕ → List ℕ → S → Type 0) → (refuses : S → List ℕ → LineCause → Type 0) → S → Walk → S → Walk → Result ⊤ ScriptFault → Type 0
Takes takes refuses s old t new (Ok x) = TakesLine takes s old t new
Takes takes refuses s old t new (Err (faults.Line n cause)) = refuses s old.lines.line cause × (n ≡ old.number) × (t ≡ s) × (new.out.items ≡ old.out.items)
Takes takes refuses s old t new (Err faults.Memory) = IsCut old.out.items new.out.items
Takes takes refuses s old t new (Err faults.Read) = ⊥
Takes takes refuses s old t new (Err faults.Write) = ⊥

-- what is left is taken: nothing, or one line
pub record TakesRest {S : Type 0} (takes : S → List ℕ → List ℕ → S → Type 0) (s : S) (old : Walk) (t : S) (new : Walk) : Type 0 where
  pub answers : List ℕ
  pub goes : GoesThrough takes s (lines_of old.lines.rest) answers t
  pub out : new.out.items ≡ old.out.items ++ answers
  pub number : new.number ≡ old.number + length (lines_of old.lines.rest)

-- or it is faulty, or an allocation failed
abbrev pub TakesLast : {S : Type 0} → (takes : S → List ℕ → List ℕ → S → Type 0) → (refuses : S → List ℕ → LineCause → Type 0) → S → Walk → S → Walk → Result ⊤ ScriptFault → Type 0
TakesLast takes refuses s old t new (Ok x) = TakesRest takes s old t new
TakesLast takes refuses s old t new (Err (faults.Line n cause)) =
    (lines_of old.lines.rest ≡ old.lines.rest ∷ []) × refuses s old.lines.rest cause × (n ≡ old.number) × (t ≡ s) × (new.out.items ≡ old.out.items)
TakesLast takes refuses s old t new (Err faults.Memory) = IsCut old.out.items new.out.items
TakesLast takes refuses s old t new (Err faults.Read) = ⊥
TakesLast takes refuses s old t new (Err faults.Write) = ⊥

-- a text without an hz line is faulty after its last line
abbrev pub end_result : (has_config : Bool) → ℕ → Result ⊤ ScriptFault
end_result has_config n = if has_config then Ok tt else Err (faults.Line n Hz)
