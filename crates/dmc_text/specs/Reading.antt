-- A text that is read in pieces.
use Rattle.std.specs.Prelude.{◌≡◌, ℕ, suc, ◌+◌, ◌^◌, ◌<◌, ◌≤◌, ◌==◌, Bool, true, false, List, [], ◌++◌, length, take, drop, Option, Some, None, Result, Ok, Err, position}
use Rattle.std.specs.Option.{option_map}
use Rattle.std.specs.Io.KnownBytes.{Consumes, IsAtEnd, Keeps}

-- the greatest number of bytes in the buffer of a reader of lines
abbrev pub buffer_size : ℕ
buffer_size = 2 ^ 16

-- the most bytes of a text
abbrev pub max_bytes : ℕ
max_bytes = 2 ^ 32

abbrev pub is_end : ℕ → Bool
is_end b = b == 10

-- a reader of lines: the line that it found last, what is read and not yet returned, how many bytes may be read after that, and
-- how many were read
pub record Reading : Type 0 where
  pub line : List ℕ
  pub rest : List ℕ
  pub room : ℕ
  pub taken : ℕ

-- the first line of a text, and what follows its LF
abbrev pub next_line : List ℕ → Option (List ℕ × List ℕ)
next_line rest = option_map (λ i. (take i rest, drop (i + 1) rest)) (position is_end rest)

-- a whole line is found, or there is none and all stays
abbrev pub Finds : Reading → Reading → Bool → Type 0
Finds old new true = (next_line old.rest ≡ Some (new.line, new.rest)) × (new.taken ≡ old.taken)
Finds old new false = (next_line old.rest ≡ None) × (new ≡ old)

-- the last line lacks its LF, or nothing is left
abbrev pub FindsLast : Reading → Reading → Bool → Type 0
FindsLast old new true = (new.line ≡ old.rest) × (0 < length old.rest) × (new.rest ≡ []) × (new.taken ≡ old.taken)
FindsLast old new false = (old.rest ≡ []) × (new ≡ old)

-- some bytes are read after the rest, or the reader is at its end
abbrev pub Filled : Option (List ℕ) → Option (List ℕ) → Reading → Reading → Bool → Type 0
Filled before after old new true = (bytes : List ℕ) × Consumes before after bytes × (new.rest ≡ old.rest ++ bytes) × (0 < length bytes) × (new.taken ≡ old.taken + length bytes)
Filled before after old new false = IsAtEnd after × Keeps before after × (new.rest ≡ old.rest) × (new.taken ≡ old.taken)

-- Or the reader failed, or the text has more than the most bytes, which one more byte shows. The rest stays.
abbrev pub Fills : {E : Type 0} → Option (List ℕ) → Option (List ℕ) → Reading → Reading → Result Bool E → Type 0
Fills before after old new (Ok more) = Filled before after old new more
Fills before after old new (Err e) = (bytes : List ℕ) × Consumes before after bytes × (new.rest ≡ old.rest) × (new.taken ≡ old.taken) × (old.taken + length bytes ≤ suc max_bytes)
