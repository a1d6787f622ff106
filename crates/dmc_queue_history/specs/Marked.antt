-- A moment and a small mark in one word: the moment times the number of marks, plus the mark.
use Rattle.std.specs.Prelude.{◌≡◌, ℕ, ◌+◌, ◌*◌, ◌/◌, ◌%◌}
use Rattle.std.proofs.lemmas.Nat.{div-add-mod'}

-- how many marks there are
abbrev pub mark_count : ℕ
mark_count = 3

pub record Marked : Type 0 where
  pub at : ℕ
  pub mark : ℕ

-- the word of a moment and its mark
abbrev pub packed_of : Marked → ℕ
packed_of marked = marked.at * mark_count + marked.mark

-- the moment and the mark of a word
abbrev pub marked_of : ℕ → Marked
marked_of packed = record { at = packed / mark_count; mark = packed % mark_count }

-- each word is that of its moment and its mark
pub packed_is : (packed : ℕ) → packed_of (marked_of packed) ≡ packed
packed_is packed = div-add-mod' packed mark_count
