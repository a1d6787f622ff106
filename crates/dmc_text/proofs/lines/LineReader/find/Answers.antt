-- The first line of what is read.
use Rattle.std.proofs.Common.{◌≡◌, ◌+◌, ◌≤◌, ◌-◌, ℕ, List, drop, sym, ap, ◌∙◌, arith, Option, Some, position}
use Rattle.std.specs.Prelude.{slice_range}
use Rattle.std.proofs.lemmas.List.{length-take}
use Rattle.std.proofs.lemmas.List.Quantifiers.{position-Some}
use Rattle.dmc_text.specs.Reading.{is_end, next_line}
use Rattle.dmc_text.proofs.ReadingLemmas.{found_line}
use Rattle.dmc_text.proofs.lines.LineReader.find.Goals as goal

-- a line ends before the end of the range that it was found in
ends_within : (items : List ℕ) (start end i : ℕ) → position is_end (slice_range items start end) ≡ Some i → start + (i + 1) ≤ end
ends_within items start end i at =
    let within = (position-Some is_end (slice_range items start end) i 0 at).0 in
    omega (arith, within, length-take (end - start) (drop start items))

-- where the first LF of what is left is
found_at : (items rest : List ℕ) (start end i : ℕ) (found : Option ℕ) → slice_range items start end ≡ rest → found ≡ position is_end rest → found ≡ Some i
    → position is_end (slice_range items start end) ≡ Some i
found_at items rest start end i found rest-is read is = ap (position is_end) rest-is ∙ sym read ∙ is

pub overflow_add-self : goal.overflow_add-self
overflow_add-self c =
    let self = c.self.inside in
    let at = found_at self.buffer.items _ self.start self.end c.in-Some.len _ (ap (λ r. r.rest) c.self.view_is ∙ sym c.rest.ensures) c.first_of.ensures c.in-Some.is in
    omega (arith, ends_within self.buffer.items self.start self.end c.in-Some.len at, c.self.invariant.4)

pub overflow_add-self-2 : goal.overflow_add-self-2
overflow_add-self-2 c =
    let self = c.self.inside in
    let at = found_at self.buffer.items _ self.start self.end c.in-Some.len _ (ap (λ r. r.rest) c.self.view_is ∙ sym c.rest.ensures) c.first_of.ensures c.in-Some.is in
    omega (arith, ends_within self.buffer.items self.start self.end c.in-Some.len at, c.self.invariant.4)

pub invariant_of-self : goal.invariant_of-self
invariant_of-self c =
    let self = c.self.inside in
    let at = found_at self.buffer.items _ self.start self.end c.in-Some.len _ (ap (λ r. r.rest) c.self.view_is ∙ sym c.rest.ensures) c.first_of.ensures c.in-Some.is in
    let fits : self.start + (c.in-Some.len + 1) ≤ self.end = ends_within self.buffer.items self.start self.end c.in-Some.len at in
    let (len, line, line_limit, rest, limit, taken) = c.self.invariant in
    (len, omega arith, omega (arith, fits, limit), omega (arith, fits), limit, taken)

pub returns : goal.returns
returns c =
    let self = c.self.inside in
    let rest-is : slice_range self.buffer.items self.start self.end ≡ c.args.self.now.rest = ap (λ r. r.rest) c.self.view_is in
    let at = found_at self.buffer.items _ self.start self.end c.in-Some.len _ (rest-is ∙ sym c.rest.ensures) c.first_of.ensures c.in-Some.is in
    let found = found_line self.buffer.items self.start self.end c.in-Some.len (ends_within self.buffer.items self.start self.end c.in-Some.len at) at in
    (ap next_line (sym rest-is) ∙ found, ap (λ r. r.taken) c.self.view_is)
