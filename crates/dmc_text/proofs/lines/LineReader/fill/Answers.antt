-- What was read is after what was left.
use Rattle.std.proofs.Common.{◌≡◌, ◌+◌, ◌-◌, ◌^◌, ◌<◌, ◌≤◌, [], ◌++◌, length, take, drop, length-drop, sym, ap, subst, ◌∙◌, arith}
use Rattle.std.specs.Prelude.{slice_range, vec_len}
use Rattle.std.specs.Io.KnownBytes.{Consumes}
use Rattle.std.proofs.lemmas.List.{length-take-le}
use Rattle.dmc_text.specs.internal.LineLaws.{none_taken}
use Rattle.dmc_text.proofs.ReadingLemmas.{same_range, range_grown, all_kept}
use Rattle.dmc_text.proofs.lines.LineReader.fill.Goals as goal

pub returns-in-Ok-eq0-clause-bytes : goal.returns-in-Ok-eq0-clause-bytes
returns-in-Ok-eq0-clause-bytes g c =
    let self = c.self.inside in
    let rest-is : slice_range self.buffer.items self.start self.end ≡ c.args.self.now.rest = ap (λ r. r.rest) c.self.view_is ∙ c.move_to_front.ensures.rest in
    let taken-is : self.taken ≡ c.args.self.now.taken = ap (λ r. r.taken) c.self.view_is ∙ c.move_to_front.ensures.taken in
    let room-is : 65536 - self.end ≡ 65536 - length c.args.self.now.rest = ap (λ r. r.room) c.self.view_is ∙ c.move_to_front.ensures.room in
    let within : self.end < vec_len self.buffer = omega (arith, c.requires, room-is, c.self.invariant.0) in
    let more : 0 < 2 ^ 32 - self.taken = omega (arith, c.if-self-eq-MOST.false, c.self.invariant.5) in
    let same = same_range self.buffer.items c.read_at.new.buffer.items self.start self.end (omega arith) c.read_at.ensures.front in
    let none : c.in-Ok-eq0.field-0 ≡ 0 = omega (arith, c.in-Ok-eq0.field-0-test) in
    let before = g.R.Read.remaining c.args.reader.now.stream in
    let after = g.R.Read.remaining c.read_at.new.reader.stream in
    let taken : Consumes before after [] = subst (λ k. Consumes before after (take k (drop self.end c.read_at.new.buffer.items))) none c.in-Ok-eq0.ensures.bytes in
    (c.in-Ok-eq0.ensures.end none within more, all_kept before after taken, same ∙ rest-is, taken-is)

pub returns-in-Ok-clause-bytes : goal.returns-in-Ok-clause-bytes
returns-in-Ok-clause-bytes g c =
    let self = c.self.inside in
    let n = c.in-Ok.n in
    let items = c.read_at.new.buffer.items in
    let bytes = take n (drop self.end items) in
    let rest-is : slice_range self.buffer.items self.start self.end ≡ c.args.self.now.rest = ap (λ r. r.rest) c.self.view_is ∙ c.move_to_front.ensures.rest in
    let taken-is : self.taken ≡ c.args.self.now.taken = ap (λ r. r.taken) c.self.view_is ∙ c.move_to_front.ensures.taken in
    let grown = range_grown self.buffer.items items self.start self.end n (omega arith) c.read_at.ensures.front in
    let fits : n ≤ length (drop self.end items) = omega (arith, length-drop self.end items, c.in-Ok.ensures.bound.1, c.read_at.new.buffer.ok.0) in
    let len : length bytes ≡ n = length-take-le n (drop self.end items) fits in
    (bytes, c.in-Ok.ensures.bytes, grown ∙ ap (λ xs. xs ++ bytes) rest-is, omega (arith, len, c.in-Ok.n-test.1), ap (λ k. k + n) taken-is ∙ ap (λ k. c.args.self.now.taken + k) (sym len))

pub returns-in-Err-clause-bytes : goal.returns-in-Err-clause-bytes
returns-in-Err-clause-bytes g c =
    let self = c.self.inside in
    let rest-is : slice_range self.buffer.items self.start self.end ≡ c.args.self.now.rest = ap (λ r. r.rest) c.self.view_is ∙ c.move_to_front.ensures.rest in
    let taken-is : self.taken ≡ c.args.self.now.taken = ap (λ r. r.taken) c.self.view_is ∙ c.move_to_front.ensures.taken in
    let same = same_range self.buffer.items c.read_at.new.buffer.items self.start self.end (omega arith) c.read_at.ensures.front in
    ([], none_taken _ _ c.in-Err.ensures.bytes, same ∙ rest-is, taken-is, omega (arith, taken-is, c.self.invariant.5))

pub overflow_sub-most : goal.overflow_sub-most
overflow_sub-most g c = c.self.invariant.5

pub read_at-requires : goal.read_at-requires
read_at-requires g c = omega (arith, c.self.invariant.0, c.self.invariant.4)

pub overflow_add-self : goal.overflow_add-self
overflow_add-self g c = omega (arith, c.in-Ok.ensures.bound.1, c.in-Ok.ensures.len, c.self.invariant.0)

pub overflow_add-self-in-Ok : goal.overflow_add-self-in-Ok
overflow_add-self-in-Ok g c = omega (arith, c.in-Ok.ensures.bound.0, c.self.invariant.5)

pub invariant_of-self : goal.invariant_of-self
invariant_of-self g c =
    let (len, line, line_limit, rest, limit, taken) = c.self.invariant in
    (omega (arith, c.read_at.ensures.len, len, c.read_at.new.buffer.ok.0), line, line_limit, rest, limit, taken)

pub invariant_of-self-in-Ok : goal.invariant_of-self-in-Ok
invariant_of-self-in-Ok g c =
    let (len, line, line_limit, rest, limit, taken) = c.self.invariant in
    let new_len : length c.read_at.new.buffer.items ≡ 65536 = omega (arith, c.read_at.ensures.len, len, c.read_at.new.buffer.ok.0) in
    (new_len, line, line_limit, omega arith, omega (arith, c.in-Ok.ensures.bound.1, new_len, c.read_at.new.buffer.ok.0), omega (arith, c.in-Ok.ensures.bound.0, taken))

pub invariant_of-self-in-Err : goal.invariant_of-self-in-Err
invariant_of-self-in-Err g c =
    let (len, line, line_limit, rest, limit, taken) = c.self.invariant in
    (omega (arith, c.read_at.ensures.len, len, c.read_at.new.buffer.ok.0), line, line_limit, rest, limit, taken)

pub returns-in-Ok-eq0-clause-taken : goal.returns-in-Ok-eq0-clause-taken
returns-in-Ok-eq0-clause-taken g c = c.self.invariant.5

pub returns-in-Ok-clause-taken : goal.returns-in-Ok-clause-taken
returns-in-Ok-clause-taken g c = omega (arith, c.in-Ok.ensures.bound.0, c.self.invariant.5)
