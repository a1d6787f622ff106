-- The read is given the piece from the index on, which is as long as what may be read.
use Rattle.std.proofs.Common.{◌≡◌, ◌+◌, ◌≤◌, length, take, ap, ◌∙◌, arith}
use Rattle.std.proofs.lemmas.Result.{IfOk-weaker}
use Rattle.dmc_text.proofs.PieceLemmas.{max_kept, length_of_piece, before_piece, read_in_piece, end_in_piece}
use Rattle.dmc_text.proofs.lines.read_at.Given.{Over}
use Rattle.dmc_text.proofs.lines.read_at.Goals.{After-read}
use Rattle.dmc_text.proofs.lines.read_at.Goals as goal

-- ---- what the clauses share: the piece ends within the buffer, and the read is given all of it

fits : (g : Over) (c : After-read g) → c.args.at + c.min-most.result ≤ length c.deref_mut.result.now
fits g c = omega (arith, c.min-most.ensures, c.len.ensures, c.requires, c.deref_mut.ensures.len)

len : (g : Over) (c : After-read g) → length c.read.new.buffer ≡ c.min-most.result
len g c = c.read.ensures.len ∙ length_of_piece c.deref_mut.result.now c.args.at c.min-most.result (fits g c)

-- ---- the goals

pub overflow_add-at : goal.overflow_add-at
overflow_add-at g c = omega (arith, c.min-most.ensures, c.len.ensures, c.requires, c.len.type_inv)

pub returns-clause-front : goal.returns-clause-front
returns-clause-front g c =
    let within : c.args.at ≤ length c.deref_mut.result.now = omega (arith, c.requires, c.deref_mut.ensures.len) in
    before_piece c.deref_mut.result.now c.read.new.buffer _ _ c.args.at c.args.buffer.now.len within c.requires ∙ ap (take c.args.at) c.deref_mut.ensures.value

pub returns-clause-bound : goal.returns-clause-bound
returns-clause-bound g c =
    let a = (goal.at.returns-clause-bound g c).After-read in
    let most-is : c.unwrap_or.result ≡ c.args.most = max_kept _ _ _ _ _ c.try_from.ensures c.ranges.most.fits c.unwrap_or.ensures in
    let fits = fits g a in
    let len = len g a in
    IfOk-weaker c.read.result _ _ (λ k short. (omega (arith, c.min-most.ensures), omega (arith, c.deref_mut.ensures.len))) c.read.ensures.bound

pub returns-clause-bytes : goal.returns-clause-bytes
returns-clause-bytes g c =
    let a = (goal.at.returns-clause-bytes g c).After-read in
    let fits = fits g a in
    let within : c.args.at ≤ length c.deref_mut.result.now = omega (arith, fits) in
    let room : c.args.at + length c.read.new.buffer ≤ c.args.buffer.now.len = omega (arith, len g a, fits, c.deref_mut.ensures.len) in
    read_in_piece _ _ c.read.result c.deref_mut.result.now c.read.new.buffer _ _ c.args.at c.args.buffer.now.len within room
    c.read.ensures.bound c.read.ensures.bytes

pub returns-clause-end : goal.returns-clause-end
returns-clause-end g c =
    let a = (goal.at.returns-clause-end g c).After-read in
    let most-is : c.unwrap_or.result ≡ c.args.most = max_kept _ _ _ _ _ c.try_from.ensures c.ranges.most.fits c.unwrap_or.ensures in
    end_in_piece _ _ c.read.result _ (λ room some. omega (arith, len g a, c.min-most.ensures, c.len.ensures, most-is)) c.read.ensures.bytes
