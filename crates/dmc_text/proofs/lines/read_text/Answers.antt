-- What was read is at the front.
use Rattle.std.proofs.Common.{◌∙◌, arith, take, subst, refl}
use Rattle.std.specs.Io.KnownBytes.{Consumes}
use Rattle.std.proofs.KnownBytes.{Consumes-kept, Consumes-nil}
use Rattle.std.proofs.lemmas.List.{length-take}
use Rattle.std.proofs.lemmas.Result.{IfOk-from_err}
use Rattle.dmc_lemmas.proofs.Options.{of_err}
use Rattle.dmc_text.proofs.ReadingLemmas.{consumes_next}
use Rattle.dmc_text.proofs.lines.read_text.Goals as goal

pub loop-len-preserved : goal.loop-len-preserved
loop-len-preserved g c =
    let of = g.R.Read.remaining in
    record {
      within = omega (arith, c.in_ok-n.ensures.bound.1);
      room = c.read_at.ensures.len ∙ c.loop-len.invariant.room;
      read = consumes_next (of c.args.reader.now.stream) (of c.loop-len.reader.stream) (of c.read_at.new.reader.stream) c.loop-len.buffer.items c.read_at.new.buffer.items c.loop-len.len c.in_ok-n.n
          c.read_at.ensures.front c.loop-len.invariant.read c.in_ok-n.ensures.bytes;
      calm = c.in_ok-n.ensures.note ∙ c.loop-len.invariant.calm;
    }

pub returns-in_err-n-clause-err : goal.returns-in_err-n-clause-err
returns-in_err-n-clause-err g c =
    let of = g.R.Read.remaining in
    let front = take c.loop-len.len c.loop-len.buffer.items in
    of_err c.from_residual.result (
      front,
      Consumes-kept (of c.args.reader.now.stream) (of c.loop-len.reader.stream) (of c.read_at.new.reader.stream) front c.loop-len.invariant.read c.in_err-n.ensures.bytes,
      omega (arith, length-take c.loop-len.len c.loop-len.buffer.items, c.loop-len.invariant.within, c.loop-len.invariant.room),
    )

pub returns-in-0-clause-bytes : goal.returns-in-0-clause-bytes
returns-in-0-clause-bytes g c =
    let of = g.R.Read.remaining in
    let n = c.in_ok-n.n in
    let all = consumes_next (of c.args.reader.now.stream) (of c.loop-len.reader.stream) (of c.read_at.new.reader.stream) c.loop-len.buffer.items c.read_at.new.buffer.items c.loop-len.len n c.read_at.ensures.front c.loop-len.invariant.read c.in_ok-n.ensures.bytes in
    subst (λ k. Consumes (of c.args.reader.now.stream) (of c.read_at.new.reader.stream) (take k c.read_at.new.buffer.items)) (omega arith) all

pub returns-in-0-clause-end : goal.returns-in-0-clause-end
returns-in-0-clause-end g c = λ short. c.in_ok-n.ensures.end c.in-0.is (omega (arith, c.len.ensures)) (omega arith)

pub loop-len-init : goal.loop-len-init
loop-len-init g c = record { within = omega arith; room = refl; read = Consumes-nil (g.R.Read.remaining c.args.reader.now.stream); calm = refl }

pub returns-in_err-n-clause-len : goal.returns-in_err-n-clause-len
returns-in_err-n-clause-len g c = c.read_at.ensures.len ∙ c.loop-len.invariant.room

pub returns-in_err-n-clause-within : goal.returns-in_err-n-clause-within
returns-in_err-n-clause-within g c = IfOk-from_err c.from_residual.result _ c.from_residual.ensures.0

pub returns-in_err-n-clause-bytes : goal.returns-in_err-n-clause-bytes
returns-in_err-n-clause-bytes g c = IfOk-from_err c.from_residual.result _ c.from_residual.ensures.0

pub returns-in_err-n-clause-end : goal.returns-in_err-n-clause-end
returns-in_err-n-clause-end g c = IfOk-from_err c.from_residual.result _ c.from_residual.ensures.0

pub returns-in-0-clause-len : goal.returns-in-0-clause-len
returns-in-0-clause-len g c = c.read_at.ensures.len ∙ c.loop-len.invariant.room

pub returns-clause-bytes : goal.returns-clause-bytes
returns-clause-bytes g c = c.loop-len.invariant.read

pub returns-clause-end : goal.returns-clause-end
returns-clause-end g c = λ short. absurd (omega (arith, c.loop-len-test.false, c.len.ensures, c.loop-len.invariant.room))
