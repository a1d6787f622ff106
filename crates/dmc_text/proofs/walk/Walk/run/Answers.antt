-- Lines are taken one after the other, until the walk ends.
use Rattle.std.proofs.Common.{◌≡◌, ◌+◌, ◌++◌, Bool, length, refl, ◌∙◌, arith}
use Rattle.std.specs.Prelude.{⊤}
use Rattle.dmc_lemmas.proofs.Options.{err_is}
use Rattle.dmc_text.proofs.WalkLemmas.{begins, fed, took, less_left, closed, find_ends, take_ends, last_ends}
use Rattle.dmc_text.proofs.WalkReading.{ends_later}
use Rattle.dmc_text.proofs.walk.Walk.run.Goals as goal

pub loop-self-init : goal.loop-self-init
loop-self-init g c = record {
  so_far = begins g.L.TakesLines.takes c.args.taker.now (g.R.Read.remaining c.args.reader.now.stream) (g.W.Write.contents c.args.writer.now.stream) c.args.self.now c.requires;
  reader = refl;
  writer = refl;
}

pub returns-in_err-find-clause-bytes : goal.returns-in_err-find-clause-bytes
returns-in_err-find-clause-bytes g c =
    let l = g.L.TakesLines in
    rw (err_is _ _ c.from_residual.ensures.1) (find_ends l.refuses l.has_config g.met.L.TakesLines.long (g.R.Read.remaining c.find.new.reader.stream) (g.W.Write.contents c.find.new.writer.stream) c.find.new.self
    c.in_err-find.field-0.0 c.loop-self.invariant.so_far c.in_err-find.ensures.bytes)

pub returns-in_err-find-clause-notes : goal.returns-in_err-find-clause-notes
returns-in_err-find-clause-notes g c =
    let p = c.loop-self.invariant.so_far in
    let later : c.loop-self.self.lines.taken ≡ 0 + length (p.done ++ c.loop-self.self.lines.rest) = omega (arith, p.taken) in
    rw (err_is _ _ c.from_residual.ensures.1) (ends_later Bool ⊤ g.R.Read.remaining 0 c.loop-self.self.lines.taken (p.done ++ c.loop-self.self.lines.rest)
    c.args.reader.now c.loop-self.reader c.find.new.reader c.args.writer.now c.loop-self.writer c.find.new.writer c.in_err-find.field-0.0
    p.reads later c.loop-self.invariant.reader c.loop-self.invariant.writer c.in_err-find.ensures.notes)

pub loop-self-preserved : goal.loop-self-preserved
loop-self-preserved g c = record {
  so_far = took c.loop-self.invariant.so_far (rw (c.if-branch.true) at c.in_ok-find.ensures.bytes) c.in_ok-take.ensures;
  reader = c.in_ok-find.ensures.notes.0 ∙ c.loop-self.invariant.reader;
  writer = c.in_ok-find.ensures.notes.1 ∙ c.loop-self.invariant.writer;
}

pub loop-self-smaller : goal.loop-self-smaller
loop-self-smaller g c = less_left (rw (c.if-branch.true) at c.in_ok-find.ensures.bytes) c.in_ok-take.ensures

pub returns-in_err-take-clause-bytes : goal.returns-in_err-take-clause-bytes
returns-in_err-take-clause-bytes g c =
    let l = g.L.TakesLines in
    rw (err_is _ _ c.from_residual-in_err-take.ensures.1) (take_ends l.refuses l.has_config c.take.new.taker c.take.new.self
    c.in_err-take.field-0.0 c.loop-self.invariant.so_far (rw (c.if-branch.true) at c.in_ok-find.ensures.bytes) c.in_err-take.ensures)

pub returns-in_err-take_last-clause-bytes : goal.returns-in_err-take_last-clause-bytes
returns-in_err-take_last-clause-bytes g c =
    let l = g.L.TakesLines in
    let ended = rw (c.if-branch.false) at c.in_ok-find.ensures.bytes in
    rw (err_is _ _ c.from_residual-in_err-take_last.ensures.1) (last_ends l.refuses l.has_config c.take_last.new.taker c.take_last.new.self
    c.in_err-take_last.field-0.0 (fed c.loop-self.invariant.so_far ended.0) ended.1 c.in_err-take_last.ensures)

pub returns-clause-bytes : goal.returns-clause-bytes
returns-clause-bytes g c =
    let l = g.L.TakesLines in
    let ended = rw (c.if-branch.false) at c.in_ok-find.ensures.bytes in
    rw c.close.ensures (closed l.refuses l.has_config (fed c.loop-self.invariant.so_far ended.0) c.in_ok-take_last.ensures ended.1)
