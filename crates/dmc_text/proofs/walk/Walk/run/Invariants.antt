-- Whole lines were taken, from the first one on, and no call failed.
use Rattle.dmc_text.specs.Watching.{IsCalm}
use Rattle.dmc_text.proofs.WalkLemmas.{Progress, work_left}
use Rattle.dmc_text.proofs.walk.Walk.run.Given as goal

abbrev pub invariant-loop-self : goal.invariant-loop-self
invariant-loop-self g l = record {
  so_far : Progress g.L.TakesLines.takes l.fn.taker (g.R.Read.remaining l.fn.reader.stream) (g.W.Write.contents l.fn.writer.stream) (g.R.Read.remaining l.reader.stream) (g.W.Write.contents l.writer.stream) l.self l.taker;
  reader : IsCalm l.fn.reader l.reader;
  writer : IsCalm l.fn.writer l.writer;
}

abbrev pub decreases-loop-self : goal.decreases-loop-self
decreases-loop-self g l = work_left l.self
