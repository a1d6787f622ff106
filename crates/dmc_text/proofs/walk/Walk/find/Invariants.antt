-- What was read so far is fed, and no call failed.
use Rattle.std.proofs.Common.{◌-◌}
use Rattle.dmc_text.specs.Reading.{max_bytes}
use Rattle.dmc_text.specs.Walks.{Feeds}
use Rattle.dmc_text.specs.Watching.{IsCalm}
use Rattle.dmc_text.proofs.walk.Walk.find.Given as goal

abbrev pub invariant-loop-self : goal.invariant-loop-self
invariant-loop-self g l = record {
  feeds : Feeds (g.R.Read.remaining l.fn.reader.stream) (g.W.Write.contents l.fn.writer.stream) l.fn.self (g.R.Read.remaining l.reader.stream) (g.W.Write.contents l.writer.stream) l.self;
  reader : IsCalm l.fn.reader l.reader;
  writer : IsCalm l.fn.writer l.writer;
}

abbrev pub decreases-loop-self : goal.decreases-loop-self
decreases-loop-self g l = max_bytes - l.self.lines.taken
