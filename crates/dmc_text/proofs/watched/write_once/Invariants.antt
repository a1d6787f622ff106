-- Interrupted writes write nothing.
use Rattle.std.specs.Io.KnownBytes.{Keeps}
use Rattle.dmc_text.proofs.watched.write_once.Given as goal

abbrev pub invariant-loop : goal.invariant-loop
invariant-loop g l = Keeps (g.W.Write.contents l.fn.stream) (g.W.Write.contents l.stream)
