-- Interrupted reads take nothing.
use Rattle.std.proofs.Common.{◌≡◌, length}
use Rattle.std.specs.Io.KnownBytes.{Keeps}
use Rattle.dmc_text.proofs.watched.read_once.Given as goal

abbrev pub invariant-loop : goal.invariant-loop
invariant-loop g l = record {
  kept : Keeps (g.R.Read.remaining l.fn.stream) (g.R.Read.remaining l.stream);
  len : length l.buffer ≡ length l.fn.buffer;
}
