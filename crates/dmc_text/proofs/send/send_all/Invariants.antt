-- The first bytes are written, and no call failed.
use Rattle.std.proofs.Common.{◌-◌, ◌≤◌, take, length}
use Rattle.std.specs.Io.KnownBytes.{Appends}
use Rattle.dmc_text.specs.Watching.{IsCalm}
use Rattle.dmc_text.proofs.send.send_all.Given as goal

abbrev pub invariant-loop-at : goal.invariant-loop-at
invariant-loop-at g l = record {
  bound : l.at ≤ length l.bytes;
  written : Appends (g.W.Write.contents l.fn.writer.stream) (g.W.Write.contents l.writer.stream) (take l.at l.bytes);
  calm : IsCalm l.fn.writer l.writer;
}

abbrev pub decreases-loop-at : goal.decreases-loop-at
decreases-loop-at g l = length l.bytes - l.at
