-- What was read is at the front, and no call failed.
use Rattle.std.proofs.Common.{◌≡◌, ◌-◌, ◌≤◌, take}
use Rattle.std.specs.Prelude.{vec_len}
use Rattle.std.specs.Io.KnownBytes.{Consumes}
use Rattle.dmc_text.specs.Watching.{IsCalm}
use Rattle.dmc_text.proofs.lines.read_text.Given as goal

abbrev pub invariant-loop-len : goal.invariant-loop-len
invariant-loop-len g l = record {
  within : l.len ≤ vec_len l.buffer;
  room : vec_len l.buffer ≡ vec_len l.fn.buffer;
  read : Consumes (g.R.Read.remaining l.fn.reader.stream) (g.R.Read.remaining l.reader.stream) (take l.len l.buffer.items);
  calm : IsCalm l.fn.reader l.reader;
}

abbrev pub decreases-loop-len : goal.decreases-loop-len
decreases-loop-len g l = vec_len l.buffer - l.len
