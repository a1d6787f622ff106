-- The bytes so far are there as they are shown.
use Rattle.std.proofs.Common.{◌≡◌, ◌++◌, map, take}
use Rattle.std.specs.Prelude.{string_bytes}
use Rattle.dmc_tool.specs.Ignored.{shown_byte}
use Rattle.dmc_tool.proofs.ignored.put_bytes.Given as goal

abbrev pub invariant-loop-byte : goal.invariant-loop-byte
invariant-loop-byte l = string_bytes l.lines ≡ string_bytes l.fn.lines ++ map shown_byte (take l.byte-index l.bytes)
