-- The lines of the keys so far are there.
use Rattle.std.proofs.Common.{◌≡◌, ◌++◌, take}
use Rattle.std.specs.Prelude.{flat_map, string_bytes}
use Rattle.dmc_tool.specs.Ignored.{ignored_line}
use Rattle.dmc_tool.proofs.ignored.put_keys.Given as goal

abbrev pub invariant-loop-key : goal.invariant-loop-key
invariant-loop-key l = string_bytes l.lines ≡ string_bytes l.fn.lines ++ flat_map ignored_line (take l.key-index l.keys)
