-- What was added, carried over the names that are left, is what is added by all.
use Rattle.std.proofs.Common.{◌≡◌, ◌++◌, map, string_bytes}
use Rattle.toml.specs.View.{table_view}
use Rattle.dmc_scene.specs.Ignored.{ignored_names, names_of}
use Rattle.dmc_scene.proofs.ignored.add_names.Given as goal

abbrev pub invariant-loop-name : goal.invariant-loop-name
invariant-loop-name l = l.ignored.items ++ ignored_names l.client l.known (map string_bytes l.name-iterator) ≡ l.fn.ignored.items ++ ignored_names l.client l.known (names_of (table_view l.table))
