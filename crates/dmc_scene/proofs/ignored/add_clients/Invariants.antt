-- What was added, carried over the clients that are left, is what is added by all.
use Rattle.std.proofs.Common.{◌≡◌, ◌+◌, ◌++◌, drop}
use Rattle.std.specs.Prelude.{flat_map}
use Rattle.std.specs.List.{enumerate_from}
use Rattle.toml.specs.View.{items_view}
use Rattle.dmc_scene.specs.Ignored.{ignored_of_client, list_of}
use Rattle.dmc_scene.proofs.ignored.add_clients.Given as goal

abbrev pub invariant-loop-index : goal.invariant-loop-index
invariant-loop-index l =
    l.ignored.items ++ flat_map ignored_of_client (enumerate_from (l.index + 1) (list_of (items_view (drop l.index l.values))))
    ≡ l.fn.ignored.items ++ flat_map ignored_of_client (enumerate_from 1 (list_of (items_view l.values)))
