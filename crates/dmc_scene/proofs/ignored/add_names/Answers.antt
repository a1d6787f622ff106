-- All names are left at first.
use Rattle.std.proofs.Common.{rules, ◌≡◌, map, string_bytes}
use Rattle.std.specs.Map.{keys_of}
use Rattle.dmc_scene.proofs.IgnoredLemmas.{names_of-view}
use Rattle.dmc_scene.proofs.ignored.add_names.Goals as goal

pub loop-name-init : goal.loop-name-init
loop-name-init c =
    let all : map string_bytes c.into_iter-name-iterator.result ≡ map string_bytes (keys_of c.args.table.now.entries) = search rules in
    rw (all, names_of-view c.args.table.now.entries)
