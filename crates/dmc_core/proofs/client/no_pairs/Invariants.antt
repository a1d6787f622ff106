use Rattle.std.proofs.Common.{◌≡◌, map, replicate}
use Rattle.dmc_core.specs.Run.{no_pair}
use Rattle.dmc_core.specs.Core.{no_room}
use Rattle.dmc_core.specs.internal.Parts.{pair_of, room_of}
use Rattle.dmc_core.proofs.client.no_pairs.Given as goal

abbrev pub invariant-loop : goal.invariant-loop
invariant-loop l = (map pair_of l.pairs.items ≡ replicate l.counter no_pair) × (map room_of l.pairs.items ≡ replicate l.counter no_room)
