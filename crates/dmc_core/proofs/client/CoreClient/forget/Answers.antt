use Rattle.std.proofs.Common.{◌<◌, length, map, refl}
use Rattle.std.proofs.lemmas.List.{map-set}
use Rattle.dmc_core.specs.internal.Parts.{pair_of, room_of}
use Rattle.dmc_core.proofs.Pairs.{pair_same, room_seen}
use Rattle.dmc_core.proofs.client.CoreClient.forget.Goals as goal

pub returns : goal.returns
returns c =
    let items = c.self.inside.pairs.items in
    let s = c.args.server in
    let x = c.index_mut.result.now in
    let within : s.0 < length (map pair_of items) = rw (← c.self.view_is) at c.requires.within in
    let y = c.forget.new.self in
    rw (
      ← c.self.view_is,
      pair_same items s x within c.index_mut.ensures.value y c.forget.ensures.pair,
      map-set room_of items s.0 y,
      c.forget.ensures.room,
      room_seen items s x within c.index_mut.ensures.value,
    ) refl
