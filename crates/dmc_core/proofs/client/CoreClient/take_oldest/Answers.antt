use Rattle.std.proofs.Common.{◌<◌, length, map, drop, refl}
use Rattle.dmc_core.specs.Run.{Pair, with_flight}
use Rattle.dmc_core.specs.internal.Parts.{pair_of}
use Rattle.dmc_core.proofs.Pairs.{pair_changed, room_same}
use Rattle.dmc_core.proofs.client.CoreClient.take_oldest.Goals as goal

pub returns : goal.returns
returns c =
    let items = c.self.inside.pairs.items in
    let s = c.args.server in
    let x = c.index_mut.result.now in
    let within : s.0 < length (map pair_of items) = rw (← c.self.view_is) at c.requires in
    rw (
      ← c.self.view_is,
      pair_changed items s x within c.index_mut.ensures.value c.take_oldest.new.self (λ (pair : Pair). with_flight (drop 1 pair.flight) pair) c.take_oldest.ensures.pair,
      room_same items s x c.index_mut.ensures.value c.take_oldest.new.self c.take_oldest.ensures.room,
    ) refl
