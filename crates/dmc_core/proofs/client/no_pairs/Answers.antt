use Rattle.std.proofs.Common.{ℕ, ◌++◌, ◌∷◌, [], List, map, replicate, refl, ap, ◌∙◌, arith}
use Rattle.std.proofs.lemmas.List.{map-append, replicate_more}
use Rattle.dmc_core.specs.Run.{Pair, no_pair}
use Rattle.dmc_core.specs.Core.{Room, no_room}
use Rattle.dmc_core.specs.internal.Parts.{pair_of, room_of}
use Rattle.dmc_core.proofs.client.no_pairs.Goals as goal

pub loop-init : goal.loop-init
loop-init c = (rw c.in_ok-pairs.ensures.items refl, rw c.in_ok-pairs.ensures.items refl)

pub loop-preserved : goal.loop-preserved
loop-preserved c =
    let one_more = λ (pairs : List Pair) (pair : Pair). pairs ++ pair ∷ [] in
    let another = λ (rooms : List Room) (room : Room). rooms ++ room ∷ [] in (
      ap (map pair_of) c.in_ok-push.ensures.items ∙ map-append pair_of c.loop.pairs.items _
          ∙ ap (one_more (map pair_of c.loop.pairs.items)) c.new.ensures.pair ∙ ap (λ (pairs : List Pair). one_more pairs no_pair) c.loop.invariant.0
          ∙ replicate_more c.loop.counter no_pair,
      ap (map room_of) c.in_ok-push.ensures.items ∙ map-append room_of c.loop.pairs.items _
          ∙ ap (another (map room_of c.loop.pairs.items)) c.new.ensures.room ∙ ap (λ (rooms : List Room). another rooms no_room) c.loop.invariant.1
          ∙ replicate_more c.loop.counter no_room,
    )

pub returns-clause-pairs : goal.returns-clause-pairs
returns-clause-pairs c = c.loop.invariant.0 ∙ ap (λ (n : ℕ). replicate n no_pair) (omega arith)

pub returns-clause-rooms : goal.returns-clause-rooms
returns-clause-rooms c = c.loop.invariant.1 ∙ ap (λ (n : ℕ). replicate n no_room) (omega arith)
