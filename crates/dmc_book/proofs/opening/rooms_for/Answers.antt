use Rattle.std.proofs.Common.{◌≡◌, arith, length-append, map, rules, subst}
use Rattle.std.specs.Arc.{arc_value}
use Rattle.dmc_lemmas.proofs.Lists.{all_append}
use Rattle.dmc_book.specs.internal.Rooms.{IsRoom}
use Rattle.dmc_book.proofs.opening.rooms_for.Goals as goal

pub loop-preserved : goal.loop-preserved
loop-preserved g c =
    let named : (arc_value c.in_ok-clients-2.clients).keys ≡ map (λ d. d.client) c.args.desks.now = search rules in
    let room = subst (λ names. IsRoom names c.in_ok-room.room) named c.in_ok-room.ensures in
    record {
      rooms = rw c.in_ok-push.ensures.items (all_append _ c.loop.rooms.items _ c.loop.invariant.rooms (room, tt));
      as_many = rw c.in_ok-push.ensures.items (simp length-append (omega arith));
    }
