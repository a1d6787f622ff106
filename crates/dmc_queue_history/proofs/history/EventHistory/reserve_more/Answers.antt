use Rattle.std.proofs.Common.{◌≡◌, ◌-◌, ◌∙◌, length, min, arith, rules}
use Rattle.std.specs.Prelude.{IsErrOf}
use Rattle.dmc_history.specs.Log.{block_size}
use Rattle.dmc_history.specs.declared.ReserveFault.TheVariants.{HistoryFull, Memory}
use Rattle.dmc_queue_history.specs.Kept.{kept_of}
use Rattle.dmc_queue_history.proofs.Adding.{length-events_at, kept-reserved, filled, one_block, block_ends}
use Rattle.dmc_queue_history.proofs.history.EventHistory.reserve_more.Goals as goal

pub returns-in_err-reserve_one-clause-full : goal.returns-in_err-reserve_one-clause-full
returns-in_err-reserve_one-clause-full g c =
    rw (← c.self.view_is, length-events_at g.T.Tag.ops (kept_of c.self.inside.lists) c.self.inside.places.events c.self.invariant.found) (search rules)

pub returns-in_err-reserve_one-clause-memory : goal.returns-in_err-reserve_one-clause-memory
returns-in_err-reserve_one-clause-memory g c =
    let none : c.self.inside.room ≡ 0 = rw (← c.self.view_is) at c.requires in
    rw (← c.self.view_is, length-events_at g.T.Tag.ops (kept_of c.self.inside.lists) c.self.inside.places.events c.self.invariant.found) (
    λ h.
    let failed : IsErrOf c.reserve_one.result Memory = search rules in
    filled _ _ _ c.self.invariant.whole none (λ e. let full = c.reserve_one.ensures.full.1 e in absurd cc)
    )

pub invariant_of-self-in_err-reserve : goal.invariant_of-self-in_err-reserve
invariant_of-self-in_err-reserve g c =
    let none : c.self.inside.room ≡ 0 = rw (← c.self.view_is) at c.requires in
    kept-reserved g.T.Tag.ops _ _ _ _ _ _ c.self.invariant c.reserve.ensures.kept c.reserve.ensures.most c.reserve_one.ensures.events c.reserve_one.ensures.most c.self.invariant.within (omega (arith, none)) (omega (arith, none)) c.self.invariant.whole

pub returns-in_err-reserve-clause-full : goal.returns-in_err-reserve-clause-full
returns-in_err-reserve-clause-full g c =
    let fewer = c.in_ok-reserve_one.ensures.fewer in
    let bound = rw (c.reserve_one.ensures.events, c.reserve_one.ensures.most) at c.room.ensures.bound in
    rw (← c.self.view_is, length-events_at g.T.Tag.ops (kept_of c.self.inside.lists) c.self.inside.places.events c.self.invariant.found) (
      λ h.
          let failed : IsErrOf c.reserve.result HistoryFull = search rules in
          absurd (omega (arith, c.reserve.ensures.full c.self.inside.places.most c.self.invariant.most failed, c.self.invariant.counted, bound, c.min-more.ensures)),
      λ e. absurd (omega (arith, fewer)),
    )

pub returns-in_err-reserve-clause-memory : goal.returns-in_err-reserve-clause-memory
returns-in_err-reserve-clause-memory g c =
    let none : c.self.inside.room ≡ 0 = rw (← c.self.view_is) at c.requires in
    let fewer = c.in_ok-reserve_one.ensures.fewer in
    rw (← c.self.view_is, length-events_at g.T.Tag.ops (kept_of c.self.inside.lists) c.self.inside.places.events c.self.invariant.found)
    (λ h. filled _ _ _ c.self.invariant.whole none (λ e. absurd (omega (arith, fewer, e))))

pub invariant_of-self-2 : goal.invariant_of-self-2
invariant_of-self-2 g c =
    let places = c.self.inside.places in
    let none : c.self.inside.room ≡ 0 = rw (← c.self.view_is) at c.requires in
    let fewer = c.in_ok-reserve_one.ensures.fewer in
    let whole = filled (length places.events) c.self.inside.room places.most c.self.invariant.whole none (λ e. absurd (omega (arith, fewer, e))) in
    let bound = rw (c.reserve_one.ensures.events, c.reserve_one.ensures.most) at c.room.ensures.bound in
    let end = rw (c.reserve_one.ensures.events, c.reserve_one.ensures.most) at c.room.ensures.whole in
    let more : c.min-more.result ≡ min block_size (places.most - length places.events) =
    c.min-more.ensures ∙ one_block (length places.events) places.most c.room.result whole end bound (omega (arith, c.in_ok-reserve_one.ensures.ok, c.room.ensures.value)) in
    kept-reserved g.T.Tag.ops _ _ _ _ _ _ c.self.invariant c.reserve.ensures.kept c.reserve.ensures.most c.reserve_one.ensures.events c.reserve_one.ensures.most
    (omega (arith, bound, c.min-more.ensures))
    (omega (arith, c.room.ensures.value, c.min-more.ensures))
    c.in_ok-reserve.ensures.room
    (rw more (block_ends _ _ whole (omega (arith, fewer))))

pub returns-clause-fewer : goal.returns-clause-fewer
returns-clause-fewer g c =
    rw (← c.self.view_is, length-events_at g.T.Tag.ops (kept_of c.self.inside.lists) c.self.inside.places.events c.self.invariant.found) c.in_ok-reserve_one.ensures.fewer

pub returns-clause-block : goal.returns-clause-block
returns-clause-block g c =
    let places = c.self.inside.places in
    let none : c.self.inside.room ≡ 0 = rw (← c.self.view_is) at c.requires in
    let fewer = c.in_ok-reserve_one.ensures.fewer in
    let whole = filled (length places.events) c.self.inside.room places.most c.self.invariant.whole none (λ e. absurd (omega (arith, fewer, e))) in
    let bound = rw (c.reserve_one.ensures.events, c.reserve_one.ensures.most) at c.room.ensures.bound in
    let end = rw (c.reserve_one.ensures.events, c.reserve_one.ensures.most) at c.room.ensures.whole in
    rw (← c.self.view_is, length-events_at g.T.Tag.ops (kept_of c.self.inside.lists) places.events c.self.invariant.found)
    (c.min-more.ensures ∙ one_block (length places.events) places.most c.room.result whole end bound (omega (arith, c.in_ok-reserve_one.ensures.ok, c.room.ensures.value)))

pub returns-clause-full : goal.returns-clause-full
returns-clause-full g c =
    rw (← c.self.view_is, length-events_at g.T.Tag.ops (kept_of c.self.inside.lists) c.self.inside.places.events c.self.invariant.found)
    (λ h. absurd (search rules), λ e. absurd (omega (arith, c.in_ok-reserve_one.ensures.fewer)))
