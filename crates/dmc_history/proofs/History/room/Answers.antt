use Rattle.std.proofs.Common.{◌≡◌, ◌-◌, arith}
use Rattle.dmc_history.specs.Blocks.{room_of}
use Rattle.dmc_history.proofs.BlockLemmas.{length-events_of, len-le, slots_end}
use Rattle.dmc_history.proofs.History.room.Goals as goal

pub overflow_sub-result : goal.overflow_sub-result
overflow_sub-result g c =
    let bound = len-le _ _ c.self.invariant.0 in
    omega (arith, bound, c.self.invariant.1.within, c.self.invariant.1.greatest, c.len.ensures, c.saturating_mul-places.ensures, c.min.ensures)

pub returns-clause-bound : goal.returns-clause-bound
returns-clause-bound g c =
    let counted = length-events_of _ _ c.self.invariant.0 in
    rw (← c.self.view_is, counted) (omega (arith, c.self.invariant.1.within, c.min.ensures))

pub returns-clause-whole : goal.returns-clause-whole
returns-clause-whole g c =
    let counted = length-events_of _ _ c.self.invariant.0 in
    let bound = len-le _ _ c.self.invariant.0 in
    let slots : c.min.result - c.self.inside.len ≡ room_of c.self.inside.blocks.items c.self.inside.len c.self.inside.most =
    omega (arith, c.self.invariant.1.greatest, c.len.ensures, c.saturating_mul-places.ensures, c.min.ensures) in
    rw (← c.self.view_is, counted, slots) (slots_end _ _ _ bound c.self.invariant.1.within)
