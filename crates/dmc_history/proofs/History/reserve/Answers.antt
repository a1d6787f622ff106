use Rattle.std.proofs.Common.{[], ◌∷◌, arith}
use Rattle.std.proofs.lemmas.Grind.{common_steps}
use Rattle.std.proofs.lemmas.List.{length-append}
use Rattle.dmc_history.proofs.BlockLemmas.{length-events_of, len-le, AreFilled-push, room_of-push}
use Rattle.dmc_history.proofs.History.reserve.Goals as goal

pub returns-then-n-self-clause-full : goal.returns-then-n-self-clause-full
returns-then-n-self-clause-full g c =
    let counted = length-events_of _ _ c.self.invariant.0 in
    rw (← c.self.view_is) (grind (arith, common_steps, counted))

pub invariant_of-self : goal.invariant_of-self
invariant_of-self g c =
    let (b, added, empty, memory) = c.in_ok-add_block.ensures.ok in
    (rw added (AreFilled-push _ _ b c.self.invariant.0 (len-le _ _ c.self.invariant.0) empty memory), c.self.invariant.1)

pub returns-in_err-add_block-clause-full : goal.returns-in_err-add_block-clause-full
returns-in_err-add_block-clause-full g c =
    let counted = length-events_of _ _ c.self.invariant.0 in
    rw (← c.self.view_is) (grind (arith, common_steps, counted))

pub returns-in_ok-add_block-clause-ok : goal.returns-in_ok-add_block-clause-ok
returns-in_ok-add_block-clause-ok g c =
    let (b, added, empty, memory) = c.in_ok-add_block.ensures.ok in
    let bound = len-le _ _ c.self.invariant.0 in
    rw added (omega (arith, bound, length-append c.self.inside.blocks.items (b ∷ [])))

pub returns-in_ok-add_block-clause-fewer : goal.returns-in_ok-add_block-clause-fewer
returns-in_ok-add_block-clause-fewer g c =
    let counted = length-events_of _ _ c.self.invariant.0 in
    rw (← c.self.view_is) (omega (arith, counted, c.self.invariant.1.within))

pub returns-in_ok-add_block-clause-block : goal.returns-in_ok-add_block-clause-block
returns-in_ok-add_block-clause-block g c =
    let (b, added, empty, memory) = c.in_ok-add_block.ensures.ok in
    let counted = length-events_of _ _ c.self.invariant.0 in
    let bound = len-le _ _ c.self.invariant.0 in
    rw (← c.self.view_is, added, counted) (λ fewer. room_of-push _ b _ _ bound (omega arith))

pub returns-in_ok-add_block-clause-full : goal.returns-in_ok-add_block-clause-full
returns-in_ok-add_block-clause-full g c =
    let counted = length-events_of _ _ c.self.invariant.0 in
    rw (← c.self.view_is) (grind (arith, common_steps, counted))
