use Rattle.std.proofs.Common.{[], ◌∷◌, arith}
use Rattle.std.proofs.lemmas.Grind.{common_steps}
use Rattle.std.proofs.lemmas.List.{length-append}
use Rattle.dmc_history.proofs.BlockLemmas.{length-events_of, len-le, AreFilled-push, room_of-push, events_of-push}
use Rattle.dmc_history.proofs.History.reserve_one.Goals as goal

pub returns-then-self-clause-full : goal.returns-then-self-clause-full
returns-then-self-clause-full g c =
    let counted = length-events_of _ _ c.self.invariant.0 in
    rw (← c.self.view_is) (grind (arith, common_steps, counted))

pub invariant_of-self : goal.invariant_of-self
invariant_of-self g c =
    let (b, added, empty, memory) = c.in_ok-add_block.ensures.ok in
    (rw added (AreFilled-push _ _ b c.self.invariant.0 (len-le _ _ c.self.invariant.0) empty memory), c.self.invariant.1)

pub returns-in_err-add_block-clause-full : goal.returns-in_err-add_block-clause-full
returns-in_err-add_block-clause-full g c =
    let counted = length-events_of _ _ c.self.invariant.0 in
    rw (← c.self.view_is) (grind (arith, common_steps, counted))

pub returns-in_ok-add_block-clause-ok : goal.returns-in_ok-add_block-clause-ok
returns-in_ok-add_block-clause-ok g c =
    let (b, added, empty, memory) = c.in_ok-add_block.ensures.ok in
    let bound = len-le _ _ c.self.invariant.0 in
    rw added (omega (arith, length-append c.self.inside.blocks.items (b ∷ [])))

pub returns-in_ok-add_block-clause-events : goal.returns-in_ok-add_block-clause-events
returns-in_ok-add_block-clause-events g c =
    let (b, added, empty, memory) = c.in_ok-add_block.ensures.ok in
    rw (← c.self.view_is, added) (events_of-push c.self.inside.blocks.items b empty)

pub returns-in_ok-add_block-clause-fewer : goal.returns-in_ok-add_block-clause-fewer
returns-in_ok-add_block-clause-fewer g c =
    let counted = length-events_of _ _ c.self.invariant.0 in
    rw (← c.self.view_is) (omega (arith, counted))

pub returns-in_ok-add_block-clause-block : goal.returns-in_ok-add_block-clause-block
returns-in_ok-add_block-clause-block g c =
    let (b, added, empty, memory) = c.in_ok-add_block.ensures.ok in
    let counted = length-events_of _ _ c.self.invariant.0 in
    let bound = len-le _ _ c.self.invariant.0 in
    rw (← c.self.view_is, added, counted) (λ none. omega (arith, room_of-push _ b _ c.self.inside.most bound (omega arith)))

pub returns-in_ok-add_block-clause-full : goal.returns-in_ok-add_block-clause-full
returns-in_ok-add_block-clause-full g c =
    let counted = length-events_of _ _ c.self.invariant.0 in
    rw (← c.self.view_is) (grind (arith, common_steps, counted))

pub returns-else-self-len-clause-ok : goal.returns-else-self-len-clause-ok
returns-else-self-len-clause-ok g c =
    let bound = len-le _ _ c.self.invariant.0 in
    rw (← c.self.view_is) (omega arith)

pub returns-else-self-len-clause-fewer : goal.returns-else-self-len-clause-fewer
returns-else-self-len-clause-fewer g c =
    let counted = length-events_of _ _ c.self.invariant.0 in
    rw (← c.self.view_is) (omega (arith, counted))

pub returns-else-self-len-clause-block : goal.returns-else-self-len-clause-block
returns-else-self-len-clause-block g c =
    let bound = len-le _ _ c.self.invariant.0 in
    rw (← c.self.view_is) (λ none. absurd (omega arith))

pub returns-else-self-len-clause-full : goal.returns-else-self-len-clause-full
returns-else-self-len-clause-full g c =
    let counted = length-events_of _ _ c.self.invariant.0 in
    rw (← c.self.view_is) (grind (arith, common_steps, counted))

pub returns-in_err-add_block-clause-memory : goal.returns-in_err-add_block-clause-memory
returns-in_err-add_block-clause-memory g c =
    let counted = length-events_of _ _ c.self.invariant.0 in
    let bound = len-le _ _ c.self.invariant.0 in
    rw (← c.self.view_is, counted) (λ _. omega (arith, bound))
