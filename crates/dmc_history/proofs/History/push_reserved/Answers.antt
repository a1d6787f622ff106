use Rattle.std.proofs.Common.{◌≡◌, ◌/◌, [], ◌∷◌, ◌++◌, get_or, arith, rules}
use Rattle.dmc_history.proofs.BlockLemmas.{next_has_place, AreFilled-set, events_of-set}
use Rattle.dmc_history.proofs.History.push_reserved.Goals as goal

pub push_reserved-requires : goal.push_reserved-requires
push_reserved-requires g c =
    let reserved = rw (← c.self.view_is) at c.requires in
    let block = c.index_mut-block.result.now in
    let place = rw (← c.index_mut-block.ensures.value) at (next_has_place _ _ block c.self.invariant.0 (omega arith)) in
    omega (arith, place, block.ok.0)

pub invariant_of-self : goal.invariant_of-self
invariant_of-self g c =
    let reserved = rw (← c.self.view_is) at c.requires in
    let added : c.push_reserved.new.self.items ≡ (get_or c.self.inside.blocks.items (c.self.inside.len / 1024) c.index_mut-block.result.now).items ++ c.args.event ∷ [] = search rules in
    (AreFilled-set _ _ c.index_mut-block.result.now c.push_reserved.new.self c.args.event c.self.invariant.0 (omega arith) added (rw (← c.index_mut-block.ensures.value) (omega (arith, c.push_reserved.ensures.capacity))), record { some = c.self.invariant.1.some; greatest = c.self.invariant.1.greatest; within = omega arith })

pub returns-clause-events : goal.returns-clause-events
returns-clause-events g c =
    let reserved = rw (← c.self.view_is) at c.requires in
    let added : c.push_reserved.new.self.items ≡ (get_or c.self.inside.blocks.items (c.self.inside.len / 1024) c.index_mut-block.result.now).items ++ c.args.event ∷ [] = search rules in
    rw (← c.self.view_is) (events_of-set _ _ c.index_mut-block.result.now c.push_reserved.new.self c.args.event c.self.invariant.0 (omega arith) added)
