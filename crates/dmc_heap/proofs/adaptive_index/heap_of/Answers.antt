-- Each key is below the bound and copied, or neither has it.
use Rattle.std.proofs.Common.{◌-◌, ◌++◌, None, length, replicate, sym, ◌∙◌, inl, inr, arith}
use Rattle.std.specs.Prelude.{Option}
use Rattle.std.proofs.lemmas.Bool.{cases_lt}
use Rattle.std.proofs.lemmas.List.{length-append, length-replicate, get_or_past}
use Rattle.dmc_index.proofs.Slots.{same_slots, slot_of_key-more}
use Rattle.dmc_heap.proofs.adaptive_index.heap_of.Goals as goal

pub returns : goal.returns
returns g c =
    let list = c.args.list.now in
    let more = c.args.n - length list in
    let none : Option g.row.R.Denot = None in
    let copied = c.loop-key.invariant.0 in
    same_slots c.loop-key.heap (list ++ replicate more none)
    (omega (arith, c.loop-key.invariant.1, c.requires.room, length-append list (replicate more none), length-replicate more none))
    (λ key. elim (cases_lt key c.loop-key.key) [
      | inl l ↦ copied.below key l ∙ sym (slot_of_key-more list more key)
      | inr l ↦ copied.above key l ∙ sym (slot_of_key-more list more key ∙ get_or_past list key none (omega (arith, c.requires.few)))
    ])
