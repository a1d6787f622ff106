use Rattle.std.proofs.Common.{◌≡◌, ◌-◌, length, take, drop, sym, ap, ◌∙◌, arith}
use Rattle.std.proofs.lemmas.List.{take_at}
use Rattle.dmc_index.specs.internal.Sliding.{IsMovedToFront}
use Rattle.dmc_index.proofs.SlidingLemmas.{moved}
use Rattle.dmc_index.proofs.sliding_index.close_gap.Goals as goal

pub returns-clause-items : goal.returns-clause-items
returns-clause-items g c =
    let old = c.args.entries.now in
    let start = c.args.start in
    let new = c.move_to_front.new.entries in
    let front : IsMovedToFront start old.items new = rw c.deref_mut.ensures.value at c.move_to_front.ensures in
    let whole = take_at new (drop (length new) old.items) old.len (front.size ∙ sym old.ok.0) in
    let items = rw whole at c.truncate.ensures.items in
    let count : c.len.result - start ≡ length old.items - start = omega (arith, c.len.ensures, old.ok.0) in
    items ∙ ap (λ n. take n new) count ∙ moved start old.items c.requires new front
