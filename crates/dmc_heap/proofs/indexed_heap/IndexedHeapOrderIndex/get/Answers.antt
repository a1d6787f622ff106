use Rattle.std.proofs.Common.{◌∙◌}
use Rattle.dmc_heap.proofs.SlotLemmas.{none_past_room, none_past_heap, rank_of_found}
use Rattle.dmc_heap.proofs.indexed_heap.IndexedHeapOrderIndex.get.Goals as goal

pub returns-in_err-place : goal.returns-in_err-place
returns-in_err-place g c =
    let past = rw c.deref.ensures.value at c.in_err-place.ensures.lookup.3 in
    c.from_residual.ensures ∙ none_past_room c.self.inside.heap.items c.self.inside.places.items _ c.self.view_is c.args.key past

pub returns-in_err-entry : goal.returns-in_err-entry
returns-in_err-entry g c =
    let place = rw c.deref.ensures.value at c.in_ok-place.ensures.lookup in
    let past = rw c.deref-2.ensures.value at c.in_err-entry.ensures.lookup.3 in
    c.from_residual-in_err-entry.ensures ∙ none_past_heap c.self.inside.heap.items c.self.inside.places.items _ c.self.view_is c.args.key c.in_ok-place.field-0.now place.3.0 place.1 past

pub returns : goal.returns
returns g c =
    let place = rw c.deref.ensures.value at c.in_ok-place.ensures.lookup in
    let entry = rw c.deref-2.ensures.value at c.in_ok-entry.ensures.lookup in
    rank_of_found c.self.inside.heap.items c.self.inside.places.items _ c.self.view_is c.args.key c.in_ok-place.field-0.now place.3.0 place.1 c.in_ok-entry.entry.now entry.3.0 entry.1
