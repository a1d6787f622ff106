-- The index is found since the key is held, and the entries without it are the map without the key.
use Rattle.std.proofs.Common.{◌≡◌, ◌==◌, ◌+◌, ◌<◌, ◌++◌, Some, None, drop, length, position, set, take, sym, ap, ◌∙◌, arith}
use Rattle.std.proofs.lemmas.List.{get_or-drop, length-drop, take_at, take_rest}
use Rattle.dmc_index.specs.Entries.{slots_of}
use Rattle.dmc_index.specs.internal.Sliding.{IsTakenOut}
use Rattle.dmc_index.proofs.EntryLemmas.{found_if_held, held_found, IsSound-remove, slots_of-remove}
use Rattle.dmc_index.proofs.SlidingLemmas.{removed}
use Rattle.dmc_index.proofs.sliding_index.SlidingIndexOrderIndex.remove.Given.{Over}
use Rattle.dmc_index.proofs.sliding_index.SlidingIndexOrderIndex.remove.Goals.{After-place_of, After-unwrap-at, After-take_out-taken}
use Rattle.dmc_index.proofs.sliding_index.SlidingIndexOrderIndex.remove.Goals as goal

place : (g : Over) (c : After-place_of g) → c.place_of.result ≡ position (λ e. e.key == c.args.key) (drop c.self.inside.start c.self.inside.entries.items)
place g c = rw (c.deref.ensures.value, take_rest c.self.inside.entries.items c.self.inside.start) at c.place_of.ensures

pub unwrap-at-requires : goal.unwrap-at-requires
unwrap-at-requires g c =
    let x = c.self.inside in
    found_if_held g.R.Rank.cmp g.met.R.Rank.total x.room _ (drop x.start x.entries.items) c.self.invariant.0 c.args.key c.place_of.result
    (place g (goal.at.unwrap-at-requires g c).After-place_of) (rw c.self.view_is c.requires)

taken : (g : Over) (c : After-take_out-taken g) → IsTakenOut c.self.inside.start c.self.inside.entries.items (c.self.inside.start + c.unwrap-at.result) c.take_out-taken.result c.take_out-taken.new.entries
taken g c = rw c.deref_mut.ensures.value at c.take_out-taken.ensures

whole : (g : Over) (c : After-take_out-taken g) → take c.self.inside.entries.len (c.take_out-taken.new.entries ++ drop (length c.take_out-taken.new.entries) c.self.inside.entries.items) ≡ c.take_out-taken.new.entries
whole g c =
    let x = c.self.inside in
    let new = c.take_out-taken.new.entries in
    take_at new (drop (length new) x.entries.items) x.entries.len ((taken g c).size ∙ sym x.entries.ok.0)

-- ---- what was found, and the entries without it

pub invariant_of-self : goal.invariant_of-self
invariant_of-self g c =
    let x = c.self.inside in
    let es = drop x.start x.entries.items in
    let a = goal.at.invariant_of-self g c in
    let found = held_found g.R.Rank.cmp g.met.R.Rank.total x.room _ es c.self.invariant.0 c.args.key c.unwrap-at.result c.take_out-taken.result (sym (place g a.After-place_of) ∙ c.unwrap-at.ensures) in
    let within : x.start + c.unwrap-at.result < length x.entries.items = omega (arith, found.0, length-drop x.start x.entries.items) in
    let out = taken g a.After-take_out-taken in
    rw (whole g a.After-take_out-taken, removed x.start x.entries.items c.self.invariant.1 c.unwrap-at.result c.take_out-taken.result c.take_out-taken.new.entries within out)
    (IsSound-remove g.R.Rank.cmp g.met.R.Rank.total x.room _ es c.self.invariant.0 c.unwrap-at.result found.0 _ (omega arith), omega (arith, out.size, within))

pub returns-clause-value : goal.returns-clause-value
returns-clause-value g c =
    let x = c.self.inside in
    let es = drop x.start x.entries.items in
    let a = goal.at.returns-clause-value g c in
    let read = c.take_out-taken.result in
    let found = held_found g.R.Rank.cmp g.met.R.Rank.total x.room _ es c.self.invariant.0 c.args.key c.unwrap-at.result read (sym (place g a.After-place_of) ∙ c.unwrap-at.ensures) in
    (rw c.self.view_is at found.2) ∙ ap (λ e. Some e.rank) (get_or-drop x.start x.entries.items c.unwrap-at.result read ∙ sym ((taken g a.After-take_out-taken).taken read))

pub returns-clause-rest : goal.returns-clause-rest
returns-clause-rest g c =
    let x = c.self.inside in
    let es = drop x.start x.entries.items in
    let a = goal.at.returns-clause-rest g c in
    let read = c.take_out-taken.result in
    let found = held_found g.R.Rank.cmp g.met.R.Rank.total x.room _ es c.self.invariant.0 c.args.key c.unwrap-at.result read (sym (place g a.After-place_of) ∙ c.unwrap-at.ensures) in
    let within : x.start + c.unwrap-at.result < length x.entries.items = omega (arith, found.0, length-drop x.start x.entries.items) in
    let rest = removed x.start x.entries.items c.self.invariant.1 c.unwrap-at.result read c.take_out-taken.new.entries within (taken g a.After-take_out-taken) in
    ap (λ xs. slots_of x.room (drop (x.start + 1) xs)) (whole g a.After-take_out-taken) ∙ ap (slots_of x.room) rest
    ∙ slots_of-remove g.R.Rank.cmp g.met.R.Rank.total x.room _ es c.self.invariant.0 c.unwrap-at.result read found.0 ∙ ap (λ k. set (slots_of x.room es) k None) found.1 ∙ ap (λ s. set s c.args.key None) c.self.view_is
