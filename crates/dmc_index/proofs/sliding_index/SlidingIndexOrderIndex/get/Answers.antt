use Rattle.std.proofs.Common.{◌≡◌, ◌==◌, Some, drop, position, sym, ap, ◌∙◌}
use Rattle.std.proofs.lemmas.List.{get_or-drop, take_rest}
use Rattle.dmc_index.proofs.EntryLemmas.{held_found, held_not_found}
use Rattle.dmc_index.proofs.sliding_index.SlidingIndexOrderIndex.get.Given.{Over}
use Rattle.dmc_index.proofs.sliding_index.SlidingIndexOrderIndex.get.Goals.{After-place_of}
use Rattle.dmc_index.proofs.sliding_index.SlidingIndexOrderIndex.get.Goals as goal

place : (g : Over) (c : After-place_of g) → position (λ e. e.key == c.args.key) (drop c.self.inside.start c.self.inside.entries.items) ≡ c.place_of.result
place g c = sym (rw (c.deref.ensures.value, take_rest c.self.inside.entries.items c.self.inside.start) at c.place_of.ensures)

pub returns-in_err-at : goal.returns-in_err-at
returns-in_err-at g c =
    let x = c.self.inside in
    let none = held_not_found g.R.Rank.cmp g.met.R.Rank.total x.room _ (drop x.start x.entries.items) c.self.invariant.0 c.args.key
    (place g (goal.at.returns-in_err-at g c).After-place_of ∙ c.in_err-at.was) in
    c.from_residual.ensures ∙ sym (rw c.self.view_is at none)

pub returns : goal.returns
returns g c =
    let x = c.self.inside in
    let read = c.index.result.now in
    let found = held_found g.R.Rank.cmp g.met.R.Rank.total x.room _ (drop x.start x.entries.items) c.self.invariant.0 c.args.key c.in_ok-at.at read
    (place g (goal.at.returns g c).After-place_of ∙ c.in_ok-at.was) in
    ap (λ e. Some e.rank) (c.index.ensures ∙ sym (get_or-drop x.start x.entries.items c.in_ok-at.at read)) ∙ sym (rw c.self.view_is at found.2)
