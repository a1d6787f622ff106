-- The new entry is between the ranks below it and those above it.
use Rattle.std.proofs.Common.{◌≡◌, ◌-◌, ◌≤◌, ◌<◌, ℕ, List, ◌++◌, ◌∷◌, [], None, Some, drop, length, set, take, refl, sym, ap, subst, ◌∙◌, arith}
use Rattle.std.specs.List.{insert}
use Rattle.std.specs.Prelude.{vec_capacity}
use Rattle.std.proofs.lemmas.List.{length-drop, take_at}
use Rattle.dmc_index.specs.Index.{slot_of_key, IsApart}
use Rattle.dmc_index.specs.Entries.{slots_of, IsSound}
use Rattle.dmc_index.specs.internal.Sliding.{IsPlaced}
use Rattle.dmc_index.specs.declared.list_index.Entry.{Entry}
use Rattle.dmc_index.proofs.EntryLemmas.{length-slots_of, short_of_room, IsSound-insert, slots_of-insert_at}
use Rattle.dmc_index.proofs.SlidingLemmas.{bound, inserted, below, above}
use Rattle.dmc_index.proofs.sliding_index.SlidingIndexOrderIndex.insert.Given.{Over}
use Rattle.dmc_index.proofs.sliding_index.SlidingIndexOrderIndex.insert.Goals.{After-place_last}
use Rattle.dmc_index.proofs.sliding_index.SlidingIndexOrderIndex.insert.Goals as goal

pub make_room-self-inside-requires-clause-few : goal.make_room-self-inside-requires-clause-few
make_room-self-inside-requires-clause-few g c =
    let x = c.self.inside in
    let es = drop x.start x.entries.items in
    let size = rw c.self.view_is at (length-slots_of x.room es) in
    let short = short_of_room g.R.Rank.cmp g.met.R.Rank.total x.room _ es c.self.invariant.0 c.args.key c.args.rank (omega arith) (rw c.self.view_is c.requires.vacant) in
    omega (arith, short, length-drop x.start x.entries.items)

-- ---- what is there once there is room

module _ (g : Over) (c : After-place_last g) where
  abbrev entry : Entry g.row.R.Denot
  entry = record { rank = c.args.rank; key = c.args.key }

  abbrev here : List (Entry g.row.R.Denot)
  here = drop c.make_room-self-inside.result c.make_room-self-inside.new.entries.items

  sound : IsSound g.R.Rank.cmp c.self.inside.room (vec_capacity c.self.inside.entries) here
  sound = subst (IsSound g.R.Rank.cmp c.self.inside.room (vec_capacity c.self.inside.entries)) (sym c.make_room-self-inside.ensures.same) c.self.invariant.0

  slots_are : slots_of c.self.inside.room here ≡ c.args.self.now
  slots_are = ap (slots_of c.self.inside.room) c.make_room-self-inside.ensures.same ∙ c.self.view_is

  vacant : slot_of_key (slots_of c.self.inside.room here) c.args.key ≡ None
  vacant = rw slots_are c.requires.vacant

  apart : IsApart g.R.Rank.cmp (slots_of c.self.inside.room here) c.args.rank
  apart = rw slots_are c.requires.apart

  in_room : c.args.key < c.self.inside.room
  in_room = omega (arith, c.requires.in_room, ap length slots_are, length-slots_of c.self.inside.room here)

-- ---- the entry in its place

module _ (g : Over) (c : After-place_last g) where
  placed : IsPlaced g.R.Rank.cmp c.make_room-self-inside.result (c.make_room-self-inside.new.entries.items ++ record { rank = c.args.rank; key = c.args.key } ∷ []) (record { rank = c.args.rank; key = c.args.key }) c.place_last.result c.place_last.new.entries
  placed = rw (c.deref_mut.ensures.value, c.push_reserved.ensures.items) at c.place_last.ensures

  whole : take c.push_reserved.new.self.len (c.place_last.new.entries ++ drop (length c.place_last.new.entries) c.push_reserved.new.self.items) ≡ c.place_last.new.entries
  whole =
      let new = c.place_last.new.entries in
      take_at new (drop (length new) c.push_reserved.new.self.items) c.push_reserved.new.self.len (omega (arith, placed.size, ap length c.push_reserved.ensures.items, c.push_reserved.new.self.ok.0))

  -- what is there now is what was, with the entry between those below it and those above
  there : drop c.make_room-self-inside.result c.place_last.new.entries ≡ insert (here g c) (c.place_last.result - c.make_room-self-inside.result) (entry g c)
  there = inserted g.met.R.Rank.total c.make_room-self-inside.result c.make_room-self-inside.new.entries.items (entry g c) c.place_last.result c.place_last.new.entries c.make_room-self-inside.ensures.started placed

  module _ (more : ℕ) (enough : vec_capacity c.self.inside.entries ≤ more) where
    still : IsSound g.R.Rank.cmp c.self.inside.room more (drop c.make_room-self-inside.result c.place_last.new.entries)
    still =
        let s = c.make_room-self-inside.result in
        let xs = c.make_room-self-inside.new.entries.items in
        let o = g.met.R.Rank.total in
        let started = c.make_room-self-inside.ensures.started in
        rw there (IsSound-insert g.R.Rank.cmp o c.self.inside.room _ (here g c) (sound g c) c.args.key c.args.rank (c.place_last.result - s)
        (bound o s xs (entry g c) c.place_last.result c.place_last.new.entries started placed)
        (below o s xs (entry g c) c.place_last.result c.place_last.new.entries started placed c.self.inside.room _ (sound g c) (apart g c))
        (above o s xs (entry g c) c.place_last.result c.place_last.new.entries started placed c.self.inside.room _ (sound g c) (apart g c))
        (vacant g c) (apart g c) (entry g c) refl refl (in_room g c) more enough)

  becomes : slots_of c.self.inside.room (drop c.make_room-self-inside.result c.place_last.new.entries) ≡ set c.args.self.now c.args.key (Some c.args.rank)
  becomes =
      let s = c.make_room-self-inside.result in
      let xs = c.make_room-self-inside.new.entries.items in
      let o = g.met.R.Rank.total in
      let started = c.make_room-self-inside.ensures.started in
      ap (slots_of c.self.inside.room) there
      ∙ slots_of-insert_at g.R.Rank.cmp o c.self.inside.room _ (here g c) (sound g c) c.args.key c.args.rank (c.place_last.result - s)
      (bound o s xs (entry g c) c.place_last.result c.place_last.new.entries started placed)
      (below o s xs (entry g c) c.place_last.result c.place_last.new.entries started placed c.self.inside.room _ (sound g c) (apart g c))
      (above o s xs (entry g c) c.place_last.result c.place_last.new.entries started placed c.self.inside.room _ (sound g c) (apart g c))
      (vacant g c) (apart g c) (entry g c) refl refl
      ∙ ap (λ slots. set slots c.args.key (Some c.args.rank)) (slots_are g c)

pub invariant_of-self : goal.invariant_of-self
invariant_of-self g c =
    let p = (goal.at.invariant_of-self g c).After-place_last in
    let from = (placed g p).started in
    rw (whole g p) (still g p _ (omega (arith, c.make_room-self-inside.ensures.capacity, c.push_reserved.ensures.capacity)), omega (arith, (placed g p).started, (placed g p).within, (placed g p).size))

pub returns : goal.returns
returns g c =
    let p = (goal.at.returns g c).After-place_last in
    ap (λ xs. slots_of c.self.inside.room (drop c.make_room-self-inside.result xs)) (whole g p) ∙ becomes g p
