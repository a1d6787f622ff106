-- The events at places, and an event more.
use Rattle.std.proofs.Common.{◌≡◌, ℕ, zero, suc, ◌+◌, ◌-◌, ◌<◌, ◌≤◌, List, [], ◌∷◌, ◌++◌, length, refl, ap, sym, ◌∙◌, arith, subst, Option, Some, None, true, inl, inr, min}
use Rattle.std.specs.Prelude.{is_some, slice_get, option_to_list, option_and_then}
use Rattle.std.specs.List.{AllByRecursion}
use Rattle.std.proofs.lemmas.Grind.{flat_map-append}
use Rattle.std.proofs.lemmas.Bool.{cases_lt}
use Rattle.std.proofs.lemmas.List.{length-append}
use Rattle.dmc_types.specs.Limits.{max_events}
use Rattle.dmc_tag.specs.declared.event.Event.{Event}
use Rattle.dmc_tag.specs.Tag.{Tagging}
use Rattle.dmc_history.specs.Log.{EndSlots, FillBlocks, Log, block_size}
use Rattle.dmc_queue_history.specs.declared.lists.Lists.{Lists}
use Rattle.dmc_queue_history.specs.Kept.{Adds, HaveMost, IsKept, Kept, count, event_at, events_at, kept_of, least_room}

-- each of these places has an event
abbrev pub AreFound : {T : Type 0} → Tagging T → Kept T → List ℕ → Type 0
AreFound ops kept places = AllByRecursion (λ place. is_some (event_at ops kept place) ≡ true) places

-- what was at a place is there still
abbrev pub Stays : {T : Type 0} → Tagging T → Kept T → Kept T → Type 0
Stays ops old new = (place : ℕ) → is_some (event_at ops old place) ≡ true → event_at ops new place ≡ event_at ops old place

one : {X : Type 0} (o : Option X) → is_some o ≡ true → length (option_to_list o) ≡ 1
one (Some x) h = refl
one None h = absurd (grind arith)

first : {X : Type 0} (o : Option X) (xs : List X) → is_some o ≡ true → slice_get (option_to_list o ++ xs) zero ≡ o
first (Some x) xs h = refl
first None xs h = absurd (grind arith)

later : {X : Type 0} (o : Option X) (xs : List X) (i : ℕ) → is_some o ≡ true → slice_get (option_to_list o ++ xs) (suc i) ≡ slice_get xs i
later (Some x) xs i h = refl
later None xs i h = absurd (grind arith)

-- ---- blocks of places

-- the blocks are filled if no place is reserved, and more events may come
pub filled : (count room most : ℕ) → EndSlots (count + room) most → room ≡ 0 → (count ≡ most → ⊥) → FillBlocks count
filled count room most (inl whole) none fewer = omega (arith, whole, none)
filled count room most (inr full) none fewer = absurd (fewer (omega (arith, full, none)))

-- then the slots of the order are one block, or as many as may be
pub one_block : (count most slots : ℕ) → FillBlocks count → EndSlots (count + slots) most → count + slots ≤ most → 0 < slots
    → min slots block_size ≡ min block_size (most - count)
one_block count most slots whole (inl end) within some = omega (arith, whole, end, within, some)
one_block count most slots whole (inr end) within some = omega (arith, end)

pub block_ends : (count most : ℕ) → FillBlocks count → count ≤ most → EndSlots (count + min block_size (most - count)) most
block_ends count most whole within = elim (cases_lt most (count + block_size)) [
  | inl short ↦ inr (omega arith)
  | inr long ↦
      (let end : count + min block_size (most - count) ≡ count + 1024 = omega arith in
      inl (rw end (omega (arith, whole))))
]

module _ {T : Type 0} (ops : Tagging T) where
  pub length-events_at : (kept : Kept T) (places : List ℕ) → AreFound ops kept places → length (events_at ops kept places) ≡ length places
  length-events_at kept [] h = refl
  length-events_at kept (p ∷ ps) h =
      omega (arith, length-append (option_to_list (event_at ops kept p)) (events_at ops kept ps), one (event_at ops kept p) h.0, length-events_at kept ps h.1)

  pub slice_get-events_at : (kept : Kept T) (places : List ℕ) (i : ℕ) → AreFound ops kept places
      → slice_get (events_at ops kept places) i ≡ option_and_then (event_at ops kept) (slice_get places i)
  slice_get-events_at kept [] i h = refl
  slice_get-events_at kept (p ∷ ps) zero h = first (event_at ops kept p) (events_at ops kept ps) h.0
  slice_get-events_at kept (p ∷ ps) (suc i) h =
      later (event_at ops kept p) (events_at ops kept ps) i h.0 ∙ slice_get-events_at kept ps i h.1

  -- ---- an event more

  found-in : (old new : Kept T) (places : List ℕ) → Stays ops old new → AreFound ops old places → AreFound ops new places
  found-in old new [] stays h = h
  found-in old new (p ∷ ps) stays h = (rw (stays p h.0) h.0, found-in old new ps stays h.1)

  found-push : (kept : Kept T) (places : List ℕ) (place : ℕ) (event : Event T) → AreFound ops kept places
      → event_at ops kept place ≡ Some event → AreFound ops kept (places ++ place ∷ [])
  found-push kept [] place event h here = (rw here refl, tt)
  found-push kept (p ∷ ps) place event h here = (h.0, found-push kept ps place event h.1 here)

  events_at-in : (old new : Kept T) (places : List ℕ) → Stays ops old new → AreFound ops old places → events_at ops new places ≡ events_at ops old places
  events_at-in old new [] stays h = refl
  events_at-in old new (p ∷ ps) stays h =
      rw (stays p h.0) (ap (λ es. option_to_list (event_at ops old p) ++ es) (events_at-in old new ps stays h.1))

  pub events_at-push : (old new : Lists T) (before after : List ℕ) (place : ℕ) (event : Event T) → AreFound ops (kept_of old) before
      → Adds ops old new place event → after ≡ before ++ place ∷ []
      → events_at ops (kept_of new) after ≡ events_at ops (kept_of old) before ++ event ∷ []
  events_at-push old new before after place event found adds pushed =
      let last : events_at ops (kept_of new) (place ∷ []) ≡ event ∷ [] = rw adds.here refl in
      rw (pushed, flat_map-append (λ p. option_to_list (event_at ops (kept_of new) p)) before (place ∷ []), last, events_at-in (kept_of old) (kept_of new) before adds.before found) refl

  pub kept-push : (old new : Lists T) (before after : Log ℕ) (room place : ℕ) (event : Event T) → IsKept ops old before room
      → Adds ops old new place event → after.events ≡ before.events ++ place ∷ [] → after.most ≡ before.most
      → after.room + 1 ≡ before.room → 0 < room → IsKept ops new after (room - 1)
  kept-push old new before after room place event kept adds pushed same used some =
      let longer : length after.events ≡ length before.events + 1 = rw pushed (length-append before.events (place ∷ [])) in
      record {
        found = rw pushed (found-push (kept_of new) before.events place event (found-in (kept_of old) (kept_of new) before.events adds.before kept.found) adds.here);
        counted = omega (arith, adds.more, kept.counted, longer);
        most = rw same (adds.most before.most kept.most);
        limit = rw same kept.limit;
        within = omega (arith, kept.within, longer, same, some);
        places_room = omega (arith, kept.places_room, used);
        lists_room = omega (arith, kept.lists_room, adds.room);
        whole =
            let end : length after.events + (room - 1) ≡ length before.events + room = omega (arith, longer, some) in
            rw (end, same) kept.whole;
      }

  -- more places are reserved
  pub kept-reserved : (old new : Lists T) (before after : Log ℕ) (room more : ℕ) → IsKept ops old before room → kept_of new ≡ kept_of old
      → ((most : ℕ) → HaveMost old most → HaveMost new most) → after.events ≡ before.events → after.most ≡ before.most
      → length before.events + more ≤ before.most → more ≤ after.room → more ≤ least_room new
      → EndSlots (length before.events + more) before.most → IsKept ops new after more
  kept-reserved old new before after room more kept same most events same_most within places_room lists_room whole = record {
    found = subst (λ (k : Kept T). AreFound ops k after.events) (sym same) (subst (λ (places : List ℕ). AreFound ops (kept_of old) places) (sym events) kept.found);
    counted = subst (λ (k : Kept T). count k ≡ length after.events) (sym same) (subst (λ (places : List ℕ). count (kept_of old) ≡ length places) (sym events) kept.counted);
    most = rw same_most (most before.most kept.most);
    limit = rw same_most kept.limit;
    within = rw (events, same_most) within;
    places_room = places_room;
    lists_room = lists_room;
    whole = rw (events, same_most) whole;
  }

  -- nothing is kept
  pub kept-empty : (lists : Lists T) (places : Log ℕ) → kept_of lists ≡ record { by_weight = []; queued = []; granted = []; others = [] }
      → HaveMost lists places.most → places.events ≡ [] → places.most ≤ max_events → IsKept ops lists places 0
  kept-empty lists places empty most none limit = record {
    found = rw none tt;
    counted = subst (λ (k : Kept T). count k ≡ length places.events) (sym empty) (rw none refl);
    most = most;
    limit = limit;
    within = rw none (omega arith);
    places_room = omega arith;
    lists_room = omega arith;
    whole = inl (rw none refl);
  }
