-- What holds of an index, after each call: it stays sound, and its map is what the call says.
use Rattle.std.proofs.Common.{◌≡◌, ◌≢◌, ℕ, zero, suc, ◌+◌, ◌<◌, ◌≤◌, List, [], ◌∷◌, ◌++◌, Option, Some, None, IsSome, length, get_or, set, map, replicate, slice_get, option_and_then, count_by, is_some, cond, refl, sym, ap, ◌∙◌, subst, inl, inr, false, arith}
use Rattle.std.specs.Option.{option_map}
use Rattle.std.specs.declared.cmp.Ordering.{Ordering}
use Rattle.std.specs.declared.cmp.Ordering.TheVariants.{Less, Equal, Greater}
use Rattle.std.specs.Ordering.{is_gt, ordering_reverse}
use Rattle.std.specs.Cmp.{IsTotalOrder}
use Rattle.std.proofs.lemmas.Bool.{cases_eq}
use Rattle.std.proofs.lemmas.List.{length-set, length-map, length-append, length-replicate, map-append}
use Rattle.std.proofs.lemmas.List.Sums.{sum_by-append, sum_by-cons, count_by-le-length}
use Rattle.std.proofs.lemmas.List.Folds.{sum_by-replicate}
use Rattle.std.proofs.lemmas.Option.{slice_get_within, slice_get_past, slice_get-get_or, get_or_from_slice_get, same_Some}
use Rattle.dmc_index.specs.Index.{slot_of_key, IsApart, IsApartFromOthers, AreApart, IsEmpty, IsLeast, KeepsOrder, IsMapped}
use Rattle.dmc_heap.specs.Heap.{rank_at, slots_of, parent_of, IsLinked, IsUpto, IsHeap, IsSound}
use Rattle.dmc_heap.specs.internal.Heap.{rank_of, IsHole, IsSettled, MapsEntries}
use Rattle.dmc_heap.specs.declared.indexed_heap.Entry.{Entry}
use Rattle.dmc_heap.specs.declared.indexed_heap.TheConstants.{VACANT}
use Rattle.dmc_heap.proofs.LinkLemmas.{option_cases, rank_of_some, rank_of_none}
use Rattle.dmc_heap.proofs.OrderLemmas.{upto_trans, upto_itself}
use Rattle.dmc_lemmas.proofs.Lists.{slice_get-append}
use Rattle.dmc_index.proofs.Slots.{slot_of_key-more, count-set_some, count_below}
use Rattle.dmc_heap.proofs.SlotLemmas.{push_cases, replicate_cases, slot_of_key-slots_of, slots_of-set, AreApart-set, count_changed, count_removed, place_of_held, IsHole-change, rank_of_changed, rank_of_others, IsHole-push, rank_of_pushed, rank_of_others_pushed, IsLinked-pop, rank_of_popped, rank_of_others_popped, IsHeap-pop, IsHole-remove, rank_of_removed, rank_of_others_left}

-- ---- the type's invariant after an edit

module _ {R : Type 0} (compare : R → R → Ordering) (o : IsTotalOrder compare) (capacity : ℕ) (heap : List (Entry R)) (places : List ℕ) (sound : IsSound compare capacity heap places) where
  pub length-slots : length (slots_of heap places) ≡ length places
  length-slots = length-map places (rank_at heap)

  pub heap_in_room : length heap ≤ length places
  heap_in_room = omega (arith, sound.counted, count_by-le-length is_some (slots_of heap places), length-slots)

  pub heap_short : (key : ℕ) (rank : R) → key < length places → slot_of_key (slots_of heap places) key ≡ None → length heap < length places
  heap_short key rank l h =
      omega (arith, sound.counted, count_below (slots_of heap places) key rank (omega (arith, length-slots)) h, length-slots)

  -- the entry of a key that is held
  pub found : (key place : ℕ) → slice_get places key ≡ Some place → IsSome (slot_of_key (slots_of heap places) key) → (old : Entry R) × (slice_get heap place ≡ Some old) × (old.key ≡ key) × (slot_of_key (slots_of heap places) key ≡ Some old.rank)
  found key place at h =
      option_cases (slice_get heap place) (λ none. cc (subst IsSome (slot_of_key-slots_of heap places key ∙ ap (option_and_then (rank_at heap)) at ∙ ap (option_map (λ (e : Entry R). e.rank)) none) h)) (λ old there. (old, there, sound.linked.keyed key place old at there, slot_of_key-slots_of heap places key ∙ rank_of_some heap places key place old at there))

  pub key_in_room_if_held : (key : ℕ) → IsSome (slot_of_key (slots_of heap places) key) → key < length places
  key_in_room_if_held key h =
      option_cases (slice_get places key) (λ none. cc (subst IsSome (slot_of_key-slots_of heap places key ∙ rank_of_none heap places key none) h)) (λ place some. slice_get_within places key place some)

  pub some_entry_if_held : (key : ℕ) → IsSome (slot_of_key (slots_of heap places) key) → 0 < length heap
  some_entry_if_held key h =
      option_cases (slice_get places key) (λ none. cc (subst IsSome (slot_of_key-slots_of heap places key ∙ rank_of_none heap places key none) h)) (λ place at. let old = found key place at h in omega (arith, slice_get_within heap place old.0 old.1))

  pub none_held : length heap ≤ 0 → IsEmpty (slots_of heap places)
  none_held empty key =
      option_cases (slot_of_key (slots_of heap places) key) (λ none. none) (λ rank some. absurd (omega (arith, some_entry_if_held key (ap is_some some))))

  module _ (key : ℕ) (v : Option R) (in' : key < length places) (new_heap : List (Entry R)) (new_places : List ℕ) (room : length new_places ≡ length places) (at : rank_of new_heap new_places key ≡ v) (others : (k : ℕ) → k ≢ key → rank_of new_heap new_places k ≡ rank_of heap places k) where
    pub slots_of-edit : slots_of new_heap new_places ≡ set (slots_of heap places) key v
    slots_of-edit = slots_of-set heap new_heap places new_places key v room in' at others

    pub IsSound-edit : IsLinked new_heap new_places → IsHeap compare new_heap → ((rank : R) → v ≡ Some rank → IsApartFromOthers compare (slots_of heap places) key rank) → count_by is_some (set (slots_of heap places) key v) ≡ length new_heap → (more : ℕ) → capacity ≤ more → IsSound compare more new_heap new_places
    IsSound-edit linked ordered apart count more m = record {
      linked = linked;
      ordered = ordered;
      apart = subst (AreApart compare) (sym slots_of-edit) (AreApart-set compare o (slots_of heap places) key v (omega (arith, length-slots)) sound.apart apart);
      counted = ap (count_by is_some) slots_of-edit ∙ count;
      memory = omega (arith, sound.memory);
    }

  -- ---- change

  module _ (key : ℕ) (rank : R) (place : ℕ) (at : slice_get places key ≡ Some place) (here : IsSome (slot_of_key (slots_of heap places) key)) where
    pub hole_to_change : IsHole compare heap places place (record { rank = rank; key = key })
    hole_to_change =
        let old = found key place at here in
        IsHole-change compare o heap places sound.linked sound.ordered (record { rank = rank; key = key }) place old.0 at old.1

    pub changed : IsApartFromOthers compare (slots_of heap places) key rank → (new_heap : List (Entry R)) (new_places : List ℕ) → IsSettled compare heap places place (record { rank = rank; key = key }) new_heap new_places → IsSound compare capacity new_heap new_places × (slots_of new_heap new_places ≡ set (slots_of heap places) key (Some rank))
    changed apart new_heap new_places s =
        let e : Entry R = record { rank = rank; key = key } in
        let old = found key place at here in
        let in' = slice_get_within places key place at in
        let has = s.ranks key ∙ rank_of_changed compare o heap places sound.linked sound.ordered e place old.0 at old.1 in
        let others = λ (k : ℕ) (p : k ≢ key). s.ranks k ∙ rank_of_others compare o heap places sound.linked sound.ordered e place old.0 at old.1 k p in
        let count = count_changed (slots_of heap places) key old.0.rank rank (omega (arith, length-slots)) old.3 ∙ sound.counted ∙ sym s.size in
        (IsSound-edit key (Some rank) in' new_heap new_places s.room has others s.linked s.ordered (λ r e. subst (IsApartFromOthers compare (slots_of heap places) key) (same_Some rank r e) apart) count capacity (omega arith), slots_of-edit key (Some rank) in' new_heap new_places s.room has others)

  -- ---- insert

  module _ (key : ℕ) (rank : R) (in' : key < length places) (none : slot_of_key (slots_of heap places) key ≡ None) (fits : length places ≤ VACANT) where
    small_heap : length heap < VACANT
    small_heap = omega (arith, heap_short key rank in' none)

    vacant_key : rank_of heap places key ≡ None
    vacant_key = sym (slot_of_key-slots_of heap places key) ∙ none

    pub hole_to_insert : IsHole compare (heap ++ (record { rank = rank; key = key }) ∷ []) places (length heap) (record { rank = rank; key = key })
    hole_to_insert =
        IsHole-push compare heap places sound.linked sound.ordered (record { rank = rank; key = key }) in' vacant_key small_heap

    pub inserted : IsApart compare (slots_of heap places) rank → (new_heap : List (Entry R)) (new_places : List ℕ) → IsSettled compare (heap ++ (record { rank = rank; key = key }) ∷ []) places (length heap) (record { rank = rank; key = key }) new_heap new_places → (more : ℕ) → capacity ≤ more → IsSound compare more new_heap new_places × (slots_of new_heap new_places ≡ set (slots_of heap places) key (Some rank))
    inserted apart new_heap new_places s more m =
        let e : Entry R = record { rank = rank; key = key } in
        let has = s.ranks key ∙ rank_of_pushed compare heap places sound.linked sound.ordered e in' vacant_key small_heap in
        let others = λ (k : ℕ) (p : k ≢ key). s.ranks k ∙ rank_of_others_pushed compare heap places sound.linked sound.ordered e in' vacant_key small_heap k p in
        let count : count_by is_some (set (slots_of heap places) key (Some rank)) ≡ length new_heap = omega (arith, count-set_some (slots_of heap places) key rank (omega (arith, length-slots)) none, sound.counted, s.size, length-append heap (e ∷ [])) in
        (IsSound-edit key (Some rank) in' new_heap new_places s.room has others s.linked s.ordered (λ r e k other ne q. subst (λ r. compare r other ≢ Equal) (same_Some rank r e) (apart k other q)) count more m, slots_of-edit key (Some rank) in' new_heap new_places s.room has others)

-- ---- remove

module _ {R : Type 0} (compare : R → R → Ordering) (o : IsTotalOrder compare) (capacity : ℕ) (heap : List (Entry R)) (last : Entry R) (places : List ℕ) (sound : IsSound compare capacity (heap ++ last ∷ []) places) (fits : length places ≤ VACANT) (key place : ℕ) (at : slice_get places key ≡ Some place) (here : IsSome (slot_of_key (slots_of (heap ++ last ∷ []) places) key)) where
  small_rest : length heap < VACANT
  small_rest =
      omega (arith, heap_in_room compare o capacity (heap ++ last ∷ []) places sound, length-append heap (last ∷ []))

  old_of : (old : Entry R) × (slice_get (heap ++ last ∷ []) place ≡ Some old) × (old.key ≡ key) × (slot_of_key (slots_of (heap ++ last ∷ []) places) key ≡ Some old.rank)
  old_of = found compare o capacity (heap ++ last ∷ []) places sound key place at here

  key_within : key < length places
  key_within = slice_get_within places key place at

  fewer : (new_heap : List (Entry R)) → length new_heap ≡ length heap → count_by is_some (set (slots_of (heap ++ last ∷ []) places) key None) ≡ length new_heap
  fewer new_heap size =
      omega (arith, count_removed (slots_of (heap ++ last ∷ []) places) key old_of.0.rank (omega (arith, key_within, length-slots compare o capacity (heap ++ last ∷ []) places sound)) old_of.3, sound.counted, length-append heap (last ∷ []))

  module _ (inner : place < length heap) where
    there_before : slice_get heap place ≡ Some old_of.0
    there_before =
        elim (push_cases heap last place old_of.0 old_of.1) [ inl w ↦ w | inr w ↦ absurd (omega arith) ]

    pub hole_to_remove : IsHole compare heap (set places key VACANT) place last
    hole_to_remove =
        subst (λ k. IsHole compare heap (set places k VACANT) place last) old_of.2 (IsHole-remove compare o heap last places sound.linked sound.ordered small_rest place old_of.0 there_before)

    pub removed_inner : (new_heap : List (Entry R)) (new_places : List ℕ) → IsSettled compare heap (set places key VACANT) place last new_heap new_places → IsSound compare capacity new_heap new_places × (slots_of new_heap new_places ≡ set (slots_of (heap ++ last ∷ []) places) key None)
    removed_inner new_heap new_places s =
        let gone = subst (λ k. rank_of (set heap place last) (set (set places k VACANT) last.key place) k ≡ None) old_of.2 (rank_of_removed compare o heap last places sound.linked sound.ordered small_rest place old_of.0 there_before) in
        let left = subst (λ q. (k : ℕ) → k ≢ q → rank_of (set heap place last) (set (set places q VACANT) last.key place) k ≡ rank_of (heap ++ last ∷ []) places k) old_of.2 (rank_of_others_left compare o heap last places sound.linked sound.ordered small_rest place old_of.0 there_before) in
        let room = s.room ∙ length-set places key VACANT in
        let has = s.ranks key ∙ gone in
        let others = λ (k : ℕ) (p : k ≢ key). s.ranks k ∙ left k p in
        (IsSound-edit compare o capacity (heap ++ last ∷ []) places sound key None key_within new_heap new_places room has others s.linked s.ordered (λ r e. cc) (fewer new_heap s.size) capacity (omega arith), slots_of-edit compare o capacity (heap ++ last ∷ []) places sound key None key_within new_heap new_places room has others)

  module _ (end : length heap ≤ place) where
    is_last : last.key ≡ key
    is_last =
        elim (push_cases heap last place old_of.0 old_of.1) [
          | inl w ↦ absurd (omega (arith, slice_get_within heap place old_of.0 w))
          | inr w ↦ ap (λ (e : Entry R). e.key) (sym w.1) ∙ old_of.2
        ]

    pub removed_last : IsSound compare capacity heap (set places key VACANT) × (slots_of heap (set places key VACANT) ≡ set (slots_of (heap ++ last ∷ []) places) key None)
    removed_last =
        let linked = subst (λ k. IsLinked heap (set places k VACANT)) is_last (IsLinked-pop heap last places sound.linked small_rest) in
        let has = subst (λ k. rank_of heap (set places k VACANT) k ≡ None) is_last (rank_of_popped heap last places sound.linked small_rest) in
        let others = subst (λ q. (k : ℕ) → k ≢ q → rank_of heap (set places q VACANT) k ≡ rank_of (heap ++ last ∷ []) places k) is_last (rank_of_others_popped heap last places sound.linked small_rest) in
        let room = length-set places key VACANT in
        (IsSound-edit compare o capacity (heap ++ last ∷ []) places sound key None key_within heap (set places key VACANT) room has others linked (IsHeap-pop compare heap last sound.ordered) (λ r e. cc) (fewer heap refl) capacity (omega arith), slots_of-edit compare o capacity (heap ++ last ∷ []) places sound key None key_within heap (set places key VACANT) room has others)

-- ---- least

less_from : (r : Ordering) → is_gt r ≡ false → r ≢ Equal → r ≡ Less
less_from Less e p = refl
less_from Equal e p = absurd (p refl)
less_from Greater e p = cc

order_cases : {G : Type 0} (r : Ordering) → (r ≡ Less → G) → (r ≡ Equal → G) → (r ≡ Greater → G) → G
order_cases Less less equal greater = less refl
order_cases Equal less equal greater = equal refl
order_cases Greater less equal greater = greater refl

module _ {R : Type 0} (compare : R → R → Ordering) (o : IsTotalOrder compare) (heap : List (Entry R)) (ordered : IsHeap compare heap) where
  -- the first rank is not above any other
  root_upto : (n i : ℕ) → i ≤ n → (first e : Entry R) → slice_get heap 0 ≡ Some first → slice_get heap i ≡ Some e → IsUpto compare first e
  root_upto zero i l first e h q =
      let none : i ≡ 0 = omega arith in
      upto_itself compare o first e (same_Some first e (sym h ∙ ap (slice_get heap) (sym none) ∙ q))
  root_upto (suc n) i l first e h q =
      elim (cases_eq i 0) [
        | inl s ↦ upto_itself compare o first e (same_Some first e (sym h ∙ ap (slice_get heap) (sym s) ∙ q))
        | inr p ↦
            let in' : i < length heap = slice_get_within heap i e q in
            let above = slice_get-get_or heap (parent_of i) e (omega arith) in
            upto_trans compare o first (get_or heap (parent_of i) e) e (root_upto n (parent_of i) (omega arith) first (get_or heap (parent_of i) e) h above) (ordered i (get_or heap (parent_of i) e) e (omega arith) above q)
      ]

module _ {R : Type 0} (compare : R → R → Ordering) (o : IsTotalOrder compare) (capacity : ℕ) (heap : List (Entry R)) (places : List ℕ) (sound : IsSound compare capacity heap places) where
  pub held_entry : (key place : ℕ) (e : Entry R) → slice_get places key ≡ Some place → slice_get heap place ≡ Some e → slot_of_key (slots_of heap places) key ≡ Some e.rank
  held_entry key place e at there = slot_of_key-slots_of heap places key ∙ rank_of_some heap places key place e at there

  pub IsLeast-first : (first : Entry R) → Some first ≡ slice_get heap 0 → IsLeast compare (slots_of heap places) first.key first.rank
  IsLeast-first first is =
      let h = sym is in
      let here = held_entry first.key 0 first (sound.linked.placed 0 first h) h in
      record {
        here = here;
        below = λ k other ne q.
            let at = place_of_held heap places sound.linked k other (sym (slot_of_key-slots_of heap places k) ∙ q) in
            let u = root_upto compare o heap sound.ordered at.0 at.0 (omega arith) first at.1.0 h at.1.2 in
            less_from (compare first.rank other) (subst (λ r. is_gt (compare first.rank r) ≡ false) at.1.4 u) (sound.apart first.key first.rank here k other ne q);
      }

  -- ---- reserve_keys

  module _ (n : ℕ) (fits : length heap ≤ VACANT) where
    past_heap : slice_get heap VACANT ≡ None
    past_heap = slice_get_past heap VACANT (omega arith)

    vacant_slots : (m : ℕ) → map (rank_at heap) (replicate m VACANT) ≡ replicate m None
    vacant_slots zero = refl
    vacant_slots (suc m) = cc (ap (option_map (λ (e : Entry R). e.rank)) past_heap, vacant_slots m)

    pub slots_of-more : slots_of heap (places ++ replicate n VACANT) ≡ slots_of heap places ++ replicate n None
    slots_of-more = map-append (rank_at heap) places (replicate n VACANT) ∙ ap (λ s. slots_of heap places ++ s) (vacant_slots n)

    IsLinked-more : IsLinked heap (places ++ replicate n VACANT)
    IsLinked-more = record {
      placed = λ i x h. slice_get-append places (replicate n VACANT) x.key i (sound.linked.placed i x h);
      keyed = λ k i x h m. elim (replicate_cases places n VACANT k i h) [
        | inl w ↦ sound.linked.keyed k i x w m
        | inr w ↦ cc (sym m ∙ ap (slice_get heap) w ∙ past_heap)
      ];
      vacant = λ k i h m. elim (replicate_cases places n VACANT k i h) [
        | inl w ↦ sound.linked.vacant k i w m
        | inr w ↦ w
      ];
    }

    pub IsSound-more : (more : ℕ) → length places + n ≤ more → IsSound compare more heap (places ++ replicate n VACANT)
    IsSound-more more m = record {
      linked = IsLinked-more;
      ordered = sound.ordered;
      apart = subst (AreApart compare) (sym slots_of-more) (λ key r h k s ne q. sound.apart key r (sym (slot_of_key-more (slots_of heap places) n key) ∙ h) k s ne (sym (slot_of_key-more (slots_of heap places) n k) ∙ q));
      counted = ap (count_by is_some) slots_of-more ∙ (omega (arith, sum_by-append (λ (v : Option R). cond (is_some v) 1 0) (slots_of heap places) (replicate n None), sum_by-replicate (λ (v : Option R). cond (is_some v) 1 0) n None, sound.counted));
      memory = omega (arith, length-append places (replicate n VACANT), length-replicate n VACANT);
    }

  -- ---- map_ranks

  module _ (gives : R → R → Type 0) (new : List (Entry R)) (maps : MapsEntries gives heap new) where
    mapped_entry : (i : ℕ) (x : Entry R) → slice_get heap i ≡ Some x → (slice_get new i ≡ Some (get_or new i x)) × ((get_or new i x).key ≡ x.key) × gives x.rank (get_or new i x).rank
    mapped_entry i x h =
        let size = maps.size in
        let in' : i < length heap = slice_get_within heap i x h in
        let same : get_or heap i x ≡ x = get_or_from_slice_get heap i x x h in
        (slice_get-get_or new i x (omega arith), maps.keys i x in' ∙ ap (λ (e : Entry R). e.key) same, subst (λ (e : Entry R). gives e.rank (get_or new i x).rank) same (maps.ranks i x in'))

    -- the entry that a mapped one is the image of
    old_entry : (i : ℕ) (y : Entry R) → slice_get new i ≡ Some y → (slice_get heap i ≡ Some (get_or heap i y)) × (y.key ≡ (get_or heap i y).key) × gives (get_or heap i y).rank y.rank
    old_entry i y h =
        let size = maps.size in
        let in' : i < length new = slice_get_within new i y h in
        let there = slice_get-get_or heap i y (omega arith) in
        let same : get_or new i y ≡ y = get_or_from_slice_get new i y y h in
        (there, ap (λ (e : Entry R). e.key) (sym same) ∙ maps.keys i y (omega arith), subst (λ (e : Entry R). gives (get_or heap i y).rank e.rank) same (maps.ranks i y (omega arith)))

    IsLinked-mapped : IsLinked new places
    IsLinked-mapped = record {
      placed = λ i y h. let old = old_entry i y h in ap (slice_get places) old.1 ∙ sound.linked.placed i (get_or heap i y) old.0;
      keyed = λ k i y h m. let old = old_entry i y m in old.1 ∙ sound.linked.keyed k i (get_or heap i y) h old.0;
      vacant = λ k i h m. option_cases (slice_get heap i) (λ none. sound.linked.vacant k i h none) (λ x some. cc (sym m ∙ (mapped_entry i x some).0));
    }

    same_kind : (place : ℕ) → is_some (rank_at new place) ≡ is_some (rank_at heap place)
    same_kind place =
        option_cases (slice_get heap place) (λ none. option_cases (slice_get new place) (λ none'. ap is_some (ap (option_map (λ (e : Entry R). e.rank)) none' ∙ sym (ap (option_map (λ (e : Entry R). e.rank)) none))) (λ y some. cc (sym none ∙ (old_entry place y some).0))) (λ x some. ap is_some (ap (option_map (λ (e : Entry R). e.rank)) (mapped_entry place x some).0) ∙ sym (ap is_some (ap (option_map (λ (e : Entry R). e.rank)) some)))

    same_count : (ps : List ℕ) → count_by is_some (map (rank_at new) ps) ≡ count_by is_some (map (rank_at heap) ps)
    same_count [] = refl
    same_count (p ∷ ps) =
        let bit : ◌≡◌ {A = ℕ} (cond (is_some (rank_at new p)) 1 0) (cond (is_some (rank_at heap p)) 1 0) = ap (λ b. cond b 1 0) (same_kind p) in
        omega (arith, bit, same_count ps, sum_by-cons (λ (v : Option R). cond (is_some v) 1 0) (rank_at new p) (map (rank_at new) ps), sum_by-cons (λ (v : Option R). cond (is_some v) 1 0) (rank_at heap p) (map (rank_at heap) ps))

    -- the rank of a key, before and after
    rank_before : (key : ℕ) (y : R) → slot_of_key (slots_of new places) key ≡ Some y → (x : R) × (slot_of_key (slots_of heap places) key ≡ Some x) × gives x y
    rank_before key y h =
        let at = place_of_held new places IsLinked-mapped key y (sym (slot_of_key-slots_of new places key) ∙ h) in
        let old = old_entry at.0 at.1.0 at.1.2 in
        ((get_or heap at.0 at.1.0).rank, held_entry key at.0 (get_or heap at.0 at.1.0) at.1.1 old.0, subst (gives (get_or heap at.0 at.1.0).rank) at.1.4 old.2)

    rank_after : (key : ℕ) (x : R) → slot_of_key (slots_of heap places) key ≡ Some x → (y : R) × (slot_of_key (slots_of new places) key ≡ Some y) × gives x y
    rank_after key x h =
        let at = place_of_held heap places sound.linked key x (sym (slot_of_key-slots_of heap places key) ∙ h) in
        let next = mapped_entry at.0 at.1.0 at.1.2 in
        ((get_or new at.0 at.1.0).rank, slot_of_key-slots_of new places key ∙ rank_of_some new places key at.0 (get_or new at.0 at.1.0) at.1.1 next.0, subst (λ r. gives r (get_or new at.0 at.1.0).rank) at.1.4 next.2)

    pub IsMapped-slots_of : IsMapped gives (slots_of heap places) (slots_of new places)
    IsMapped-slots_of = record {
      room = length-map places (rank_at new) ∙ sym (length-map places (rank_at heap));
      ranks = λ key. option_cases (slot_of_key (slots_of heap places) key) (λ none. rw none (option_cases (slot_of_key (slots_of new places) key) (λ none'. none') (λ y some. cc (sym none ∙ (rank_before key y some).1)))) (λ x some. let next = rank_after key x some in rw (some, next.1) next.2);
    }

    module _ (keeps : KeepsOrder compare (slots_of heap places) gives) where
      apart_after : AreApart compare (slots_of new places)
      apart_after key y h k z ne q e =
          let a = rank_before key y h in
          let b = rank_before k z q in
          order_cases (compare a.0 b.0) (λ less. cc (e, keeps key k a.0 b.0 y z a.1 b.1 less a.2 b.2)) (λ equal. sound.apart key a.0 a.1 k b.0 ne b.1 equal) (λ greater. let back : compare b.0 a.0 ≡ Less = o.antisymm b.0 a.0 ∙ ap ordering_reverse greater in cc (e, o.antisymm y z ∙ ap ordering_reverse (keeps k key b.0 a.0 z y b.1 a.1 back b.2 a.2)))

      IsHeap-mapped : IsHeap compare new
      IsHeap-mapped i above below pos qa qb =
          let a = old_entry (parent_of i) above qa in
          let b = old_entry i below qb in
          let x = get_or heap (parent_of i) above in
          let z = get_or heap i below in
          let in_a = sound.linked.placed (parent_of i) x a.0 in
          let in_b = sound.linked.placed i z b.0 in
          let has_a = held_entry x.key (parent_of i) x in_a a.0 in
          let has_b = held_entry z.key i z in_b b.0 in
          let ne : z.key ≢ x.key = λ s. let same : i ≡ parent_of i = same_Some i (parent_of i) (sym in_b ∙ ap (slice_get places) s ∙ in_a) in omega arith in
          let less = less_from (compare x.rank z.rank) (sound.ordered i x z pos a.0 b.0) (sound.apart x.key x.rank has_a z.key z.rank ne has_b) in
          ap is_gt (keeps x.key z.key x.rank z.rank above.rank below.rank has_a has_b less a.2 b.2)

      pub IsSound-mapped : IsSound compare capacity new places
      IsSound-mapped = record {
        linked = IsLinked-mapped;
        ordered = IsHeap-mapped;
        apart = apart_after;
        counted = same_count places ∙ sound.counted ∙ sym maps.size;
        memory = sound.memory;
      }
