-- The ready marks, set if L is at most t and reset if it is above t.
use Rattle.std.proofs.Common.{◌≡◌, ℕ, zero, suc, ◌<◌, List, [], ◌∷◌, map, Option, Some, None, set, count_by, cond, refl, sym, ap, ◌∙◌, subst, inl, inr, Bool, true, false, not, ◌&&◌, ◌||◌, IsSome, IsSomeAnd, arith}
use Rattle.std.specs.Option.{option_map, option_map_or}
use Rattle.std.specs.declared.cmp.Ordering.{Ordering}
use Rattle.std.specs.declared.cmp.Ordering.TheVariants.{Less}
use Rattle.std.specs.Ordering.{is_gt, ordering_then, bool_cmp}
use Rattle.std.specs.Cmp.{IsTotalOrder}
use Rattle.std.proofs.lemmas.Cmp.{upto, tied_itself}
use Rattle.std.proofs.lemmas.Bool.{cases_eq}
use Rattle.std.proofs.lemmas.List.Sums.{sum_by-cons}
use Rattle.dmc_tag.specs.Tag.{Tagging}
use Rattle.dmc_tag.specs.Order.{AtMost}
use Rattle.dmc_tag.specs.Best.{is_due}
use Rattle.dmc_tag.specs.Rank.{limit_rank_cmp}
use Rattle.dmc_tag.specs.declared.rank.LimitRank.{LimitRank}
use Rattle.dmc_index.specs.Index.{slot_of_key, IsEmpty}
use Rattle.dmc_head_index.specs.declared.head.Head.{Head}
use Rattle.dmc_head_index.specs.Heads.{limit_rank, IsFirst, with_ready_mark, set_back}
use Rattle.dmc_head_index.specs.internal.Marks.{with_ready, is_past, CanMark}
use Rattle.dmc_head_index.proofs.Slots.{map_set, set-slot_of_key, slot_of_key-map}
use Rattle.dmc_lemmas.proofs.Orderings.{then_less}

or_true : (a d : Bool) → a ≡ true → (a || d) ≡ a
or_true true d e = refl
or_true false d e = cc

or_false : (a d : Bool) → d ≡ false → (a || d) ≡ a
or_false true d e = refl
or_false false d e = e

and_stays : (a d : Bool) → (a && not d) ≡ false → (a && d) ≡ a
and_stays true true e = refl
and_stays true false e = cc
and_stays false d e = refl

-- ---- what an order of L, unready first, says of the heads behind the first

ready_behind : (a b : Bool) (s : Ordering) → ordering_then (bool_cmp a b) s ≡ Less → a ≡ true → b ≡ true
ready_behind false b s h e = cc
ready_behind true false s h e = cc
ready_behind true true s h e = refl

unready_behind : (a b : Bool) (s : Ordering) → ordering_then (bool_cmp a b) s ≡ Less → a ≡ false → b ≡ false → s ≡ Less
unready_behind false false s h e f = h
unready_behind false true s h e f = cc
unready_behind true b s h e f = cc

module _ {T : Type 0} where
  abbrev pub is_unready : Option (Head T) → Bool
  is_unready o = option_map_or (λ h. not h.ready) o false

  same_heads : (f : Head T → Head T) (heads : List (Option (Head T))) → ((key : ℕ) (h : Head T) → slot_of_key heads key ≡ Some h → f h ≡ h) → map (option_map f) heads ≡ heads
  same_heads f [] e = refl
  same_heads f (None ∷ heads) e = ap (λ hs. None ∷ hs) (same_heads f heads (λ key h q. e (suc key) h q))
  same_heads f (Some x ∷ heads) e =
      ap (λ y. Some y ∷ map (option_map f) heads) (e 0 x refl) ∙ ap (λ hs. Some x ∷ hs) (same_heads f heads (λ key h q. e (suc key) h q))

module _ {T : Type 0} (ops : Tagging T) (t : ℕ) where
  pub none_marked : (heads : List (Option (Head T))) → IsEmpty heads → map (option_map (with_ready_mark ops t)) heads ≡ heads
  none_marked heads empty =
      same_heads (with_ready_mark ops t) heads (λ key h q. let no : slot_of_key heads key ≡ None = empty key in cc)

  still_ready : (h : Head T) → h.ready ≡ true → with_ready_mark ops t h ≡ h
  still_ready h e = ap (λ b. record h { ready = b }) (or_true h.ready (is_due ops t (Some h.tags.l)) e)

  still_unready : (h : Head T) → is_due ops t (Some h.tags.l) ≡ false → with_ready_mark ops t h ≡ h
  still_unready h e = ap (λ b. record h { ready = b }) (or_false h.ready (is_due ops t (Some h.tags.l)) e)

  module _ (order : IsTotalOrder ops.compare) (heads : List (Option (Head T))) (key : ℕ) (least : LimitRank T) (first : IsFirst limit_rank (limit_rank_cmp ops.compare) heads key least) where
    -- the head of the first key
    first_head : (k : ℕ) (h : Head T) → slot_of_key heads k ≡ Some h → k ≡ key → limit_rank h ≡ least
    first_head k h q e =
        let both : Some (limit_rank h) ≡ Some least = sym (ap (option_map limit_rank) q) ∙ ap (λ n. option_map limit_rank (slot_of_key heads n)) e ∙ first.here in cc

    -- if the first is ready, all are
    pub all_ready : least.ready ≡ true → map (option_map (with_ready_mark ops t)) heads ≡ heads
    all_ready r = same_heads (with_ready_mark ops t) heads (λ k h q. still_ready h (ready k h q)) where
      ready : (k : ℕ) (h : Head T) → slot_of_key heads k ≡ Some h → h.ready ≡ true
      ready k h q =
          elim (cases_eq k key) [
            | inl e ↦ ap (λ (x : LimitRank T). x.ready) (first_head k h q e) ∙ r
            | inr ne ↦ ready_behind least.ready h.ready _ (first.below k h ne q) r
          ]

    late : (tag : T) → is_due ops t (Some least.tag) ≡ false → AtMost ops least.tag tag → is_due ops t (Some tag) ≡ false
    late tag e l = at (is_gt (ops.compare tag (ops.of_moment t))) refl where
      at : (b : Bool) → is_gt (ops.compare tag (ops.of_moment t)) ≡ b → not b ≡ false
      at true g = refl
      at false g =
          let due : is_due ops t (Some least.tag) ≡ true = ap not (upto order least.tag tag (ops.of_moment t) l g) in cc

    -- if the first is unready and above t, no unready one is due
    pub none_due : least.ready ≡ false → is_due ops t (Some least.tag) ≡ false → map (option_map (with_ready_mark ops t)) heads ≡ heads
    none_due r d = same_heads (with_ready_mark ops t) heads (λ k h q. at k h q h.ready refl) where
      behind : (k : ℕ) (h : Head T) → slot_of_key heads k ≡ Some h → h.ready ≡ false → AtMost ops least.tag h.tags.l
      behind k h q e =
          elim (cases_eq k key) [
            | inl s ↦ let one = ap (λ (x : LimitRank T). x.tag) (first_head k h q s) in subst (λ x. AtMost ops least.tag x) (sym one) (ap is_gt (tied_itself order least.tag))
            | inr ne ↦ then_less _ _ (unready_behind least.ready h.ready _ (first.below k h ne q) r e)
          ]

      at : (k : ℕ) (h : Head T) → slot_of_key heads k ≡ Some h → (b : Bool) → h.ready ≡ b → with_ready_mark ops t h ≡ h
      at k h q true e = still_ready h e
      at k h q false e = still_unready h (late h.tags.l d (behind k h q e))

  -- ---- a mark more

  once : (o : Option (Head T)) → IsSomeAnd o (CanMark ops t) → option_map (with_ready_mark ops t) (option_map (with_ready true) o) ≡ option_map (with_ready_mark ops t) o
  once None h = absurd h
  once (Some x) h =
      let now : (x.ready || is_due ops t (Some x.tags.l)) ≡ true = ap (λ b. b || is_due ops t (Some x.tags.l)) h.0 ∙ h.1 in
      ap (λ b. Some (record x { ready = b })) (sym now)

  pub mark_more : (heads : List (Option (Head T))) (key : ℕ) → IsSomeAnd (slot_of_key heads key) (CanMark ops t) → map (option_map (with_ready_mark ops t)) (set heads key (option_map (with_ready true) (slot_of_key heads key))) ≡ map (option_map (with_ready_mark ops t)) heads
  mark_more heads key h =
      map_set (with_ready_mark ops t) heads key (option_map (with_ready true) (slot_of_key heads key))
      ∙ ap (set (map (option_map (with_ready_mark ops t)) heads) key) (once (slot_of_key heads key) h ∙ sym (slot_of_key-map (with_ready_mark ops t) heads key))
      ∙ set-slot_of_key (map (option_map (with_ready_mark ops t)) heads) key

  pub some_to_mark : (o : Option (Head T)) → IsSomeAnd o (CanMark ops t) → IsSome o
  some_to_mark None h = absurd h
  some_to_mark (Some x) h = refl

  -- one unready head fewer
  pub fewer_unready : (heads : List (Option (Head T))) (key : ℕ) → IsSomeAnd (slot_of_key heads key) (CanMark ops t) → count_by is_unready (set heads key (option_map (with_ready true) (slot_of_key heads key))) < count_by is_unready heads
  fewer_unready [] key h = absurd h
  fewer_unready (None ∷ heads) zero h = absurd h
  fewer_unready (Some x ∷ heads) zero h =
      omega (arith, ap {B = ℕ} (λ b. cond (not b) 1 0) h.0, sum_by-cons (λ o. cond (is_unready o) 1 0) (Some x) heads, sum_by-cons (λ o. cond (is_unready o) 1 0) (Some (with_ready true x)) heads)
  fewer_unready (o ∷ heads) (suc key) h =
      let rest = set heads key (option_map (with_ready true) (slot_of_key heads key)) in
      omega (arith, fewer_unready heads key h, sum_by-cons (λ o. cond (is_unready o) 1 0) o heads, sum_by-cons (λ o. cond (is_unready o) 1 0) o rest)

  -- ---- a mark set back

  not_past : (o : Option (Head T)) → option_map_or (is_past ops t) o false ≡ false → option_map (set_back ops t) o ≡ o
  not_past None e = refl
  not_past (Some h) e = ap (λ b. Some (record h { ready = b })) (and_stays h.ready (is_due ops t (Some h.tags.l)) e)

  pub not_set_back : (heads : List (Option (Head T))) (key : ℕ) → option_map_or (is_past ops t) (slot_of_key heads key) false ≡ false → set heads key (option_map (set_back ops t) (slot_of_key heads key)) ≡ heads
  not_set_back heads key e = ap (set heads key) (not_past (slot_of_key heads key) e) ∙ set-slot_of_key heads key
