-- A hole that moves through a heap in order.
use Rattle.std.proofs.Common.{◌≡◌, ◌≢◌, ℕ, ◌+◌, ◌*◌, ◌<◌, ◌≤◌, ◌⊎◌, List, Some, Bool, true, false, length, get_or, set, slice_get, refl, sym, ap, ◌∙◌, subst, inl, inr, arith}
use Rattle.std.specs.declared.cmp.Ordering.{Ordering}
use Rattle.std.specs.declared.cmp.Ordering.TheVariants.{Less, Equal, Greater}
use Rattle.std.specs.Ordering.{is_lt, is_gt, ordering_reverse}
use Rattle.std.specs.Cmp.{IsTotalOrder}
use Rattle.std.proofs.lemmas.Cmp.{upto, tied_itself}
use Rattle.std.proofs.lemmas.Bool.{cases_eq, cases_lt}
use Rattle.std.proofs.lemmas.List.{length-set}
use Rattle.std.proofs.lemmas.Option.{slice_get_within, slice_get_read, slice_get-get_or, get_or_from_slice_get, same_Some}
use Rattle.dmc_heap.specs.Heap.{parent_of, IsUpto, IsHeap, IsLinked}
use Rattle.dmc_heap.specs.internal.Heap.{IsHole, IsMoved, IsUnderParent, IsOverChildren, IsLowerOf, IsLowest, IsLowestChild, IsSettled}
use Rattle.dmc_heap.specs.declared.indexed_heap.Entry.{Entry}
use Rattle.dmc_heap.specs.declared.indexed_heap.TheConstants.{CHILDREN}
use Rattle.dmc_lemmas.proofs.Lists.{slice_get-set_same, slice_get-set_other}
use Rattle.dmc_heap.proofs.LinkLemmas.{IsLinked-move, rank_of-move}

-- ---- what a comparison says

pub upto_if_lt : (r : Ordering) → is_lt r ≡ true → is_gt r ≡ false
upto_if_lt Less e = refl
upto_if_lt Equal e = refl
upto_if_lt Greater e = sym e

module _ {R : Type 0} (compare : R → R → Ordering) (o : IsTotalOrder compare) where
  pub upto_itself : (a b : Entry R) → a ≡ b → IsUpto compare a b
  upto_itself a b e = subst (IsUpto compare a) e (ap is_gt (tied_itself o a.rank))

  pub upto_if_not_lt : (a b : Entry R) → is_lt (compare a.rank b.rank) ≡ false → IsUpto compare b a
  upto_if_not_lt a b e = at (compare a.rank b.rank) (o.antisymm b.rank a.rank) e where
    at : (r : Ordering) → compare b.rank a.rank ≡ ordering_reverse r → is_lt r ≡ false → IsUpto compare b a
    at Less t f = ap is_gt t ∙ f
    at Equal t f = ap is_gt t
    at Greater t f = ap is_gt t

  pub upto_trans : (a b c : Entry R) → IsUpto compare a b → IsUpto compare b c → IsUpto compare a c
  upto_trans a b c p q = upto o a.rank b.rank c.rank p q

  -- the parent as the code reads it
  pub under_read : (heap : List (Entry R)) (hole : ℕ) (x parent : Entry R) (below : Bool) → below ≡ is_lt (compare x.rank (get_or heap (parent_of hole) parent).rank) → below ≡ false → IsUnderParent compare heap hole x
  under_read heap hole x parent below e f = λ above pos h.
      let read = get_or_from_slice_get heap (parent_of hole) above parent h in
      upto_if_not_lt x above (ap (λ (y : Entry R). is_lt (compare x.rank y.rank)) (sym read) ∙ sym e ∙ f)

  module _ (heap : List (Entry R)) (places : List ℕ) (hole : ℕ) (x : Entry R) (is_hole : IsHole compare heap places hole x) where
    -- the entry in the hole once y is put there, and the entries elsewhere
    in_hole : (y e : Entry R) → slice_get (set heap hole y) hole ≡ Some e → y ≡ e
    in_hole y e h = same_Some y e (sym (slice_get-set_same heap hole y is_hole.within) ∙ h)

    out_of_hole : (y e : Entry R) (i : ℕ) → i ≢ hole → slice_get (set heap hole y) i ≡ Some e → slice_get heap i ≡ Some e
    out_of_hole y e i ne h = sym (slice_get-set_other heap hole i y ne) ∙ h

    pub fill : IsUnderParent compare heap hole x → IsOverChildren compare heap hole x → IsHeap compare (set heap hole x)
    fill under over i above below pos qa qb =
        elim (cases_eq i hole) [
          | inl s ↦
              let e = in_hole x below (ap (slice_get (set heap hole x)) (sym s) ∙ qb) in
              let qa' : slice_get heap (parent_of hole) ≡ Some above = ap (λ n. slice_get heap (parent_of n)) (sym s) ∙ out_of_hole x above (parent_of i) (λ t. omega arith) qa in
              subst (IsUpto compare above) e (under above (omega arith) qa')
          | inr p ↦ elim (cases_eq (parent_of i) hole) [
            | inl s ↦ subst (λ a. IsUpto compare a below) (in_hole x above (ap (slice_get (set heap hole x)) (sym s) ∙ qa)) (over i below pos s (out_of_hole x below i p qb))
            | inr q ↦ is_hole.ordered i above below pos p q (out_of_hole x above (parent_of i) q qa) (out_of_hole x below i p qb)
          ]
        ]

    module _ (y : Entry R) (pos : 0 < hole) (here : slice_get heap (parent_of hole) ≡ Some y) where
      pub IsHole-up : IsHole compare (set heap hole y) (set places y.key hole) (parent_of hole) x
      IsHole-up = record {
        within = omega (arith, length-set heap hole y, is_hole.within);
        linked = IsLinked-move heap places x y hole (parent_of hole) (λ e. omega arith) is_hole.within is_hole.linked here;
        ordered = λ i above below pos' p q qa qb. elim (cases_eq i hole) [
          | inl s ↦ absurd (q (ap parent_of s))
          | inr r ↦ elim (cases_eq (parent_of i) hole) [
            | inl s ↦ subst (λ a. IsUpto compare a below) (in_hole y above (ap (slice_get (set heap hole y)) (sym s) ∙ qa)) (is_hole.across i y below pos' pos s here (out_of_hole y below i r qb))
            | inr t ↦ is_hole.ordered i above below pos' r t (out_of_hole y above (parent_of i) t qa) (out_of_hole y below i r qb)
          ]
        ];
        across = λ i above below pos' pos'' s qa qb.
            let lower : parent_of (parent_of hole) ≢ hole = λ e. omega arith in
            let top = is_hole.ordered (parent_of hole) above y pos'' (λ e. omega arith) lower (out_of_hole y above (parent_of (parent_of hole)) lower qa) here in
            elim (cases_eq i hole) [
              | inl t ↦ subst (IsUpto compare above) (in_hole y below (ap (slice_get (set heap hole y)) (sym t) ∙ qb)) top
              | inr t ↦ upto_trans above y below top (is_hole.ordered i y below pos' t (λ e. omega arith) (ap (slice_get heap) s ∙ here) (out_of_hole y below i t qb))
            ];
      }

      pub IsOverChildren-up : IsUpto compare x y → IsOverChildren compare (set heap hole y) (parent_of hole) x
      IsOverChildren-up u i below pos' s qb =
          elim (cases_eq i hole) [
            | inl t ↦ subst (IsUpto compare x) (in_hole y below (ap (slice_get (set heap hole y)) (sym t) ∙ qb)) u
            | inr t ↦ upto_trans x y below u (is_hole.ordered i y below pos' t (λ e. omega arith) (ap (slice_get heap) s ∙ here) (out_of_hole y below i t qb))
          ]

    module _ (y : Entry R) (child : ℕ) (least : IsLowestChild compare heap hole child) (here : slice_get heap child ≡ Some y) where
      below_hole : hole < child
      below_hole = omega (arith, least.positive, least.parent)

      pub IsHole-down : IsHole compare (set heap hole y) (set places y.key hole) child x
      IsHole-down =
          let under = below_hole in
          record {
            within = omega (arith, length-set heap hole y, least.within);
            linked = IsLinked-move heap places x y hole child (λ e. omega arith) is_hole.within is_hole.linked here;
            ordered = λ i above below pos' p q qa qb. elim (cases_eq i hole) [
              | inl s ↦
                  let higher : parent_of i ≢ hole = λ e. omega arith in
                  let qa' : slice_get heap (parent_of hole) ≡ Some above = ap (λ n. slice_get heap (parent_of n)) (sym s) ∙ out_of_hole y above (parent_of i) higher qa in
                  subst (IsUpto compare above) (in_hole y below (ap (slice_get (set heap hole y)) (sym s) ∙ qb)) (is_hole.across child above y least.positive (omega arith) least.parent qa' here)
              | inr r ↦ elim (cases_eq (parent_of i) hole) [
                | inl s ↦ subst (λ a. IsUpto compare a below) (in_hole y above (ap (slice_get (set heap hole y)) (sym s) ∙ qa)) (least.lower i y below pos' s here (out_of_hole y below i r qb))
                | inr t ↦ is_hole.ordered i above below pos' r t (out_of_hole y above (parent_of i) t qa) (out_of_hole y below i r qb)
              ]
            ];
            across = λ i above below pos' pos'' s qa qb.
                let lower : i ≢ hole = λ e. omega arith in
                subst (λ a. IsUpto compare a below) (in_hole y above (ap (slice_get (set heap hole y)) (sym least.parent) ∙ qa)) (is_hole.ordered i y below pos' lower (λ e. omega arith) (ap (slice_get heap) s ∙ here) (out_of_hole y below i lower qb));
          }

    pub IsOverChildren-leaf : length heap ≤ CHILDREN * hole + 1 → IsOverChildren compare heap hole x
    IsOverChildren-leaf l i below pos' s qb = absurd (omega (arith, slice_get_within heap i below qb))

-- ---- the lowest child

module _ {R : Type 0} (compare : R → R → Ordering) (o : IsTotalOrder compare) (heap : List (Entry R)) where
  -- two entries as the code reads them
  pub second_is_lower : (a b : ℕ) (x y : Entry R) (below : Bool) → a < length heap → b < length heap → x ≡ get_or heap a x → y ≡ get_or heap b y → below ≡ is_lt (compare (get_or heap b y).rank (get_or heap a x).rank) → below ≡ true → IsLowerOf compare heap a b b
  second_is_lower a b x y below in_a in_b p q e t =
      let here = slice_get_read heap (length heap) a x refl in_a p in
      let there = slice_get_read heap (length heap) b y refl in_b q in
      let same = ap (λ (z : Entry R). is_lt (compare y.rank z.rank)) p ∙ ap (λ (z : Entry R). is_lt (compare z.rank (get_or heap a x).rank)) q in
      record {
        one = inr refl;
        upto_a = λ u v h k. subst (λ z. IsUpto compare z v) (same_Some y u (sym there ∙ h)) (subst (IsUpto compare y) (same_Some x v (sym here ∙ k)) (upto_if_lt (compare y.rank x.rank) (same ∙ sym e ∙ t)));
        upto_b = λ u v h k. upto_itself compare o u v (same_Some u v (sym h ∙ k));
      }

  pub first_is_lower : (a b : ℕ) (x y : Entry R) (below : Bool) → a < length heap → b < length heap → x ≡ get_or heap a x → y ≡ get_or heap b y → below ≡ is_lt (compare (get_or heap b y).rank (get_or heap a x).rank) → below ≡ false → IsLowerOf compare heap a b a
  first_is_lower a b x y below in_a in_b p q e t =
      let here = slice_get_read heap (length heap) a x refl in_a p in
      let there = slice_get_read heap (length heap) b y refl in_b q in
      let same = ap (λ (z : Entry R). is_lt (compare y.rank z.rank)) p ∙ ap (λ (z : Entry R). is_lt (compare z.rank (get_or heap a x).rank)) q in
      record {
        one = inl refl;
        upto_a = λ u v h k. upto_itself compare o u v (same_Some u v (sym h ∙ k));
        upto_b = λ u v h k. subst (λ z. IsUpto compare z v) (same_Some x u (sym here ∙ h)) (subst (IsUpto compare x) (same_Some y v (sym there ∙ k)) (upto_if_not_lt compare o y x (same ∙ sym e ∙ t)));
      }

  pub lowest_one : (i to : ℕ) → to ≡ i + 1 → i < length heap → IsLowest compare heap i to i
  lowest_one i to end within = record {
    within = within;
    after = omega arith;
    before = omega (arith, end);
    upto_others = λ other e e' from before h k. let same : other ≡ i = omega (arith, end) in upto_itself compare o e e' (same_Some e e' (sym h ∙ ap (slice_get heap) (sym same) ∙ k));
  }

  module _ (from mid to x y lower : ℕ) (left : IsLowest compare heap from mid x) (right : IsLowest compare heap mid to y) (is : IsLowerOf compare heap x y lower) where
    lower_fits : (lower < length heap) × (from ≤ lower) × (lower < to)
    lower_fits = elim is.one [
      | inl s ↦ omega (arith, s, left.within, left.after, left.before, right.after, right.before)
      | inr s ↦ omega (arith, s, right.within, left.after, left.before, right.after, right.before)
    ]

    upto_all : (other : ℕ) (e e' : Entry R) → from ≤ other → other < to → slice_get heap lower ≡ Some e → slice_get heap other ≡ Some e' → IsUpto compare e e'
    upto_all other e e' p q h k =
        let at_x = slice_get-get_or heap x e left.within in
        let at_y = slice_get-get_or heap y e right.within in
        elim (cases_lt other mid) [
          | inl before ↦ upto_trans compare o e (get_or heap x e) e' (is.upto_a e (get_or heap x e) h at_x) (left.upto_others other (get_or heap x e) e' p before at_x k)
          | inr after ↦ upto_trans compare o e (get_or heap y e) e' (is.upto_b e (get_or heap y e) h at_y) (right.upto_others other (get_or heap y e) e' after q at_y k)
        ]

    pub lowest_join : IsLowest compare heap from to lower
    lowest_join = record { within = lower_fits.0; after = lower_fits.1; before = lower_fits.2; upto_others = upto_all }

  -- the children are those of a range, as far as there are any
  pub IsLowestChild-range : (at to child : ℕ) → (to ≡ CHILDREN * at + 1 + CHILDREN) ⊎ ((length heap ≤ to) × (to ≤ CHILDREN * at + 1 + CHILDREN)) → IsLowest compare heap (CHILDREN * at + 1) to child → IsLowestChild compare heap at child
  IsLowestChild-range at to child ends lowest = record {
    within = lowest.within;
    positive = omega (arith, lowest.after);
    parent = elim ends [
      | inl s ↦ omega (arith, s, lowest.after, lowest.before)
      | inr s ↦ omega (arith, s.1, lowest.after, lowest.before)
    ];
    lower = λ other e e' pos s h k. lowest.upto_others other e e' (omega (arith, s)) (elim ends [
      | inl t ↦ omega (arith, s, t)
      | inr t ↦ omega (arith, t.0, slice_get_within heap other e' k)
    ]) h k;
  }

-- ---- one more move

pub IsMoved-more : {R : Type 0} (heap0 : List (Entry R)) (places0 : List ℕ) (hole0 : ℕ) (heap : List (Entry R)) (places : List ℕ) (x y : Entry R) (hole to : ℕ) → to ≢ hole → hole < length heap → IsLinked (set heap hole x) (set places x.key hole) → slice_get heap to ≡ Some y → IsMoved heap0 places0 hole0 x heap places hole → IsMoved heap0 places0 hole0 x (set heap hole y) (set places y.key hole) to
IsMoved-more heap0 places0 hole0 heap places x y hole to apart within linked here moved = record {
  size = length-set heap hole y ∙ moved.size;
  room = length-set places y.key hole ∙ moved.room;
  ranks = λ key. rank_of-move heap places x y hole to apart within linked here key ∙ moved.ranks key;
}

pub IsMoved-trans : {R : Type 0} (heap0 : List (Entry R)) (places0 : List ℕ) (hole0 : ℕ) (heap1 : List (Entry R)) (places1 : List ℕ) (hole1 : ℕ) (heap2 : List (Entry R)) (places2 : List ℕ) (hole2 : ℕ) (x : Entry R) → IsMoved heap0 places0 hole0 x heap1 places1 hole1 → IsMoved heap1 places1 hole1 x heap2 places2 hole2 → IsMoved heap0 places0 hole0 x heap2 places2 hole2
IsMoved-trans heap0 places0 hole0 heap1 places1 hole1 heap2 places2 hole2 x a b = record {
  size = b.size ∙ a.size;
  room = b.room ∙ a.room;
  ranks = λ key. b.ranks key ∙ a.ranks key;
}

pub IsSettled-fill : {R : Type 0} (compare : R → R → Ordering) (o : IsTotalOrder compare) (heap0 : List (Entry R)) (places0 : List ℕ) (hole0 : ℕ) (heap : List (Entry R)) (places : List ℕ) (hole : ℕ) (x : Entry R) → IsHole compare heap places hole x → IsMoved heap0 places0 hole0 x heap places hole → IsUnderParent compare heap hole x → IsOverChildren compare heap hole x → IsSettled compare heap0 places0 hole0 x (set heap hole x) (set places x.key hole)
IsSettled-fill compare o heap0 places0 hole0 heap places hole x is_hole moved under over = record {
  size = length-set heap hole x ∙ moved.size;
  room = length-set places x.key hole ∙ moved.room;
  linked = is_hole.linked;
  ordered = fill compare o heap places hole x is_hole under over;
  ranks = moved.ranks;
}

-- an entry that fills a hole has a key below the capacity
pub key_in_room : {R : Type 0} (compare : R → R → Ordering) (heap : List (Entry R)) (places : List ℕ) (hole : ℕ) (x : Entry R) → IsHole compare heap places hole x → x.key < length places
key_in_room compare heap places hole x is_hole =
    omega (arith, slice_get_within (set places x.key hole) x.key hole (is_hole.linked.placed hole x (slice_get-set_same heap hole x is_hole.within)), length-set places x.key hole)
