-- Future is exact: before it no request is early or free, and at it one is.
use Rattle.std.proofs.Common.{◌≡◌, ℕ, ◌*◌, ◌<◌, ◌≤◌, min, Bool, true, false, not, ◌||◌, List, [], ◌∷◌, ◌++◌, Option, Some, None, refl, sym, ap, ◌∙◌, arith}
use Rattle.std.specs.Prelude.{ℤ, pos, negsuc, ◌*ℤ◌, ◌≤ℤ◌, ◌<ℤ◌, nat_le, fold, ◌⊎◌}
use Rattle.std.specs.List.{AllByRecursion}
use Rattle.std.specs.declared.cmp.Ordering.{Ordering}
use Rattle.std.specs.declared.cmp.Ordering.TheVariants.{Less, Equal, Greater}
use Rattle.std.specs.Ordering.{is_gt, int_cmp}
use Rattle.std.proofs.lemmas.Int.{ints, by_lt_z}
use Rattle.std.proofs.lemmas.Bool.{leb-true, leb-false, le-leb, or_parts}
use Rattle.std.proofs.lemmas.Bool.Decides.{nat_tests}
use Rattle.std.specs.Option.{option_map}
use Rattle.std.proofs.lemmas.Cmp.{int_ranked}
use Rattle.std.proofs.Common.{inl, inr, ⊎_elim}
use Rattle.dmc_tag.specs.Best.{is_due, is_early, is_free, HasNone}
use Rattle.dmc_tag.specs.Rules.{moment_of, earlier, due_moment, least_due}
use Rattle.dmc_tag.specs.Laws.{IsNextDue}
use Rattle.dmc_tag.specs.declared.plain.QueuedRequest.{QueuedRequest}
use Rattle.dmc_tag.specs.Tag.{Fraction, Tagging, IsExact}
use Rattle.dmc_tag.proofs.Scaled.{times_one, scaled_le, scaled_lt, not_above}

-- ---- whole numbers

above_true : (x y : ℤ) (r : Ordering) → r ≡ int_cmp x y → y <ℤ x → is_gt r ≡ true
above_true x y Less e h = let below = int_ranked x y Less e in absurd (omega (arith, ints))
above_true x y Equal e h = let same = int_ranked x y Equal e in absurd (omega (arith, ints))
above_true x y Greater e h = refl

within : (c : ℤ) (n : ℕ) → moment_of c ≤ n → c ≤ℤ pos n
within (pos a) n h = omega (arith, ints)
within (negsuc a) n h = omega (arith, ints)

past : (c : ℤ) (n : ℕ) → n < moment_of c → pos n <ℤ c
past (pos a) n h = omega (arith, ints)
past (negsuc a) n h = absurd (omega arith)

-- ---- one tag

module _ {T : Type 0} (ops : Tagging T) (fraction : T → Fraction) (is_value : Fraction → Type 0) (exact : IsExact ops fraction is_value) where
  -- the moment n over the denominators of a tag and of n's own tag
  moment_scaled : (tag : T) (n : ℕ) → (fraction (ops.of_moment n)).numer *ℤ pos (fraction tag).denom ≡ (pos n *ℤ pos (fraction tag).denom) *ℤ pos (fraction (ops.of_moment n)).denom
  moment_scaled tag n =
      let g = fraction (ops.of_moment n) in
      let d = (fraction tag).denom in
      let own : g.numer ≡ pos n *ℤ pos g.denom = sym (times_one g.numer) ∙ exact.of_moment n in
      let turned : n * g.denom * d ≡ n * d * g.denom = omega arith in
      ap (λ z. z *ℤ pos d) own ∙ ap pos turned

  order_is : (tag : T) (n : ℕ) → ops.compare tag (ops.of_moment n) ≡ int_cmp ((fraction tag).numer *ℤ pos (fraction (ops.of_moment n)).denom) ((pos n *ℤ pos (fraction tag).denom) *ℤ pos (fraction (ops.of_moment n)).denom)
  order_is tag n = exact.order tag (ops.of_moment n) ∙ ap (int_cmp ((fraction tag).numer *ℤ pos (fraction (ops.of_moment n)).denom)) (moment_scaled tag n)

  due_at : (tag : T) (n : ℕ) (b : Bool) → nat_le (moment_of (ops.ceil tag)) n ≡ b → not (is_gt (ops.compare tag (ops.of_moment n))) ≡ b
  due_at tag n true e =
      let d = (fraction (ops.of_moment n)).denom in
      let up : ops.ceil tag ≤ℤ pos n = within (ops.ceil tag) n (leb-true _ n e) in
      let low = (exact.ceil tag (pos n)).0 up in
      ap not (not_above _ _ _ (order_is tag n) (scaled_le (fraction tag).numer (pos n *ℤ pos (fraction tag).denom) d low))
  due_at tag n false e =
      let d = (fraction (ops.of_moment n)).denom in
      let above : pos n <ℤ ops.ceil tag = past (ops.ceil tag) n (leb-false _ n e) in
      let high : (pos n *ℤ pos (fraction tag).denom) <ℤ (fraction tag).numer = by_lt_z (pos n *ℤ pos (fraction tag).denom) (fraction tag).numer (λ h. h) (λ h. let low = (exact.ceil tag (pos n)).1 h in absurd (omega (arith, ints))) in
      ap not (above_true _ _ _ (order_is tag n) (scaled_lt (pos n *ℤ pos (fraction tag).denom) (fraction tag).numer d (exact.denom (ops.of_moment n)) high))

  pub due_is : (tag : T) (n : ℕ) → not (is_gt (ops.compare tag (ops.of_moment n))) ≡ nat_le (moment_of (ops.ceil tag)) n
  due_is tag n = due_at tag n (nat_le (moment_of (ops.ceil tag)) n) refl

  -- ---- one request

  le_min : (a b n : ℕ) → nat_le (min a b) n ≡ (nat_le b n || nat_le a n)
  le_min a b n = grind (arith, nat_tests)

  hit_with : (r : QueuedRequest T) (n : ℕ) (tag : Option T) → (is_due ops n tag || is_free ops n r) ≡ nat_le (earlier (moment_of (ops.ceil r.tags.l)) (option_map (λ t. moment_of (ops.ceil t)) tag)) n
  hit_with r n None = due_is r.tags.l n
  hit_with r n (Some tag) = rw (due_is tag n, due_is r.tags.l n) (sym (le_min (moment_of (ops.ceil r.tags.l)) (moment_of (ops.ceil tag)) n))

  -- a request is early or free exactly from its due moment on
  hit_is : (r : QueuedRequest T) (n : ℕ) → (is_early ops n r || is_free ops n r) ≡ nat_le (due_moment ops r) n
  hit_is r n = hit_with r n r.tags.r

  either : (a b : Bool) → (a || b) ≡ true → (a ≡ true) ⊎ (b ≡ true)
  either true b e = inl refl
  either false b e = inr e

  not_yet : (r : QueuedRequest T) (n : ℕ) → n < due_moment ops r → (is_early ops n r ≡ false) × (is_free ops n r ≡ false)
  not_yet r n h = let later : nat_le (due_moment ops r) n ≡ false = grind (arith, nat_tests) in or_parts _ _ (hit_is r n ∙ later)

  -- ---- the least of a list

  -- m is when some request of the list is due
  record Reached (m : ℕ) (xs : List (QueuedRequest T)) : Type 0 where
    request : QueuedRequest T
    front : List (QueuedRequest T)
    back : List (QueuedRequest T)
    whole : xs ≡ front ++ request ∷ back
    is : due_moment ops request ≡ m

  abbrev least_from : ℕ → List (QueuedRequest T) → ℕ
  least_from a xs = fold (λ m r. min m (due_moment ops r)) a xs

  -- it is no later than any
  lower : (a : ℕ) (xs : List (QueuedRequest T)) → (least_from a xs ≤ a) × AllByRecursion (λ r. least_from a xs ≤ due_moment ops r) xs
  lower a [] = (omega arith, tt)
  lower a (x ∷ xs) =
      let rest = lower (min a (due_moment ops x)) xs in
      let first = rest.0 in
      (omega arith, (omega arith, rest.1))

  passed : (x : QueuedRequest T) (m : ℕ) (xs : List (QueuedRequest T)) → Reached m xs → Reached m (x ∷ xs)
  passed x m xs r = record { request = r.request; front = x ∷ r.front; back = r.back; whole = ap (λ ys. x ∷ ys) r.whole; is = r.is }

  here : (a m : ℕ) (x : QueuedRequest T) (xs : List (QueuedRequest T)) → m ≡ min a (due_moment ops x) → (b : Bool) → nat_le a (due_moment ops x) ≡ b → (m ≡ a) ⊎ Reached m (x ∷ xs)
  here a m x xs e true t = let le = leb-true a (due_moment ops x) t in inl (omega arith)
  here a m x xs e false t = let gt = leb-false a (due_moment ops x) t in inr (record { request = x; front = []; back = xs; whole = refl; is = omega arith })

  -- it is the first, or when some request is due
  reached : (a : ℕ) (xs : List (QueuedRequest T)) → (least_from a xs ≡ a) ⊎ Reached (least_from a xs) xs
  reached a [] = inl refl
  reached a (x ∷ xs) = ⊎_elim (λ e. here a (least_from a (x ∷ xs)) x xs e (nat_le a (due_moment ops x)) refl) (λ r. inr (passed x (least_from a (x ∷ xs)) xs r)) (reached (min a (due_moment ops x)) xs)

  reached_all : (x : QueuedRequest T) (xs : List (QueuedRequest T)) → Reached (least_due ops x xs) (x ∷ xs)
  reached_all x xs = ⊎_elim (λ e. record { request = x; front = []; back = xs; whole = refl; is = sym e }) (passed x (least_due ops x xs) xs) (reached (due_moment ops x) xs)

  none_before : (P : QueuedRequest T → Bool) (n m : ℕ) → n < m → ((r : QueuedRequest T) → n < due_moment ops r → P r ≡ false) → (xs : List (QueuedRequest T)) → AllByRecursion (λ r. m ≤ due_moment ops r) xs → HasNone P xs
  none_before P n m h not_due [] a = tt
  none_before P n m h not_due (x ∷ xs) a = let le = a.0 in (not_due x (omega arith), none_before P n m h not_due xs a.1)

  due_now : (r : QueuedRequest T) (m : ℕ) → due_moment ops r ≡ m → (is_early ops m r ≡ true) ⊎ (is_free ops m r ≡ true)
  due_now r m e = let at : nat_le (due_moment ops r) m ≡ true = le-leb (due_moment ops r) m (omega arith) in either _ _ (hit_is r m ∙ at)

  pub next_due : (x : QueuedRequest T) (xs : List (QueuedRequest T)) → IsNextDue ops (least_due ops x xs) (x ∷ xs)
  next_due x xs =
      let bound = lower (due_moment ops x) xs in
      let one = reached_all x xs in
      record {
        none_early = λ n h. none_before (is_early ops n) n (least_due ops x xs) h (λ r l. (not_yet r n l).0) (x ∷ xs) (bound.0, bound.1);
        none_free = λ n h. none_before (is_free ops n) n (least_due ops x xs) h (λ r l. (not_yet r n l).1) (x ∷ xs) (bound.0, bound.1);
        some = record { request = one.request; front = one.front; back = one.back; whole = one.whole; due = due_now one.request (least_due ops x xs) one.is };
      }
