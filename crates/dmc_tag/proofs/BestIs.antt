-- What a scan of one list finds is the best of the set.
use Rattle.std.proofs.Common.{◌≡◌, Bool, true, false, not, ◌&&◌, cond, List, [], ◌∷◌, ◌++◌, Option, Some, None, refl, sym, ap, ◌∙◌, subst}
use Rattle.std.specs.Prelude.{unwrap_or}
use Rattle.std.specs.List.{AllByRecursion}
use Rattle.dmc_tag.specs.Best.{best, better, IsBest, HasNone}
use Rattle.dmc_tag.proofs.Before.{IsOrder}
use Rattle.dmc_tag.proofs.Scans.{not_found}
use Rattle.dmc_lemmas.proofs.Lists.{all_as, all_joined, all_at}
use Rattle.std.proofs.lemmas.Bool.{false_from_ne_true}

module _ {R : Type 0} (before : R → R → Bool) (o : IsOrder before) (member : R → Bool) where
  -- ---- x is the best of x ∷ xs: none behind it is before it

  alone : (x : R) (xs : List R) → HasNone member xs → member x ≡ true → IsBest before member (x ∷ xs) x xs
  alone x xs none p = record {
    front = [];
    back = xs;
    whole = refl;
    rest = refl;
    is_member = p;
    ahead = tt;
    behind = all_as (λ z. member z ≡ false) (λ z. member z ≡ true → before z x ≡ false) (λ z f t. cc) xs none;
  }

  front_behind : (x y z : R) → before y x ≡ false → (member z ≡ true → before y z ≡ true) → member z ≡ true → before z x ≡ false
  front_behind x y z f h m = false_from_ne_true (before z x) (λ t. let chain = o.trans y z x (h m) t in cc)

  back_behind : (x y z : R) → before y x ≡ false → (member z ≡ true → before z y ≡ false) → member z ≡ true → before z x ≡ false
  back_behind x y z f h m = false_from_ne_true (before z x) (λ t. let chain = o.chain y x z (h m) t in cc)

  stays : (x y : R) (xs ys : List R) → IsBest before member xs y ys → member x ≡ true → before y x ≡ false → IsBest before member (x ∷ xs) x xs
  stays x y xs ys b p f =
      let Behind : R → Type 0 = λ z. member z ≡ true → before z x ≡ false in
      record {
        front = [];
        back = xs;
        whole = refl;
        rest = refl;
        is_member = p;
        ahead = tt;
        behind = subst (AllByRecursion Behind) (sym b.whole) (all_joined Behind b.front y b.back
            (all_as _ Behind (λ z h. front_behind x y z f h) b.front b.ahead) (λ _. f)
            (all_as _ Behind (λ z h. back_behind x y z f h) b.back b.behind));
      }

  -- ---- the best of xs is the best of x ∷ xs

  yields : (x y : R) (xs ys : List R) → IsBest before member xs y ys → (member x ≡ true → before y x ≡ true) → IsBest before member (x ∷ xs) y (x ∷ ys)
  yields x y xs ys b h = record {
    front = x ∷ b.front;
    back = b.back;
    whole = ap (λ zs. x ∷ zs) b.whole;
    rest = ap (λ zs. x ∷ zs) b.rest;
    is_member = b.is_member;
    ahead = (h, b.ahead);
    behind = b.behind;
  }

  beaten : (m t : Bool) → (m && not t) ≡ false → m ≡ true → t ≡ true
  beaten true true e p = refl
  beaten true false e p = cc
  beaten false t e p = cc

  unbeaten : (m t : Bool) → (m && not t) ≡ true → (m ≡ true) × (t ≡ false)
  unbeaten true true e = cc
  unbeaten true false e = (refl, refl)
  unbeaten false t e = cc

  one_of_two : (x y : R) (xs ys : List R) → IsBest before member xs y ys → (b : Bool) → (member x && not (before y x)) ≡ b → (p : R × List R) → cond b (Some (x, xs)) (Some (y, x ∷ ys)) ≡ Some p → IsBest before member (x ∷ xs) p.0 p.1
  one_of_two x y xs ys is true e p s =
      let same : (x, xs) ≡ p = ap (λ o. unwrap_or o (x, xs)) s in
      let test = unbeaten (member x) (before y x) e in
      subst (λ q. IsBest before member (x ∷ xs) q.0 q.1) same (stays x y xs ys is test.0 test.1)
  one_of_two x y xs ys is false e p s =
      let same : (y, x ∷ ys) ≡ p = ap (λ o. unwrap_or o (x, xs)) s in
      subst (λ q. IsBest before member (x ∷ xs) q.0 q.1) same (yields x y xs ys is (beaten (member x) (before y x) e))

  found_at : (x : R) (xs : List R) (b : Option (R × List R)) → best before member xs ≡ b → (m : Bool) → member x ≡ m → (p : R × List R) → better before m x xs b ≡ Some p → ((q : R × List R) → best before member xs ≡ Some q → IsBest before member xs q.0 q.1) → IsBest before member (x ∷ xs) p.0 p.1
  found_at x xs None q true e p s rec =
      let same : (x, xs) ≡ p = ap (λ o. unwrap_or o (x, xs)) s in
      subst (λ q. IsBest before member (x ∷ xs) q.0 q.1) same (alone x xs (not_found before member xs q) e)
  found_at x xs None q false e p s rec = cc
  found_at x xs (Some (y, ys)) q m e p s rec = one_of_two x y xs ys (rec (y, ys) q) (member x && not (before y x)) refl p (ap (λ n. cond (n && not (before y x)) (Some (x, xs)) (Some (y, x ∷ ys))) e ∙ s)

  -- what the scan finds is the best
  pub found_is : (xs : List R) (p : R × List R) → best before member xs ≡ Some p → IsBest before member xs p.0 p.1
  found_is [] p s = cc
  found_is (x ∷ xs) p s = found_at x xs (best before member xs) refl (member x) refl p s (found_is xs)
