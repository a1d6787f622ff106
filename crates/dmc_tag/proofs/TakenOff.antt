-- Amounts taken off one after another, and off tags that are whole numbers.
use Rattle.std.proofs.Common.{◌≡◌, ℕ, ◌*◌, ◌<◌, true, Option, Some, None, refl, sym, ap, ◌∙◌, subst, arith}
use Rattle.std.specs.Prelude.{ℤ, pos, ◌+ℤ◌, ◌-ℤ◌, ◌*ℤ◌, ◌≤ℤ◌, is_some}
use Rattle.std.proofs.lemmas.Int.{ints}
use Rattle.dmc_tag.specs.Order.{AtMost}
use Rattle.dmc_tag.specs.Tag.{Fraction, Tagging, IsExact, IsSame, IsWhole, Gives, difference_of, integer}
use Rattle.dmc_tag.proofs.Scaled.{scaled_twice, scaled_sum, scaled_difference, unscaled_le, cancelled}
use Rattle.dmc_tag.proofs.TagOrder.{positive, given, at_most_to}
use Rattle.dmc_tag.proofs.TagValues.{difference_value, one_answer}

-- ---- whole numbers over the denominators of all

-- one product, split in two ways
aside : (z : ℤ) (a b c d : ℕ) → a * b ≡ c * d → (z *ℤ pos a) *ℤ pos b ≡ (z *ℤ pos c) *ℤ pos d
aside z a b c d e = scaled_twice z a b ∙ ap (λ n. z *ℤ pos n) e ∙ sym (scaled_twice z c d)

in_two : (z : ℤ) (n a b : ℕ) → n ≡ a * b → z *ℤ pos n ≡ (z *ℤ pos a) *ℤ pos b
in_two z n a b e = ap (λ m. z *ℤ pos m) e ∙ sym (scaled_twice z a b)

spread_less : (x y : ℤ) (a b q m : ℕ) → ((x *ℤ pos a -ℤ y *ℤ pos b) *ℤ pos q) *ℤ pos m ≡ x *ℤ pos (a * (q * m)) -ℤ y *ℤ pos (b * (q * m))
spread_less x y a b q m =
    scaled_twice (x *ℤ pos a -ℤ y *ℤ pos b) q m
    ∙ scaled_difference (x *ℤ pos a) (y *ℤ pos b) (q * m)
    ∙ ap (λ z. z -ℤ (y *ℤ pos b) *ℤ pos (q * m)) (scaled_twice x a (q * m))
    ∙ ap (λ z. x *ℤ pos (a * (q * m)) -ℤ z) (scaled_twice y b (q * m))

spread_sum : (x y : ℤ) (a b q m : ℕ) → ((x *ℤ pos a +ℤ y *ℤ pos b) *ℤ pos q) *ℤ pos m ≡ x *ℤ pos (a * (q * m)) +ℤ y *ℤ pos (b * (q * m))
spread_sum x y a b q m =
    scaled_twice (x *ℤ pos a +ℤ y *ℤ pos b) q m
    ∙ scaled_sum (x *ℤ pos a) (y *ℤ pos b) (q * m)
    ∙ ap (λ z. z +ℤ (y *ℤ pos b) *ℤ pos (q * m)) (scaled_twice x a (q * m))
    ∙ ap (λ z. x *ℤ pos (a * (q * m)) +ℤ z) (scaled_twice y b (q * m))

-- r is s less o, t is o and a, and q is r less a: then q is s less t
in_turn : (sn on an tn rn qn : ℤ) (s o a t r q : ℕ) → 0 < r * a * o → rn *ℤ pos (s * o) ≡ (sn *ℤ pos o -ℤ on *ℤ pos s) *ℤ pos r → tn *ℤ pos (o * a) ≡ (on *ℤ pos a +ℤ an *ℤ pos o) *ℤ pos t → qn *ℤ pos (r * a) ≡ (rn *ℤ pos a -ℤ an *ℤ pos r) *ℤ pos q → qn *ℤ pos (s * t) ≡ (sn *ℤ pos t -ℤ tn *ℤ pos s) *ℤ pos q
in_turn sn on an tn rn qn s o a t r q some first sum second = cancelled _ _ (r * a * o) some (left ∙ same ∙ sym right) where
  once : rn *ℤ pos (a * (q * (s * t * o))) ≡ sn *ℤ pos (o * (r * (a * q * t))) -ℤ on *ℤ pos (s * (r * (a * q * t)))
  once = in_two rn _ (s * o) (a * q * t) (omega arith) ∙ ap (λ z. z *ℤ pos (a * q * t)) first ∙ spread_less sn on o s r (a * q * t)

  left : (qn *ℤ pos (s * t)) *ℤ pos (r * a * o) ≡ (sn *ℤ pos (o * (r * (a * q * t))) -ℤ on *ℤ pos (s * (r * (a * q * t)))) -ℤ an *ℤ pos (r * (q * (s * t * o)))
  left =
      aside qn (s * t) (r * a * o) (r * a) (s * t * o) (omega arith)
      ∙ ap (λ z. z *ℤ pos (s * t * o)) second
      ∙ spread_less rn an a r q (s * t * o)
      ∙ ap (λ z. z -ℤ an *ℤ pos (r * (q * (s * t * o)))) once

  both : tn *ℤ pos (s * (q * (r * a * o))) ≡ on *ℤ pos (a * (t * (s * q * r))) +ℤ an *ℤ pos (o * (t * (s * q * r)))
  both = in_two tn _ (o * a) (s * q * r) (omega arith) ∙ ap (λ z. z *ℤ pos (s * q * r)) sum ∙ spread_sum on an a o t (s * q * r)

  right : ((sn *ℤ pos t -ℤ tn *ℤ pos s) *ℤ pos q) *ℤ pos (r * a * o) ≡ sn *ℤ pos (t * (q * (r * a * o))) -ℤ (on *ℤ pos (a * (t * (s * q * r))) +ℤ an *ℤ pos (o * (t * (s * q * r))))
  right = spread_less sn tn t s q (r * a * o) ∙ ap (λ z. sn *ℤ pos (t * (q * (r * a * o))) -ℤ z) both

  parted : (x y z : ℤ) → (x -ℤ y) -ℤ z ≡ x -ℤ (y +ℤ z)
  parted x y z = omega (arith, ints)

  same : (sn *ℤ pos (o * (r * (a * q * t))) -ℤ on *ℤ pos (s * (r * (a * q * t)))) -ℤ an *ℤ pos (r * (q * (s * t * o))) ≡ sn *ℤ pos (t * (q * (r * a * o))) -ℤ (on *ℤ pos (a * (t * (s * q * r))) +ℤ an *ℤ pos (o * (t * (s * q * r))))
  same =
      let front : o * (r * (a * q * t)) ≡ t * (q * (r * a * o)) = omega arith in
      let middle : s * (r * (a * q * t)) ≡ a * (t * (s * q * r)) = omega arith in
      let back : r * (q * (s * t * o)) ≡ o * (t * (s * q * r)) = omega arith in
      parted (sn *ℤ pos (o * (r * (a * q * t)))) (on *ℤ pos (s * (r * (a * q * t)))) (an *ℤ pos (r * (q * (s * t * o))))
      ∙ ap (λ n. sn *ℤ pos n -ℤ (on *ℤ pos (s * (r * (a * q * t))) +ℤ an *ℤ pos (r * (q * (s * t * o))))) front
      ∙ ap (λ n. sn *ℤ pos (t * (q * (r * a * o))) -ℤ (on *ℤ pos n +ℤ an *ℤ pos (r * (q * (s * t * o))))) middle
      ∙ ap (λ n. sn *ℤ pos (t * (q * (r * a * o))) -ℤ (on *ℤ pos (a * (t * (s * q * r))) +ℤ an *ℤ pos n)) back

-- s is r and o: then r is s less o
there_and_back : (rn on sn : ℤ) (r o s : ℕ) → sn *ℤ pos (r * o) ≡ (rn *ℤ pos o +ℤ on *ℤ pos r) *ℤ pos s → rn *ℤ pos (s * o) ≡ (sn *ℤ pos o -ℤ on *ℤ pos s) *ℤ pos r
there_and_back rn on sn r o s sum = sym (apart ∙ ap (λ z. z -ℤ (on *ℤ pos s) *ℤ pos r) (aside_of ∙ parts) ∙ taken (rn *ℤ pos (s * o)) ((on *ℤ pos s) *ℤ pos r)) where
  apart : (sn *ℤ pos o -ℤ on *ℤ pos s) *ℤ pos r ≡ (sn *ℤ pos o) *ℤ pos r -ℤ (on *ℤ pos s) *ℤ pos r
  apart = scaled_difference (sn *ℤ pos o) (on *ℤ pos s) r

  aside_of : (sn *ℤ pos o) *ℤ pos r ≡ (rn *ℤ pos o +ℤ on *ℤ pos r) *ℤ pos s
  aside_of = scaled_twice sn o r ∙ ap (λ n. sn *ℤ pos n) (omega arith) ∙ sum

  parts : (rn *ℤ pos o +ℤ on *ℤ pos r) *ℤ pos s ≡ rn *ℤ pos (s * o) +ℤ (on *ℤ pos s) *ℤ pos r
  parts =
      scaled_sum (rn *ℤ pos o) (on *ℤ pos r) s
      ∙ ap (λ z. z +ℤ (on *ℤ pos r) *ℤ pos s) (scaled_twice rn o s ∙ ap (λ n. rn *ℤ pos n) (omega arith))
      ∙ ap (λ z. rn *ℤ pos (s * o) +ℤ z) (aside on r s s r (omega arith))

  taken : (x y : ℤ) → (x +ℤ y) -ℤ y ≡ x
  taken x y = omega (arith, ints)

-- a difference of whole numbers is whole
whole_difference : (x y : ℤ) (d e : ℕ) → d ≡ 1 → e ≡ 1 → (x *ℤ pos e -ℤ y *ℤ pos d) *ℤ pos 1 ≡ (x -ℤ y) *ℤ pos (d * e)
whole_difference x y d e p q =
    let product : 1 ≡ d * e = rw (p, q) refl in
    ap (λ n. (x *ℤ pos n -ℤ y *ℤ pos d) *ℤ pos 1) q
    ∙ ap (λ n. (x *ℤ pos 1 -ℤ y *ℤ pos n) *ℤ pos 1) p
    ∙ ap (λ z. z *ℤ pos 1) (sym (scaled_difference x y 1))
    ∙ scaled_twice (x -ℤ y) 1 1
    ∙ ap (λ n. (x -ℤ y) *ℤ pos n) product

module _ {T : Type 0} (ops : Tagging T) (fraction : T → Fraction) (is_value : Fraction → Type 0) (exact : IsExact ops fraction is_value) where
  -- what two amounts leave, their sum leaves
  pub minus_twice : (s o a t r q : T) → ops.minus s o ≡ Some r → ops.plus o a ≡ Some t → ops.minus r a ≡ Some q → ops.minus s t ≡ Some q
  minus_twice s o a t r q first sum second =
      let some = positive _ _ (positive _ _ (exact.denom r) (exact.denom a)) (exact.denom o) in
      let wide = positive _ _ (exact.denom s) (exact.denom t) in
      let same : IsSame (fraction q) (difference_of (fraction s) (fraction t)) =
      in_turn (fraction s).numer (fraction o).numer (fraction a).numer (fraction t).numer (fraction r).numer (fraction q).numer (fraction s).denom (fraction o).denom (fraction a).denom (fraction t).denom (fraction r).denom (fraction q).denom some
      (given ops fraction is_value exact (ops.minus s o) _ r (exact.minus s o) first)
      (given ops fraction is_value exact (ops.plus o a) _ t (exact.plus o a) sum)
      (given ops fraction is_value exact (ops.minus r a) _ q (exact.minus r a) second) in
      let value = exact.same_value (fraction q) (difference_of (fraction s) (fraction t)) (exact.denom q) wide same (difference_value ops fraction is_value exact r a q second) in
      one_answer ops fraction is_value exact (ops.minus s t) (Some q) (difference_of (fraction s) (fraction t)) wide (exact.minus s t) (value, same)

  -- a value and an amount, less the amount, is the value
  pub plus_then_minus : (r o s : T) → is_value (fraction r) → ops.plus r o ≡ Some s → ops.minus s o ≡ Some r
  plus_then_minus r o s known sum =
      let wide = positive _ _ (exact.denom s) (exact.denom o) in
      let same : IsSame (fraction r) (difference_of (fraction s) (fraction o)) =
      there_and_back (fraction r).numer (fraction o).numer (fraction s).numer (fraction r).denom (fraction o).denom (fraction s).denom (given ops fraction is_value exact (ops.plus r o) _ s (exact.plus r o) sum) in
      one_answer ops fraction is_value exact (ops.minus s o) (Some r) (difference_of (fraction s) (fraction o)) wide (exact.minus s o) (exact.same_value (fraction r) _ (exact.denom r) wide same known, same)

  module _ (whole : IsWhole fraction is_value) where
    difference_is : (x a : T) → IsSame (difference_of (fraction x) (fraction a)) (integer ((fraction x).numer -ℤ (fraction a).numer))
    difference_is x a = whole_difference (fraction x).numer (fraction a).numer (fraction x).denom (fraction a).denom (whole.denom x) (whole.denom a)

    value_to : (x a : T) (o : Option T) → Gives fraction is_value o (difference_of (fraction x) (fraction a)) → is_some o ≡ true → is_value (integer ((fraction x).numer -ℤ (fraction a).numer))
    value_to x a None g e = cc
    value_to x a (Some y) g e = exact.same_value _ _ (positive _ _ (exact.denom x) (exact.denom a)) (omega arith) (difference_is x a) g.0

    value_from : (x a : T) (o : Option T) → Gives fraction is_value o (difference_of (fraction x) (fraction a)) → is_value (integer ((fraction x).numer -ℤ (fraction a).numer)) → is_some o ≡ true
    value_from x a (Some y) g v = refl
    value_from x a None g v = absurd (g (exact.same_value _ _ (omega arith) (positive _ _ (exact.denom x) (exact.denom a)) (sym (difference_is x a)) v))

    numer_at_most : (x y : T) → AtMost ops x y → (fraction x).numer ≤ℤ (fraction y).numer
    numer_at_most x y h = unscaled_le _ _ 1 (omega arith) (subst (λ n. ((fraction x).numer *ℤ pos n) ≤ℤ ((fraction y).numer *ℤ pos 1)) (whole.denom y) (subst (λ n. ((fraction x).numer *ℤ pos (fraction y).denom) ≤ℤ ((fraction y).numer *ℤ pos n)) (whole.denom x) (at_most_to ops fraction is_value exact x y h)))

    -- what lies between two whole numbers that have so much to lose has it too
    pub between_has_less : (x y z amount : T) → AtMost ops x y → AtMost ops y z → is_some (ops.minus x amount) ≡ true → is_some (ops.minus z amount) ≡ true → is_some (ops.minus y amount) ≡ true
    between_has_less x y z amount below above h k =
        let lower : ((fraction x).numer -ℤ (fraction amount).numer) ≤ℤ ((fraction y).numer -ℤ (fraction amount).numer) = less_le _ _ _ (numer_at_most x y below) in
        let upper : ((fraction y).numer -ℤ (fraction amount).numer) ≤ℤ ((fraction z).numer -ℤ (fraction amount).numer) = less_le _ _ _ (numer_at_most y z above) in
        value_from y amount (ops.minus y amount) (exact.minus y amount) (whole.between _ _ _ lower upper (value_to x amount (ops.minus x amount) (exact.minus x amount) h) (value_to z amount (ops.minus z amount) (exact.minus z amount) k))
      where
        less_le : (p q r : ℤ) → p ≤ℤ q → (p -ℤ r) ≤ℤ (q -ℤ r)
        less_le p q r h = omega (arith, ints)
