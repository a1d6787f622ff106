-- Sums of tags, and by how much one is past another: on a common scale they are whole numbers.
use Rattle.std.proofs.Common.{◌≡◌, ℕ, zero, suc, ◌+◌, ◌*◌, ◌<◌, ◌≤◌, Bool, true, false, cond, Ok, List, [], ◌∷◌, Option, Some, None, refl, sym, ap, ◌∙◌, subst, arith}
use Rattle.std.specs.Prelude.{ℤ, pos, ◌+ℤ◌, ◌-ℤ◌, ◌*ℤ◌, ◌≤ℤ◌, neg_ℤ, slice_get}
use Rattle.std.specs.Option.{unwrap_or}
use Rattle.std.specs.Ordering.{is_lt, ord_max}
use Rattle.std.specs.Cmp.{IsTotalOrder}
use Rattle.std.proofs.lemmas.Int.{ints}
use Rattle.dmc_tag.specs.Order.{AtMost}
use Rattle.dmc_tag.specs.Outcome.{in_range}
use Rattle.dmc_tag.specs.Rules.{above, next_tag}
use Rattle.dmc_tag.specs.Tag.{Fraction, Tagging, IsExact}
use Rattle.dmc_tag.proofs.Scaled.{scaled_twice, scaled_swapped, scaled_sum, scaled_difference, scaled_negative, scaled_le, unscaled_le, up_scaled, down_scaled}
use Rattle.dmc_tag.proofs.TagOrder.{bound, from_range, not_behind}
use Rattle.dmc_tag.proofs.Upto.{at_most_itself}
use Rattle.dmc_history_laws.proofs.Pace.{IsSpacings, NotBelow, spacing_worth, steps_of}
use Rattle.dmc_history_laws.proofs.Scale.{IsOn, value, scale_of, scale_above_0, on, value_at_most, value_minus, value_plus, value_zero}

spread : (a b c d : ℤ) (k : ℕ) → ((a +ℤ b) -ℤ (c +ℤ d)) *ℤ pos k ≡ (a *ℤ pos k +ℤ b *ℤ pos k) -ℤ (c *ℤ pos k +ℤ d *ℤ pos k)
spread a b c d k =
    scaled_difference (a +ℤ b) (c +ℤ d) k
    ∙ ap (λ z. z -ℤ (c +ℤ d) *ℤ pos k) (scaled_sum a b k)
    ∙ ap (λ z. (a *ℤ pos k +ℤ b *ℤ pos k) -ℤ z) (scaled_sum c d k)

same_le : (a b c d : ℤ) → a ≡ c → b ≡ d → a ≤ℤ b → c ≤ℤ d
same_le a b c d e f h = omega (arith, ints)

module _ {T : Type 0} (ops : Tagging T) (fraction : T → Fraction) (is_value : Fraction → Type 0) (exact : IsExact ops fraction is_value) (q : ℕ) where
  -- a tag on a scale, times the rate
  abbrev pub worth : (w : ℕ) (a : T) → IsOn ops fraction is_value exact w a → ℤ
  worth w a x = value ops fraction is_value exact w a x *ℤ pos q

  -- on another scale
  moved : (w v : ℕ) (a : T) (x : IsOn ops fraction is_value exact w a) (y : IsOn ops fraction is_value exact v a) → worth w a x *ℤ pos v ≡ worth v a y *ℤ pos w
  moved w v a x y =
      let n = (fraction a).numer in
      let d = (fraction a).denom in
      let e : x.units * v ≡ y.units * w = ap (λ k. x.units * k) (sym y.is) ∙ turned x.units d y.units ∙ ap (λ k. y.units * k) x.is in
      scaled_swapped (n *ℤ pos x.units) q v
      ∙ ap (λ z. z *ℤ pos q) (scaled_twice n x.units v ∙ ap (λ k. n *ℤ pos k) e ∙ sym (scaled_twice n y.units w))
      ∙ scaled_swapped (n *ℤ pos y.units) w q
    where
      turned : (a d b : ℕ) → a * (d * b) ≡ b * (d * a)
      turned a d b = omega arith

  abbrev Exceeds : (w : ℕ) (a b c d : T) → IsOn ops fraction is_value exact w a → IsOn ops fraction is_value exact w b → IsOn ops fraction is_value exact w c → IsOn ops fraction is_value exact w d → ℤ → Type 0
  Exceeds w a b c d x y z u m = (m *ℤ pos w) ≤ℤ ((worth w a x +ℤ worth w b y) -ℤ (worth w c z +ℤ worth w d u))

  other_scale : (w v : ℕ) → 0 < w → (a b c d : T) (m : ℤ) (x : IsOn ops fraction is_value exact w a) (y : IsOn ops fraction is_value exact w b) (z : IsOn ops fraction is_value exact w c) (u : IsOn ops fraction is_value exact w d)
      → (x' : IsOn ops fraction is_value exact v a) (y' : IsOn ops fraction is_value exact v b) (z' : IsOn ops fraction is_value exact v c) (u' : IsOn ops fraction is_value exact v d) → Exceeds w a b c d x y z u m → Exceeds v a b c d x' y' z' u' m
  other_scale w v some a b c d m x y z u x' y' z' u' h =
      let here = (worth w a x +ℤ worth w b y) -ℤ (worth w c z +ℤ worth w d u) in
      let there = (worth v a x' +ℤ worth v b y') -ℤ (worth v c z' +ℤ worth v d u') in
      let right : here *ℤ pos v ≡ there *ℤ pos w =
      spread (worth w a x) (worth w b y) (worth w c z) (worth w d u) v
      ∙ ap (λ k. (k +ℤ worth w b y *ℤ pos v) -ℤ (worth w c z *ℤ pos v +ℤ worth w d u *ℤ pos v)) (moved w v a x x')
      ∙ ap (λ k. (worth v a x' *ℤ pos w +ℤ k) -ℤ (worth w c z *ℤ pos v +ℤ worth w d u *ℤ pos v)) (moved w v b y y')
      ∙ ap (λ k. (worth v a x' *ℤ pos w +ℤ worth v b y' *ℤ pos w) -ℤ (k +ℤ worth w d u *ℤ pos v)) (moved w v c z z')
      ∙ ap (λ k. (worth v a x' *ℤ pos w +ℤ worth v b y' *ℤ pos w) -ℤ (worth v c z' *ℤ pos w +ℤ k)) (moved w v d u u')
      ∙ sym (spread (worth v a x') (worth v b y') (worth v c z') (worth v d u') w) in
      unscaled_le (m *ℤ pos v) there w some (same_le _ _ _ _ (scaled_swapped m w v) right (scaled_le (m *ℤ pos w) here v h))

  -- a and b together are past c and d together, by at least m/q
  pub record IsPast (a b c d : T) (m : ℤ) : Type 0 where
    pub le : Exceeds (scale_of ops fraction is_value exact (a ∷ b ∷ c ∷ d ∷ [])) a b c d (on ops fraction is_value exact (a ∷ b ∷ c ∷ d ∷ []) 0 a refl) (on ops fraction is_value exact (a ∷ b ∷ c ∷ d ∷ []) 1 b refl) (on ops fraction is_value exact (a ∷ b ∷ c ∷ d ∷ []) 2 c refl) (on ops fraction is_value exact (a ∷ b ∷ c ∷ d ∷ []) 3 d refl) m

  -- ---- on the scale of some tags

  module _ (all : List T) where
    abbrev pub whole : ℕ
    whole = scale_of ops fraction is_value exact all

    some : 0 < whole
    some = scale_above_0 ops fraction is_value exact all

    abbrev pub at : (i : ℕ) {a : T} → slice_get all i ≡ Some a → ℤ
    at i {a} e = worth whole a (on ops fraction is_value exact all i a e)

    pub past_on : {a b c d : T} {m : ℤ} (i j k l : ℕ) (x : slice_get all i ≡ Some a) (y : slice_get all j ≡ Some b) (z : slice_get all k ≡ Some c) (u : slice_get all l ≡ Some d) → IsPast a b c d m → (m *ℤ pos whole) ≤ℤ ((at i x +ℤ at j y) -ℤ (at k z +ℤ at l u))
    past_on {a} {b} {c} {d} {m} i j k l x y z u h =
        let own = a ∷ b ∷ c ∷ d ∷ [] in
        other_scale (scale_of ops fraction is_value exact own) whole (scale_above_0 ops fraction is_value exact own) a b c d m (on ops fraction is_value exact own 0 a refl) (on ops fraction is_value exact own 1 b refl) (on ops fraction is_value exact own 2 c refl) (on ops fraction is_value exact own 3 d refl) (on ops fraction is_value exact all i a x) (on ops fraction is_value exact all j b y) (on ops fraction is_value exact all k c z) (on ops fraction is_value exact all l d u) h.le

    pub past_from : {a b c d : T} {m : ℤ} (i j k l : ℕ) (x : slice_get all i ≡ Some a) (y : slice_get all j ≡ Some b) (z : slice_get all k ≡ Some c) (u : slice_get all l ≡ Some d) → (m *ℤ pos whole) ≤ℤ ((at i x +ℤ at j y) -ℤ (at k z +ℤ at l u)) → IsPast a b c d m
    past_from {a} {b} {c} {d} {m} i j k l x y z u h =
        let own = a ∷ b ∷ c ∷ d ∷ [] in
        record { le = other_scale whole (scale_of ops fraction is_value exact own) some a b c d m (on ops fraction is_value exact all i a x) (on ops fraction is_value exact all j b y) (on ops fraction is_value exact all k c z) (on ops fraction is_value exact all l d u) (on ops fraction is_value exact own 0 a refl) (on ops fraction is_value exact own 1 b refl) (on ops fraction is_value exact own 2 c refl) (on ops fraction is_value exact own 3 d refl) h }

    pub le_on : {a b : T} (i j : ℕ) (x : slice_get all i ≡ Some a) (y : slice_get all j ≡ Some b) → AtMost ops a b → at i x ≤ℤ at j y
    le_on {a} {b} i j x y h = scaled_le _ _ q (value_at_most ops fraction is_value exact whole some a b (on ops fraction is_value exact all i a x) (on ops fraction is_value exact all j b y) h)

    pub minus_on : {a b d : T} (i j k : ℕ) (x : slice_get all i ≡ Some a) (y : slice_get all j ≡ Some b) (z : slice_get all k ≡ Some d) → ops.minus a b ≡ Some d → at k z ≡ at i x -ℤ at j y
    minus_on {a} {b} {d} i j k x y z e =
        ap (λ n. n *ℤ pos q) (value_minus ops fraction is_value exact whole some a b d (on ops fraction is_value exact all i a x) (on ops fraction is_value exact all j b y) (on ops fraction is_value exact all k d z) e)
        ∙ scaled_difference _ _ q

    pub plus_on : {a b d : T} (i j k : ℕ) (x : slice_get all i ≡ Some a) (y : slice_get all j ≡ Some b) (z : slice_get all k ≡ Some d) → ops.plus a b ≡ Some d → at k z ≡ at i x +ℤ at j y
    plus_on {a} {b} {d} i j k x y z e =
        ap (λ n. n *ℤ pos q) (value_plus ops fraction is_value exact whole some a b d (on ops fraction is_value exact all i a x) (on ops fraction is_value exact all j b y) (on ops fraction is_value exact all k d z) e)
        ∙ scaled_sum _ _ q

    -- as many spacings as that
    pub spacings_on : {amount : T} (i : ℕ) (x : slice_get all i ≡ Some amount) (n : ℕ) → (fraction amount).numer *ℤ pos q ≡ pos n *ℤ pos (fraction amount).denom → at i x ≡ pos (n * whole)
    spacings_on {amount} i x n e =
        let o = on ops fraction is_value exact all i amount x in
        scaled_swapped (fraction amount).numer o.units q
        ∙ ap (λ z. z *ℤ pos o.units) e
        ∙ scaled_twice (pos n) (fraction amount).denom o.units
        ∙ ap (λ w. pos n *ℤ pos w) o.is

    pub zero_on : (i : ℕ) (x : slice_get all i ≡ Some (ops.of_moment 0)) → at i x ≡ pos 0
    zero_on i x =
        ap (λ n. n *ℤ pos q) (value_zero ops fraction is_value exact whole some (on ops fraction is_value exact all i (ops.of_moment 0) x)) ∙ nothing q
      where
        nothing : (d : ℕ) → pos 0 *ℤ pos d ≡ pos 0
        nothing d = omega (arith, ints, up_scaled (pos 0) d, down_scaled (pos 0) d)

    -- less m, and less a part of it
    pub none_on : (pos 0) *ℤ pos whole ≡ pos 0
    none_on = nothing whole where
      nothing : (d : ℕ) → pos 0 *ℤ pos d ≡ pos 0
      nothing d = omega (arith, ints, up_scaled (pos 0) d, down_scaled (pos 0) d)

    pub less_on : (m : ℤ) (n : ℕ) → (m -ℤ pos n) *ℤ pos whole ≡ m *ℤ pos whole -ℤ pos (n * whole)
    less_on m n = scaled_difference m (pos n) whole

    pub more_on : (m : ℤ) (n : ℕ) → (m +ℤ pos n) *ℤ pos whole ≡ m *ℤ pos whole +ℤ pos (n * whole)
    more_on m n = scaled_sum m (pos n) whole

    pub nothing_on : neg_ℤ (pos 0) *ℤ pos whole ≡ pos 0
    nothing_on = none_on

    pub back_on : (n : ℕ) → neg_ℤ (pos n) *ℤ pos whole ≡ neg_ℤ (pos (n * whole))
    back_on n = scaled_negative (pos n) whole

  -- ---- what follows from what

  abbrev none : T
  none = ops.of_moment 0

  -- x has room for a and f together, less n/q
  abbrev pub HasRoom : (x a f : T) (n : ℕ) → Type 0
  HasRoom x a f n = IsPast x none a f (neg_ℤ (pos n))

  -- from x to a is at least as far as from t to u, less n/q
  abbrev pub IsFar : (x a t u : T) (n : ℕ) → Type 0
  IsFar x a t u n = IsPast x u a t (neg_ℤ (pos n))

  -- the tag is past x by m/q
  abbrev pub IsBy : (t x : T) (m : ℤ) → Type 0
  IsBy t x m = IsPast t none x none m

  -- from t to u is at most f, and n/q
  abbrev pub IsWithin : (f t u : T) (n : ℕ) → Type 0
  IsWithin f t u n = IsPast f u t none (neg_ℤ (pos n))

  -- the amount is at most n/q
  abbrev pub IsWorth : (f : T) (n : ℕ) → Type 0
  IsWorth f n = IsPast none none f none (neg_ℤ (pos n))

  -- the amount is taken off a tag and its slack
  pub far_lowered : (amount t u s v : T) → ops.minus t amount ≡ Some u → ops.minus s amount ≡ Some v → IsFar s v t u 0
  far_lowered amount t u s v e f =
      let all = amount ∷ t ∷ u ∷ s ∷ v ∷ [] in
      past_from all 3 2 4 1 refl refl refl refl (by _ _ _ _ _ _ (nothing_on all) (minus_on all 1 0 2 refl refl refl e) (minus_on all 3 0 4 refl refl refl f)) where
        by : (a t u s v m : ℤ) → m ≡ pos 0 → u ≡ t -ℤ a → v ≡ s -ℤ a → m ≤ℤ ((s +ℤ u) -ℤ (v +ℤ t))
        by a t u s v m e f g = omega (arith, ints)

  pub within_lowered : (amount f t u : T) → ops.minus t amount ≡ Some u → AtMost ops amount f → IsWithin f t u 0
  within_lowered amount f t u e h =
      let all = amount ∷ f ∷ t ∷ u ∷ none ∷ [] in
      past_from all 1 3 2 4 refl refl refl refl (by _ _ _ _ _ _ (nothing_on all) (zero_on all 4 refl) (minus_on all 2 0 3 refl refl refl e) (le_on all 0 1 refl refl h)) where
        by : (a f t u o m : ℤ) → m ≡ pos 0 → o ≡ pos 0 → u ≡ t -ℤ a → a ≤ℤ f → m ≤ℤ ((f +ℤ u) -ℤ (t +ℤ o))
        by a f t u o m e n g h = omega (arith, ints)

  -- nothing is taken off
  pub far_itself : (x a t : T) → AtMost ops a x → IsFar x a t t 0
  far_itself x a t h =
      let all = x ∷ a ∷ t ∷ [] in
      past_from all 0 2 1 2 refl refl refl refl (by (at all 0 refl) (at all 1 refl) (at all 2 refl) _ (nothing_on all) (le_on all 1 0 refl refl h)) where
        by : (x a t m : ℤ) → m ≡ pos 0 → a ≤ℤ x → m ≤ℤ ((x +ℤ t) -ℤ (a +ℤ t))
        by x a t m e h = omega (arith, ints)

  pub within_itself : (f t : T) → AtMost ops none f → IsWithin f t t 0
  within_itself f t h =
      let all = f ∷ t ∷ none ∷ [] in
      past_from all 0 1 1 2 refl refl refl refl (by (at all 0 refl) (at all 1 refl) (at all 2 refl) _ (nothing_on all) (zero_on all 2 refl) (le_on all 2 0 refl refl h)) where
        by : (f t o m : ℤ) → m ≡ pos 0 → o ≡ pos 0 → o ≤ℤ f → m ≤ℤ ((f +ℤ t) -ℤ (t +ℤ o))
        by f t o m e n h = omega (arith, ints)

  -- as far as itself
  pub far_same : (t u : T) (n : ℕ) → IsFar t u t u n
  far_same t u n =
      let all = t ∷ u ∷ [] in
      past_from all 0 1 1 0 refl refl refl refl (by (at all 0 refl) (at all 1 refl) _ _ (back_on all n)) where
        by : (t u d : ℤ) (n : ℕ) → d ≡ neg_ℤ (pos n) → d ≤ℤ ((t +ℤ u) -ℤ (u +ℤ t))
        by t u d n e = omega (arith, ints)

  -- one after the other
  pub far_twice : (s v w t u y : T) → IsFar s v t u 0 → IsFar v w u y 0 → IsFar s w t y 0
  far_twice s v w t u y h k =
      let all = s ∷ v ∷ w ∷ t ∷ u ∷ y ∷ [] in
      past_from all 0 5 2 3 refl refl refl refl (by (at all 0 refl) (at all 1 refl) (at all 2 refl) (at all 3 refl) (at all 4 refl) (at all 5 refl) _ (nothing_on all) (past_on all 0 4 1 3 refl refl refl refl h) (past_on all 1 5 2 4 refl refl refl refl k)) where
        by : (s v w t u y m : ℤ) → m ≡ pos 0 → m ≤ℤ ((s +ℤ u) -ℤ (v +ℤ t)) → m ≤ℤ ((v +ℤ y) -ℤ (w +ℤ u)) → m ≤ℤ ((s +ℤ y) -ℤ (w +ℤ t))
        by s v w t u y m e h k = omega (arith, ints)

  pub within_twice : (f c t u y : T) (n : ℕ) → IsWithin f t u 0 → IsWithin c u y 0 → IsWorth c n → IsWithin f t y n
  within_twice f c t u y n h k l =
      let all = f ∷ c ∷ t ∷ u ∷ y ∷ none ∷ [] in
      past_from all 0 4 2 5 refl refl refl refl (by (at all 0 refl) (at all 1 refl) (at all 2 refl) (at all 3 refl) (at all 4 refl) (at all 5 refl) _ _ _ (nothing_on all) (zero_on all 5 refl) (back_on all n) (past_on all 0 3 2 5 refl refl refl refl h) (past_on all 1 4 3 5 refl refl refl refl k) (past_on all 5 5 1 5 refl refl refl refl l)) where
        by : (f c t u y o m d : ℤ) (n : ℕ) → m ≡ pos 0 → o ≡ pos 0 → d ≡ neg_ℤ (pos n) → m ≤ℤ ((f +ℤ u) -ℤ (t +ℤ o)) → m ≤ℤ ((c +ℤ y) -ℤ (u +ℤ o)) → d ≤ℤ ((o +ℤ o) -ℤ (c +ℤ o)) → d ≤ℤ ((f +ℤ y) -ℤ (t +ℤ o))
        by f c t u y o m d n e g i h k l = omega (arith, ints)

  -- what a tag falls by at most has room
  pub far_from : (x a f t u : T) (n k : ℕ) → HasRoom x a f n → IsWithin f t u k → IsFar x a t u (n + k)
  far_from x a f t u n k h l =
      let all = x ∷ a ∷ f ∷ t ∷ u ∷ none ∷ [] in
      let both : (n + k) * whole all ≡ n * whole all + k * whole all = omega arith in
      past_from all 0 4 1 3 refl refl refl refl (by (at all 0 refl) (at all 1 refl) (at all 2 refl) (at all 3 refl) (at all 4 refl) (at all 5 refl) _ _ _ _ _ _ (zero_on all 5 refl) (back_on all n) (back_on all k) (back_on all (n + k)) both (past_on all 0 5 1 2 refl refl refl refl h) (past_on all 2 4 3 5 refl refl refl refl l)) where
        by : (x a f t u o d e b : ℤ) (n k s : ℕ) → o ≡ pos 0 → d ≡ neg_ℤ (pos n) → e ≡ neg_ℤ (pos k) → b ≡ neg_ℤ (pos s) → s ≡ n + k → d ≤ℤ ((x +ℤ o) -ℤ (a +ℤ f)) → e ≤ℤ ((f +ℤ u) -ℤ (t +ℤ o)) → b ≤ℤ ((x +ℤ u) -ℤ (a +ℤ t))
        by x a f t u o d e b n k s p q r v w h l = omega (arith, ints)

  -- so the request behind has room for what this one fell by
  pub room_behind : (x a t u : T) (n : ℕ) → AtMost ops u t → IsFar x a t u n → HasRoom x a (above ops t u) n
  room_behind x a t u n under h = by (ops.minus t u) refl where
    by : (o : Option T) → ops.minus t u ≡ o → HasRoom x a (unwrap_or o none) n
    by (Some f) e =
        let all = x ∷ a ∷ t ∷ u ∷ f ∷ none ∷ [] in
        past_from all 0 5 1 4 refl refl refl refl (less _ _ _ _ _ _ _ (zero_on all 5 refl) (minus_on all 2 3 4 refl refl refl e) (past_on all 0 3 1 2 refl refl refl refl h)) where
          less : (x a t u f o d : ℤ) → o ≡ pos 0 → f ≡ t -ℤ u → d ≤ℤ ((x +ℤ u) -ℤ (a +ℤ t)) → d ≤ℤ ((x +ℤ o) -ℤ (a +ℤ f))
          less x a t u f o d e g h = omega (arith, ints)
    by None e =
        let all = x ∷ a ∷ t ∷ u ∷ none ∷ [] in
        past_from all 0 4 1 4 refl refl refl refl (less _ _ _ _ _ _ (zero_on all 4 refl) (le_on all 3 2 refl refl under) (past_on all 0 3 1 2 refl refl refl refl h)) where
          less : (x a t u o d : ℤ) → o ≡ pos 0 → u ≤ℤ t → d ≤ℤ ((x +ℤ u) -ℤ (a +ℤ t)) → d ≤ℤ ((x +ℤ o) -ℤ (a +ℤ o))
          less x a t u o d e g h = omega (arith, ints)

  pub room_itself : (x : T) → HasRoom x x none 0
  room_itself x =
      let all = x ∷ none ∷ [] in
      past_from all 0 1 0 1 refl refl refl refl (by (at all 0 refl) (at all 1 refl) _ (nothing_on all)) where
        by : (x o m : ℤ) → m ≡ pos 0 → m ≤ℤ ((x +ℤ o) -ℤ (x +ℤ o))
        by x o m e = omega (arith, ints)

  -- the tag is past a by as much, less n/q
  pub by_after : (x a t u : T) (m : ℤ) (n : ℕ) → IsFar x a t u n → IsBy t x m → IsBy u a (m -ℤ pos n)
  by_after x a t u m n h k =
      let all = x ∷ a ∷ t ∷ u ∷ none ∷ [] in
      past_from all 3 4 1 4 refl refl refl refl (less (at all 0 refl) (at all 1 refl) (at all 2 refl) (at all 3 refl) (at all 4 refl) _ _ _ _ (zero_on all 4 refl) (back_on all n) (less_on all m n) (past_on all 0 3 1 2 refl refl refl refl h) (past_on all 2 4 0 4 refl refl refl refl k)) where
        less : (x a t u o d m b : ℤ) (n : ℕ) → o ≡ pos 0 → d ≡ neg_ℤ (pos n) → b ≡ m -ℤ pos n → d ≤ℤ ((x +ℤ u) -ℤ (a +ℤ t)) → m ≤ℤ ((t +ℤ o) -ℤ (x +ℤ o)) → b ≤ℤ ((u +ℤ o) -ℤ (a +ℤ o))
        less x a t u o d m b n e g i h k = omega (arith, ints)

  pub by_itself : (t : T) (m : ℤ) → m ≤ℤ pos 0 → IsBy t t m
  by_itself t m le =
      let all = t ∷ none ∷ [] in
      past_from all 0 1 0 1 refl refl refl refl (by (at all 0 refl) (at all 1 refl) _ _ (scaled_le m (pos 0) (whole all) le) (none_on all)) where
        by : (t o m z : ℤ) → m ≤ℤ z → z ≡ pos 0 → m ≤ℤ ((t +ℤ o) -ℤ (t +ℤ o))
        by t o m z h e = omega (arith, ints)

  -- and past what is less
  pub far_under : (x a b t u : T) (n : ℕ) → AtMost ops b a → IsFar x a t u n → IsFar x b t u n
  far_under x a b t u n under h =
      let all = x ∷ a ∷ b ∷ t ∷ u ∷ [] in
      past_from all 0 4 2 3 refl refl refl refl (less (at all 0 refl) (at all 1 refl) (at all 2 refl) (at all 3 refl) (at all 4 refl) _ (le_on all 2 1 refl refl under) (past_on all 0 4 1 3 refl refl refl refl h)) where
        less : (x a b t u d : ℤ) → b ≤ℤ a → d ≤ℤ ((x +ℤ u) -ℤ (a +ℤ t)) → d ≤ℤ ((x +ℤ u) -ℤ (b +ℤ t))
        less x a b t u d g h = omega (arith, ints)

  pub by_under : (x y t : T) (m : ℤ) → AtMost ops y x → IsBy t x m → IsBy t y m
  by_under x y t m under h =
      let all = x ∷ y ∷ t ∷ none ∷ [] in
      past_from all 2 3 1 3 refl refl refl refl (less (at all 0 refl) (at all 1 refl) (at all 2 refl) (at all 3 refl) _ (le_on all 1 0 refl refl under) (past_on all 2 3 0 3 refl refl refl refl h)) where
        less : (x y t o m : ℤ) → y ≤ℤ x → m ≤ℤ ((t +ℤ o) -ℤ (x +ℤ o)) → m ≤ℤ ((t +ℤ o) -ℤ (y +ℤ o))
        less x y t o m g h = omega (arith, ints)

  pub by_less : (x t : T) (m k : ℤ) → k ≤ℤ m → IsBy t x m → IsBy t x k
  by_less x t m k le h =
      let all = x ∷ t ∷ none ∷ [] in
      past_from all 1 2 0 2 refl refl refl refl (less (at all 0 refl) (at all 1 refl) (at all 2 refl) _ _ (scaled_le k m (whole all) le) (past_on all 1 2 0 2 refl refl refl refl h)) where
        less : (x t o m k : ℤ) → k ≤ℤ m → m ≤ℤ ((t +ℤ o) -ℤ (x +ℤ o)) → k ≤ℤ ((t +ℤ o) -ℤ (x +ℤ o))
        less x t o m k g h = omega (arith, ints)

  pub far_less : (x a t u : T) (n k : ℕ) → n ≤ k → IsFar x a t u n → IsFar x a t u k
  far_less x a t u n k le h =
      let all = x ∷ a ∷ t ∷ u ∷ [] in
      past_from all 0 3 1 2 refl refl refl refl (less (at all 0 refl) (at all 1 refl) (at all 2 refl) (at all 3 refl) _ _ (scaled_le _ _ (whole all) (turned n k le)) (past_on all 0 3 1 2 refl refl refl refl h)) where
        turned : (n k : ℕ) → n ≤ k → neg_ℤ (pos k) ≤ℤ neg_ℤ (pos n)
        turned n k h = omega (arith, ints)

        less : (x a t u d e : ℤ) → e ≤ℤ d → d ≤ℤ ((x +ℤ u) -ℤ (a +ℤ t)) → e ≤ℤ ((x +ℤ u) -ℤ (a +ℤ t))
        less x a t u d e g h = omega (arith, ints)

  -- ---- a tag against a part of the rate

  units_above_0 : (d u w : ℕ) → 0 < w → d * u ≡ w → 0 < u
  units_above_0 d zero w h e = let none : d * 0 ≡ 0 = omega arith in absurd (omega (arith, h, e, none))
  units_above_0 d (suc u) w h e = omega arith

  pub not_below : (t : T) (m : ℤ) → IsBy t none m → NotBelow (fraction t) m q
  not_below t m h =
      let all = t ∷ none ∷ [] in
      let o = on ops fraction is_value exact all 0 t refl in
      let n = (fraction t).numer in
      let d = (fraction t).denom in
      let le = by (at all 0 refl) (at all 1 refl) _ (zero_on all 1 refl) (past_on all 0 1 1 1 refl refl refl refl h) in
      record { le = unscaled_le _ _ o.units (units_above_0 d o.units (whole all) (some all) o.is) (same_le _ _ _ _ (ap (λ w. m *ℤ pos w) (sym o.is) ∙ sym (scaled_twice m d o.units)) (scaled_swapped n o.units q) le) }
    where
      by : (t o m : ℤ) → o ≡ pos 0 → m ≤ℤ ((t +ℤ o) -ℤ (o +ℤ o)) → m ≤ℤ t
      by t o m e h = omega (arith, ints)

  pub from_not_below : (t : T) (m : ℤ) → NotBelow (fraction t) m q → IsBy t none m
  from_not_below t m h =
      let all = t ∷ none ∷ [] in
      let o = on ops fraction is_value exact all 0 t refl in
      let n = (fraction t).numer in
      let d = (fraction t).denom in
      past_from all 0 1 1 1 refl refl refl refl (by (at all 0 refl) (at all 1 refl) _ (zero_on all 1 refl) (same_le _ _ _ _ (scaled_twice m d o.units ∙ ap (λ w. m *ℤ pos w) o.is) (sym (scaled_swapped n o.units q)) (scaled_le _ _ o.units h.le)))
    where
      by : (t o m : ℤ) → o ≡ pos 0 → m ≤ℤ t → m ≤ℤ ((t +ℤ o) -ℤ (o +ℤ o))
      by t o m e h = omega (arith, ints)

  -- what is at most as far as the tag is past a moment
  pub by_above : (t now s : T) (m : ℤ) → NotBelow (fraction now) m q → AtMost ops now t → AtMost ops s (above ops t now) → IsBy t s m
  by_above t now s m from h k = by (ops.minus t now) refl k where
    by : (o : Option T) → ops.minus t now ≡ o → AtMost ops s (unwrap_or o none) → IsBy t s m
    by (Some d) e k =
        let all = t ∷ now ∷ s ∷ d ∷ none ∷ [] in
        past_from all 0 4 2 4 refl refl refl refl (less (at all 0 refl) (at all 1 refl) (at all 2 refl) (at all 3 refl) (at all 4 refl) _ (zero_on all 4 refl) (minus_on all 0 1 3 refl refl refl e) (le_on all 2 3 refl refl k) (past_on all 1 4 4 4 refl refl refl refl (from_not_below now m from))) where
          less : (t n s d o m : ℤ) → o ≡ pos 0 → d ≡ t -ℤ n → s ≤ℤ d → m ≤ℤ ((n +ℤ o) -ℤ (o +ℤ o)) → m ≤ℤ ((t +ℤ o) -ℤ (s +ℤ o))
          less t n s d o m e f h k = omega (arith, ints)
    by None e k =
        let all = t ∷ now ∷ s ∷ none ∷ [] in
        past_from all 0 3 2 3 refl refl refl refl (less (at all 0 refl) (at all 1 refl) (at all 2 refl) (at all 3 refl) _ (zero_on all 3 refl) (le_on all 1 0 refl refl h) (le_on all 2 3 refl refl k) (past_on all 1 3 3 3 refl refl refl refl (from_not_below now m from))) where
          less : (t n s o m : ℤ) → o ≡ pos 0 → n ≤ℤ t → s ≤ℤ o → m ≤ℤ ((n +ℤ o) -ℤ (o +ℤ o)) → m ≤ℤ ((t +ℤ o) -ℤ (s +ℤ o))
          less t n s o m e f h k = omega (arith, ints)

  -- ---- spacings are added, or taken off

  pub by_taken : (amount t u x : T) (m : ℤ) (hz cost : ℕ) → IsSpacings ops hz q cost amount → ops.minus t amount ≡ Some u → IsBy t x m → IsBy u x (m -ℤ pos (hz * cost))
  by_taken amount t u x m hz cost is e h =
      let all = amount ∷ t ∷ u ∷ x ∷ none ∷ [] in
      let worth = steps_of ops fraction is_value exact hz q cost is.spacing amount (spacing_worth ops fraction is_value exact hz q is.spacing is.spaced) is.steps in
      past_from all 2 4 3 4 refl refl refl refl (less (at all 0 refl) (at all 1 refl) (at all 2 refl) (at all 3 refl) (at all 4 refl) _ _ _ (zero_on all 4 refl) (spacings_on all 0 refl (hz * cost) worth) (less_on all m (hz * cost)) (minus_on all 1 0 2 refl refl refl e) (past_on all 1 4 3 4 refl refl refl refl h))
    where
      less : (a t u x o m b : ℤ) (n : ℕ) → o ≡ pos 0 → a ≡ pos n → b ≡ m -ℤ pos n → u ≡ t -ℤ a → m ≤ℤ ((t +ℤ o) -ℤ (x +ℤ o)) → b ≤ℤ ((u +ℤ o) -ℤ (x +ℤ o))
      less a t u x o m b n e f g h k = omega (arith, ints)

  pub worth_none : (n : ℕ) → IsWorth none n
  worth_none n =
      let all = none ∷ [] in
      past_from all 0 0 0 0 refl refl refl refl (by (at all 0 refl) _ _ (zero_on all 0 refl) (back_on all n)) where
        by : (o d : ℤ) (n : ℕ) → o ≡ pos 0 → d ≡ neg_ℤ (pos n) → d ≤ℤ ((o +ℤ o) -ℤ (o +ℤ o))
        by o d n e f = omega (arith, ints)

  pub worth_spacings : (amount : T) (hz cost : ℕ) → IsSpacings ops hz q cost amount → IsWorth amount (hz * cost)
  worth_spacings amount hz cost is =
      let all = amount ∷ none ∷ [] in
      let worth = steps_of ops fraction is_value exact hz q cost is.spacing amount (spacing_worth ops fraction is_value exact hz q is.spacing is.spaced) is.steps in
      past_from all 1 1 0 1 refl refl refl refl (by (at all 0 refl) (at all 1 refl) _ _ (zero_on all 1 refl) (spacings_on all 0 refl (hz * cost) worth) (back_on all (hz * cost))) where
        by : (a o d : ℤ) (n : ℕ) → o ≡ pos 0 → a ≡ pos n → d ≡ neg_ℤ (pos n) → d ≤ℤ ((o +ℤ o) -ℤ (a +ℤ o))
        by a o d n e f g = omega (arith, ints)

  pub by_next : (order : IsTotalOrder ops.compare) (previous spacing tag t x : T) (m : ℤ) (hz count : ℕ) → ops.spacing hz q ≡ Some spacing → next_tag ops previous count spacing t ≡ Ok tag → IsBy previous x m → IsBy tag x (m +ℤ pos (hz * count))
  by_next order previous spacing tag t x m hz count spaced e h =
      let step = bound (in_range (ops.steps spacing count)) _ tag e in
      let sum = bound (in_range (ops.plus previous step.0)) _ tag step.2 in
      let worth = steps_of ops fraction is_value exact hz q count spacing step.0 (spacing_worth ops fraction is_value exact hz q spacing spaced) (from_range _ _ step.1) in
      let tag_is : ord_max ops.compare sum.0 t ≡ tag = cc (sum.2) in
      subst (λ z. IsBy z x (m +ℤ pos (hz * count))) tag_is (by step.0 sum.0 worth (from_range _ _ sum.1) (first sum.0 (is_lt (ops.compare t sum.0)) refl))
    where
      first : (sum : T) (b : Bool) → is_lt (ops.compare t sum) ≡ b → AtMost ops sum (cond b sum t)
      first sum true e = at_most_itself ops order sum
      first sum false e = not_behind ops fraction is_value exact order sum t _ refl e

      more : (p a u t x o m b : ℤ) (n : ℕ) → o ≡ pos 0 → a ≡ pos n → b ≡ m +ℤ pos n → u ≡ p +ℤ a → u ≤ℤ t → m ≤ℤ ((p +ℤ o) -ℤ (x +ℤ o)) → b ≤ℤ ((t +ℤ o) -ℤ (x +ℤ o))
      more p a u t x o m b n e f g h k l = omega (arith, ints)

      by : (amount sum : T) → (fraction amount).numer *ℤ pos q ≡ pos (hz * count) *ℤ pos (fraction amount).denom → ops.plus previous amount ≡ Some sum → AtMost ops sum (ord_max ops.compare sum t) → IsBy (ord_max ops.compare sum t) x (m +ℤ pos (hz * count))
      by amount sum worth plus under =
          let last = ord_max ops.compare sum t in
          let all = previous ∷ amount ∷ sum ∷ last ∷ x ∷ none ∷ [] in
          past_from all 3 5 4 5 refl refl refl refl (more (at all 0 refl) (at all 1 refl) (at all 2 refl) (at all 3 refl) (at all 4 refl) (at all 5 refl) _ _ _ (zero_on all 5 refl) (spacings_on all 1 refl (hz * count) worth) (more_on all m (hz * count)) (plus_on all 0 1 2 refl refl refl plus) (le_on all 2 3 refl refl under) (past_on all 0 5 4 5 refl refl refl refl h))
