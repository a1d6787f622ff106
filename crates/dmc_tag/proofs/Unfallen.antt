-- A tag stays as it is behind one that did not fall.
use Rattle.std.proofs.Common.{◌≡◌, ℕ, ◌*◌, Bool, true, false, cond, Option, Some, None, refl, sym, ap, ◌∙◌, subst, arith}
use Rattle.std.specs.Prelude.{ℤ, pos, ◌-ℤ◌, ◌*ℤ◌, is_some, ◌&&◌, if◌then◌else◌, ⊤}
use Rattle.std.specs.Cmp.{IsTotalOrder}
use Rattle.std.specs.Option.{unwrap_or}
use Rattle.std.specs.Ordering.{is_gt, is_lt, ord_min, ordering_reverse}
use Rattle.std.specs.declared.cmp.Ordering.{Ordering}
use Rattle.std.specs.declared.cmp.Ordering.TheVariants.{Less, Equal, Greater}
use Rattle.std.proofs.lemmas.Int.{ints}
use Rattle.dmc_tag.specs.Cancel.{lower, fall_of, behind, fallen, level}
use Rattle.dmc_tag.specs.Order.{AtMost}
use Rattle.dmc_tag.specs.Rules.{above, less, has_less}
use Rattle.dmc_tag.specs.Tag.{Fraction, Tagging, IsExact, IsSame, difference_of}
use Rattle.dmc_tag.specs.declared.cancel.Before.{Before}
use Rattle.dmc_tag.specs.declared.cancel.Level.{Level}
use Rattle.dmc_tag.proofs.Scaled.{zero_of}
use Rattle.dmc_tag.proofs.TagOrder.{positive, given}
use Rattle.dmc_tag.proofs.TagValues.{same_less, one_tag}

-- a tag that is as it was, of a request that stays
abbrev pub IsUnfallen : {T : Type 0} → Option (Before T) → Type 0
IsUnfallen None = ⊤
IsUnfallen (Some before) = (before.was ≡ before.level.tag) × (before.cancelled ≡ false)

module _ {T : Type 0} (ops : Tagging T) (fraction : T → Fraction) (is_value : Fraction → Type 0) (exact : IsExact ops fraction is_value) where
  abbrev zero_tag : T
  zero_tag = ops.of_moment 0

  -- a tag less nothing is itself
  less_nothing : (a : T) → less ops zero_tag a ≡ a
  less_nothing a = at (ops.minus a zero_tag) refl where
    at : (o : Option T) → ops.minus a zero_tag ≡ o → unwrap_or o a ≡ a
    at None e = refl
    at (Some x) e =
        one_tag ops fraction is_value exact x a (difference_of (fraction a) (fraction zero_tag)) (positive _ _ (exact.denom a) (exact.denom zero_tag))
        (given ops fraction is_value exact (ops.minus a zero_tag) _ x (exact.minus a zero_tag) e) (same_less ops fraction is_value exact a)

  -- a tag less itself is nothing
  no_difference : (a : T) → IsSame (fraction zero_tag) (difference_of (fraction a) (fraction a))
  no_difference a =
      let z = fraction zero_tag in
      let f = fraction a in
      let none : z.numer ≡ pos 0 = zero_of z.numer z.denom (exact.of_moment 0) in
      let nothing : f.numer *ℤ pos f.denom -ℤ f.numer *ℤ pos f.denom ≡ pos 0 = taken (f.numer *ℤ pos f.denom) in
      ap (λ n. n *ℤ pos (f.denom * f.denom)) none ∙ no_times (f.denom * f.denom) ∙ sym (ap (λ n. n *ℤ pos z.denom) nothing ∙ no_times z.denom)
    where
      no_times : (d : ℕ) → pos 0 *ℤ pos d ≡ pos 0
      no_times d = let e : 0 * d ≡ 0 = omega arith in ap pos e

      taken : (x : ℤ) → x -ℤ x ≡ pos 0
      taken x = omega (arith, ints)

  above_itself : (a : T) → above ops a a ≡ zero_tag
  above_itself a = at (ops.minus a a) refl where
    at : (o : Option T) → ops.minus a a ≡ o → unwrap_or o zero_tag ≡ zero_tag
    at None e = refl
    at (Some x) e =
        one_tag ops fraction is_value exact x zero_tag (difference_of (fraction a) (fraction a)) (positive _ _ (exact.denom a) (exact.denom a))
        (given ops fraction is_value exact (ops.minus a a) _ x (exact.minus a a) e) (no_difference a)

  -- a level less nothing is itself
  lower_nothing : (l : Level T) → lower ops zero_tag l ≡ l
  lower_nothing l = at (has_less ops zero_tag l.tag && has_less ops zero_tag l.slack) where
    at : (b : Bool) → (if b then level (less ops zero_tag l.tag) (less ops zero_tag l.slack) else l) ≡ l
    at true = ap (λ tag. level tag (less ops zero_tag l.slack)) (less_nothing l.tag) ∙ ap (level l.tag) (less_nothing l.slack)
    at false = refl

  module _ (order : IsTotalOrder ops.compare) where
    least_nothing : (slack : T) → AtMost ops zero_tag slack → ord_min ops.compare zero_tag slack ≡ zero_tag
    least_nothing slack h = ap (λ b. cond b slack zero_tag) (not_less (ops.compare zero_tag slack) (ops.compare slack zero_tag) (order.antisymm slack zero_tag) h) where
      not_less : (r s : Ordering) → s ≡ ordering_reverse r → is_gt r ≡ false → is_lt s ≡ false
      not_less Less s e g = ap is_lt e
      not_less Equal s e g = ap is_lt e
      not_less Greater s e g = cc

    falls_by_nothing : (before : Option (Before T)) (l : Level T) → fall_of ops before ≡ zero_tag → AtMost ops zero_tag l.slack → lower ops (ord_min ops.compare (fall_of ops before) l.slack) l ≡ l
    falls_by_nothing before l e h = ap (λ fall. lower ops (ord_min ops.compare fall l.slack) l) e ∙ ap (λ amount. lower ops amount l) (least_nothing l.slack h) ∙ lower_nothing l

    -- so is the level behind it, if its slack is not below 0
    pub unfallen_behind : (before : Option (Before T)) (l : Level T) → IsUnfallen before → AtMost ops zero_tag l.slack → fallen ops before l ≡ l
    unfallen_behind None l is h = falls_by_nothing None l refl h
    unfallen_behind (Some before) l is h =
        let fall : fall_of ops (Some before) ≡ zero_tag = ap (λ tag. above ops tag before.level.tag) is.0 ∙ above_itself before.level.tag in
        ap (behind ops (Some before)) (falls_by_nothing (Some before) l fall h) ∙ stays before.cancelled is.1
      where
        stays : (c : Bool) → c ≡ false → level l.tag (if c then ord_min ops.compare before.level.slack l.slack else l.slack) ≡ l
        stays true e = cc
        stays false e = refl
