-- What arrivals, grants and removals keep of the tags of marked requests.
use Rattle.std.proofs.Common.{◌≡◌, ℕ, ◌+◌, Bool, true, false, List, [], ◌∷◌, ◌++◌, length, Option, Some, None, refl, sym, subst, inl, inr, arith}
use Rattle.std.specs.Prelude.{ℤ, ◌⊎◌, IfSome, ⊤}
use Rattle.std.specs.List.{AllByRecursion}
use Rattle.std.specs.Cmp.{IsTotalOrder}
use Rattle.std.proofs.lemmas.Cmp.{upto}
use Rattle.dmc_tag.specs.Order.{AtMost}
use Rattle.dmc_tag.specs.Tag.{Fraction, Tagging, IsExact}
use Rattle.dmc_tag.specs.declared.plain.Previous.{Previous}
use Rattle.dmc_tag.specs.declared.plain.QueuedRequest.{QueuedRequest}
use Rattle.dmc_tag.proofs.Upto.{at_most_itself}
use Rattle.dmc_history_laws.proofs.Falling.{Kind, tag_in, slack_in, previous_in, min_under_first, min_not_below}
use Rattle.dmc_history_laws.proofs.Chain.{Mark, earlier, itself, later, least, least_is, least_under, level_of, Ends, Keeps}
use Rattle.dmc_history_laws.proofs.Past.{IsBy, by_under, not_below}
use Rattle.dmc_history_laws.proofs.Pace.{NotBelow}
use Rattle.dmc_history_laws.proofs.Scale.{NotBelow0}

module _ {T : Type 0} (ops : Tagging T) (fraction : T → Fraction) (is_value : Fraction → Type 0) (exact : IsExact ops fraction is_value) (order : IsTotalOrder ops.compare) (q : ℕ) (k : Kind) (hz from : ℕ) where
  abbrev none : T
  none = ops.of_moment 0

  abbrev IsNot0 : T → Type 0
  IsNot0 a = NotBelow0 ops fraction is_value exact a

  abbrev By : T → T → ℤ → Type 0
  By t x m = IsBy ops fraction is_value exact q t x m

  abbrev Requests : Type 0
  Requests = List (QueuedRequest T)

  abbrev the_least : Option T → T → T
  the_least so_far slack = least ops fraction is_value exact order q so_far slack

  abbrev level_at : ℕ → ℕ → ℕ → ℤ
  level_at taken sent back = level_of ops fraction is_value exact order q k hz from taken sent back

  abbrev Ended : Bool → Option T → (tag slack : T) → ℤ → Type 0
  Ended cancelled so_far tag slack m = Ends ops fraction is_value exact order q k hz from 0 cancelled so_far tag slack m

  abbrev pub Kept : ℕ → Option T → Requests → List Mark → Previous T → (sent back : ℕ) → Type 0
  Kept taken so_far rs ms previous sent back = Keeps ops fraction is_value exact order q k hz from taken so_far rs ms previous sent back

  -- ---- the least slack

  least_not_below : (so_far : Option T) (slack : T) → IfSome so_far IsNot0 → IsNot0 slack → IsNot0 (the_least so_far slack)
  least_not_below None slack h s = s
  least_not_below (Some a) slack h s = min_not_below ops fraction is_value exact order a slack h s

  -- it is less, if what it is of is
  least_less : (so_far : Option T) (a b : T) → AtMost ops a b → AtMost ops (the_least so_far a) (the_least so_far b)
  least_less so_far a b h = by (least_is ops fraction is_value exact order q so_far b) where
    by : (the_least so_far b ≡ b) ⊎ (so_far ≡ Some (the_least so_far b)) → AtMost ops (the_least so_far a) (the_least so_far b)
    by (inl e) = subst (AtMost ops (the_least so_far a)) (sym e) (upto order (the_least so_far a) a b (least_under ops fraction is_value exact order q so_far a) h)
    by (inr e) = subst (λ o. AtMost ops (the_least o a) (the_least so_far b)) (sym e) (min_under_first ops fraction is_value exact order (the_least so_far b) a)

  least_since : (x y slack : T) → AtMost ops y x → AtMost ops (the_least (Some y) slack) (the_least (Some x) slack)
  least_since x y slack h = by (least_is ops fraction is_value exact order q (Some x) slack) where
    by : (the_least (Some x) slack ≡ slack) ⊎ (Some x ≡ Some (the_least (Some x) slack)) → AtMost ops (the_least (Some y) slack) (the_least (Some x) slack)
    by (inl e) = subst (AtMost ops (the_least (Some y) slack)) (sym e) (least_under ops fraction is_value exact order q (Some y) slack)
    by (inr e) = let same : x ≡ the_least (Some x) slack = cc in subst (AtMost ops (the_least (Some y) slack)) same (upto order (the_least (Some y) slack) y x (min_under_first ops fraction is_value exact order y slack) h)

  -- ---- tags change, and the levels with them

  module _ (taken other : ℕ) where
    -- a tag that is past a level by something becomes one that is past the other level by as much
    abbrev pub Moves : T → T → Type 0
    Moves t u = (x : T) (sent back : ℕ) → By t x (level_at taken sent back) → By u x (level_at other sent back)

    abbrev pub IsAs : Option T → Option T → Type 0
    IsAs o p = (t : T) → o ≡ Some t → (u : T) × (p ≡ Some u) × Moves t u

    abbrev pub AreAs : Requests → Requests → Type 0
    AreAs [] [] = ⊤
    AreAs [] (z ∷ zs) = ⊥
    AreAs (r ∷ rs) [] = ⊥
    AreAs (r ∷ rs) (z ∷ zs) = IsAs (tag_in k r) (tag_in k z) × (slack_in k z.slack ≡ slack_in k r.slack) × AreAs rs zs

    pub record EndsAs (previous last : Previous T) : Type 0 where
      pub moves : Moves (previous_in k previous) (previous_in k last)
      pub slack : slack_in k last.slack ≡ slack_in k previous.slack
      pub cancelled : last.cancelled ≡ previous.cancelled

    ends_as : (cancelled : Bool) (so_far : Option T) (t u slack : T) (sent back : ℕ) → Moves t u → Ended cancelled so_far t slack (level_at taken sent back) → Ended cancelled so_far u slack (level_at other sent back)
    ends_as true so_far t u slack sent back moves h = moves (the_least so_far slack) sent back h
    ends_as false None t u slack sent back moves h = absurd h
    ends_as false (Some a) t u slack sent back moves h = moves a sent back h

    pub keeps_as : (so_far : Option T) (rs zs : Requests) (ms : List Mark) (previous last : Previous T) (sent back : ℕ) → AreAs rs zs → EndsAs previous last → Kept taken so_far rs ms previous sent back → Kept other so_far zs ms last sent back
    keeps_as so_far [] [] [] previous last sent back are end h =
        subst (λ c. Ended c so_far (previous_in k last) (slack_in k last.slack) (level_at other sent back)) (sym end.cancelled)
        (subst (λ s. Ended previous.cancelled so_far (previous_in k last) s (level_at other sent back)) (sym end.slack)
        (ends_as previous.cancelled so_far (previous_in k previous) (previous_in k last) (slack_in k previous.slack) sent back end.moves h))
    keeps_as so_far [] [] (m ∷ ms) previous last sent back are end h = absurd h
    keeps_as so_far [] (z ∷ zs) ms previous last sent back are end h = absurd are
    keeps_as so_far (r ∷ rs) [] ms previous last sent back are end h = absurd are
    keeps_as so_far (r ∷ rs) (z ∷ zs) [] previous last sent back are end h = absurd h
    keeps_as so_far (r ∷ rs) (z ∷ zs) (earlier ∷ ms) previous last sent back are end h = (h.0, keeps_as None rs zs ms previous last sent back are.2 end h.1)
    keeps_as so_far (r ∷ rs) (z ∷ zs) (itself ∷ ms) previous last sent back are end h =
        let now = are.0 h.1.0 h.1.1 in
        (h.0, (now.0, now.1), subst (λ s. Kept other (Some s) zs ms last sent back) (sym are.1) (keeps_as (Some (slack_in k r.slack)) rs zs ms previous last sent back are.2 end h.2))
    keeps_as so_far (r ∷ rs) (z ∷ zs) (later s b ∷ ms) previous last sent back are end h =
        let now = are.0 h.0.0 h.0.1 in
        subst (λ y. ((t : T) × (tag_in k z ≡ Some t) × By t (the_least so_far y) (level_at other s b)) × Kept other (Some (the_least so_far y)) zs ms last sent back) (sym are.1)
        ((now.0, now.1, now.2 (the_least so_far (slack_in k r.slack)) s b h.0.2), keeps_as (Some (the_least so_far (slack_in k r.slack))) rs zs ms previous last sent back are.2 end h.1)

  -- ---- the least slack so far is less

  ends_since : (x y : T) (cancelled : Bool) (tag slack : T) (m : ℤ) → AtMost ops y x → Ended cancelled (Some x) tag slack m → Ended cancelled (Some y) tag slack m
  ends_since x y true tag slack m le h = by_under ops fraction is_value exact q (the_least (Some x) slack) (the_least (Some y) slack) tag m (least_since x y slack le) h
  ends_since x y false tag slack m le h = by_under ops fraction is_value exact q x y tag m le h

  keeps_since : (taken : ℕ) (x y : T) (rs : Requests) (ms : List Mark) (previous : Previous T) (sent back : ℕ) → AtMost ops y x → Kept taken (Some x) rs ms previous sent back → Kept taken (Some y) rs ms previous sent back
  keeps_since taken x y [] [] previous sent back le h = ends_since x y previous.cancelled (previous_in k previous) (slack_in k previous.slack) (level_at taken sent back) le h
  keeps_since taken x y [] (m ∷ ms) previous sent back le h = absurd h
  keeps_since taken x y (r ∷ rs) [] previous sent back le h = absurd h
  keeps_since taken x y (r ∷ rs) (earlier ∷ ms) previous sent back le h = let e = h.0 in cc
  keeps_since taken x y (r ∷ rs) (itself ∷ ms) previous sent back le h = let e = h.0 in cc
  keeps_since taken x y (r ∷ rs) (later s b ∷ ms) previous sent back le h =
      let less = least_since x y (slack_in k r.slack) le in
      ((h.0.0, h.0.1, by_under ops fraction is_value exact q (the_least (Some x) (slack_in k r.slack)) (the_least (Some y) (slack_in k r.slack)) h.0.0 (level_at taken s b) less h.0.2), keeps_since taken (the_least (Some x) (slack_in k r.slack)) (the_least (Some y) (slack_in k r.slack)) rs ms previous sent back less h.1)

  -- ---- none of those up to a_i waits, or some may

  abbrev pub start : Bool → Option T
  start true = None
  start false = Some none

  start_not_below : (some : Bool) → IfSome (start some) IsNot0
  start_not_below true = tt
  start_not_below false = at_most_itself ops order none

  abbrev pub Slacks : Requests → Type 0
  Slacks rs = AllByRecursion (λ r. IsNot0 (slack_in k r.slack)) rs

  -- ---- the first leaves

  pub keeps_rest : (taken : ℕ) (some : Bool) (r : QueuedRequest T) (rs : Requests) (m : Mark) (ms : List Mark) (previous : Previous T) (sent back : ℕ) → IsNot0 (slack_in k r.slack) → Kept taken (start some) (r ∷ rs) (m ∷ ms) previous sent back → (after : Bool) × Kept taken (start after) rs ms previous sent back
  keeps_rest taken some r rs earlier ms previous sent back slack h = (true, h.1)
  keeps_rest taken some r rs itself ms previous sent back slack h = (false, keeps_since taken (slack_in k r.slack) none rs ms previous sent back slack h.2)
  keeps_rest taken some r rs (later s b) ms previous sent back slack h = (false, keeps_since taken (the_least (start some) (slack_in k r.slack)) none rs ms previous sent back (least_not_below (start some) (slack_in k r.slack) (start_not_below some) slack) h.1)

  -- what is behind a_i is not below its level
  pub first_at : (taken : ℕ) (some : Bool) (r : QueuedRequest T) (rs : Requests) (s b : ℕ) (ms : List Mark) (previous : Previous T) (sent back : ℕ) → IsNot0 (slack_in k r.slack) → Kept taken (start some) (r ∷ rs) (later s b ∷ ms) previous sent back → (t : T) × (tag_in k r ≡ Some t) × NotBelow (fraction t) (level_at taken s b) q
  first_at taken some r rs s b ms previous sent back slack h = (h.0.0, h.0.1, not_below ops fraction is_value exact q h.0.0 (level_at taken s b) (by_under ops fraction is_value exact q (the_least (start some) (slack_in k r.slack)) none h.0.0 (level_at taken s b) (least_not_below (start some) (slack_in k r.slack) (start_not_below some) slack) h.0.2))

  -- ---- all leave

  ends_by : (cancelled : Bool) (so_far : Option T) (tag slack : T) (m : ℤ) → IfSome so_far IsNot0 → IsNot0 slack → Ended cancelled so_far tag slack m → By tag none m
  ends_by true so_far tag slack m some s h = by_under ops fraction is_value exact q (the_least so_far slack) none tag m (least_not_below so_far slack some s) h
  ends_by false None tag slack m some s h = absurd h
  ends_by false (Some a) tag slack m some s h = by_under ops fraction is_value exact q a none tag m some h

  last_by : (taken : ℕ) (so_far : Option T) (rs : Requests) (ms : List Mark) (previous : Previous T) (sent back : ℕ) → IfSome so_far IsNot0 → Slacks rs → IsNot0 (slack_in k previous.slack) → Kept taken so_far rs ms previous sent back → By (previous_in k previous) none (level_at taken sent back)
  last_by taken so_far [] [] previous sent back some slacks left h = ends_by previous.cancelled so_far (previous_in k previous) (slack_in k previous.slack) (level_at taken sent back) some left h
  last_by taken so_far [] (m ∷ ms) previous sent back some slacks left h = absurd h
  last_by taken so_far (r ∷ rs) [] previous sent back some slacks left h = absurd h
  last_by taken so_far (r ∷ rs) (earlier ∷ ms) previous sent back some slacks left h = last_by taken None rs ms previous sent back tt slacks.1 left h.1
  last_by taken so_far (r ∷ rs) (itself ∷ ms) previous sent back some slacks left h = last_by taken (Some (slack_in k r.slack)) rs ms previous sent back slacks.0 slacks.1 left h.2
  last_by taken so_far (r ∷ rs) (later s b ∷ ms) previous sent back some slacks left h = last_by taken (Some (the_least so_far (slack_in k r.slack))) rs ms previous sent back (least_not_below so_far (slack_in k r.slack) some slacks.0) slacks.1 left h.1

  ended_by : (cancelled : Bool) (tag slack : T) (m : ℤ) → By tag none m → Ended cancelled (Some none) tag slack m
  ended_by true tag slack m h = by_under ops fraction is_value exact q none (the_least (Some none) slack) tag m (min_under_first ops fraction is_value exact order none slack) h
  ended_by false tag slack m h = h

  pub keeps_none : (taken : ℕ) (some : Bool) (rs : Requests) (ms : List Mark) (previous : Previous T) (sent back : ℕ) → Slacks rs → IsNot0 (slack_in k previous.slack) → Kept taken (start some) rs ms previous sent back → Kept taken (start false) [] [] previous sent back
  keeps_none taken some rs ms previous sent back slacks left h = ended_by previous.cancelled (previous_in k previous) (slack_in k previous.slack) (level_at taken sent back) (last_by taken (start some) rs ms previous sent back (start_not_below some) slacks left h)

  -- ---- a request arrives

  -- it has this tag, and becomes the previous one
  pub record Comes (r : QueuedRequest T) (previous : Previous T) (t : T) : Type 0 where
    pub tag : tag_in k r ≡ Some t
    pub last : previous_in k previous ≡ t
    pub slack : slack_in k previous.slack ≡ slack_in k r.slack
    pub kept : previous.cancelled ≡ false

  ends_new : (r : QueuedRequest T) (previous : Previous T) (t : T) (so_far : T) (m : ℤ) → Comes r previous t → By t so_far m → Ended previous.cancelled (Some so_far) (previous_in k previous) (slack_in k previous.slack) m
  ends_new r previous t so_far m is h = subst (λ c. Ended c (Some so_far) (previous_in k previous) (slack_in k previous.slack) m) (sym is.kept) (subst (λ z. By z so_far m) (sym is.last) h)

  module _ (taken sent back more : ℕ) (r : QueuedRequest T) (before previous : Previous T) (t : T) (is : Comes r previous t) (steps : (x : T) → By (previous_in k before) x (level_at taken sent back) → By t x (level_at taken (sent + more) back)) (behind : before.cancelled ≡ true → AtMost ops (slack_in k r.slack) (slack_in k before.slack)) where
    abbrev new : Mark
    new = later (sent + more) back

    ends_more : (c : Bool) → before.cancelled ≡ c → (so_far : Option T) → Ended c so_far (previous_in k before) (slack_in k before.slack) (level_at taken sent back) → By t (the_least so_far (slack_in k r.slack)) (level_at taken (sent + more) back)
    ends_more true e so_far h = by_under ops fraction is_value exact q (the_least so_far (slack_in k before.slack)) (the_least so_far (slack_in k r.slack)) t (level_at taken (sent + more) back) (least_less so_far (slack_in k r.slack) (slack_in k before.slack) (behind e)) (steps (the_least so_far (slack_in k before.slack)) h)
    ends_more false e None h = absurd h
    ends_more false e (Some a) h = by_under ops fraction is_value exact q a (the_least (Some a) (slack_in k r.slack)) t (level_at taken (sent + more) back) (min_under_first ops fraction is_value exact order a (slack_in k r.slack)) (steps a h)

    pub keeps_more : (so_far : Option T) (rs : Requests) (ms : List Mark) → Kept taken so_far rs ms before sent back → Kept taken so_far (rs ++ r ∷ []) (ms ++ new ∷ []) previous (sent + more) back
    keeps_more so_far [] [] h =
        let by = ends_more before.cancelled refl so_far h in
        ((t, is.tag, by), ends_new r previous t (the_least so_far (slack_in k r.slack)) (level_at taken (sent + more) back) is by)
    keeps_more so_far [] (m ∷ ms) h = absurd h
    keeps_more so_far (z ∷ rs) [] h = absurd h
    keeps_more so_far (z ∷ rs) (earlier ∷ ms) h = (h.0, keeps_more None rs ms h.1)
    keeps_more so_far (z ∷ rs) (itself ∷ ms) h = (h.0, h.1, keeps_more (Some (slack_in k z.slack)) rs ms h.2)
    keeps_more so_far (z ∷ rs) (later s b ∷ ms) h = (h.0, keeps_more (Some (the_least so_far (slack_in k z.slack))) rs ms h.1)

  -- right after a_i, behind others
  pub keeps_opened : (r : QueuedRequest T) (previous : Previous T) (t : T) (rs : Requests) (ms : List Mark) → Comes r previous t → By t (slack_in k r.slack) (level_at 0 0 0) → length rs ≡ length ms → AllByRecursion (λ m. m ≡ earlier) ms → Kept 0 None (rs ++ r ∷ []) (ms ++ itself ∷ []) previous 0 0
  keeps_opened r previous t [] [] is h size all = (refl, (t, is.tag), ends_new r previous t (slack_in k r.slack) (level_at 0 0 0) is h)
  keeps_opened r previous t [] (m ∷ ms) is h size all = absurd (omega (arith, size))
  keeps_opened r previous t (z ∷ rs) [] is h size all = absurd (omega (arith, size))
  keeps_opened r previous t (z ∷ rs) (m ∷ ms) is h size all = subst (λ n. Kept 0 None (z ∷ (rs ++ r ∷ [])) (n ∷ (ms ++ itself ∷ [])) previous 0 0) (sym all.0) (refl, keeps_opened r previous t rs ms is h (omega (arith, size)) all.1)
