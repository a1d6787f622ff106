-- Nobody who asks all the time has a debt, whatever is taken back.
use Rattle.std.proofs.Common.{◌≡◌, ℕ, suc, ◌+◌, ◌*◌, ◌<◌, ◌≤◌, Bool, true, false, List, [], ◌∷◌, ◌++◌, length, drop, take, Option, Some, None, refl, sym, ap, ◌∙◌, subst, arith, ⊎_elim}
use Rattle.std.specs.Prelude.{ℤ, pos, ◌+ℤ◌, ◌-ℤ◌, ◌*ℤ◌, ◌≤ℤ◌, IfSome, min, slice_get, if◌then◌else◌}
use Rattle.std.specs.Option.{option_map, option_map_or}
use Rattle.std.specs.Cmp.{IsTotalOrder}
use Rattle.std.proofs.lemmas.Bool.{cases_lt}
use Rattle.std.proofs.lemmas.Int.{ints}
use Rattle.dmc_types.specs.Values.{Setting}
use Rattle.dmc_types.specs.declared.ids.ClientId.{ClientId}
use Rattle.dmc_types.specs.declared.config.Shares.TheVariants.{Virtual}
use Rattle.dmc_types.specs.declared.command.Command.{Command}
use Rattle.dmc_types.specs.declared.command.Command.TheVariants.{Pull}
use Rattle.dmc_tag.specs.Replay.{replays}
use Rattle.dmc_tag.specs.Rules as rules_of
use Rattle.dmc_tag.specs.State.{State, PlainClient, client_named}
use Rattle.dmc_tag.specs.Step.{step}
use Rattle.dmc_tag.specs.Tag.{Fraction, Tagging, IsExact}
use Rattle.dmc_tag.specs.declared.event.Event.{Event}
use Rattle.dmc_tag.specs.declared.plain.Previous.{Previous}
use Rattle.dmc_tag.specs.declared.plain.QueuedRequest.{QueuedRequest}
use Rattle.dmc_tag.proofs.Ids.{itself_id}
use Rattle.dmc_tag.proofs.Scaled.{scaled_twice, scaled_swapped, scaled_difference, scaled_sum, scaled_le, unscaled_le}
use Rattle.dmc_tag.proofs.TagOrder.{at_most_to, positive}
use Rattle.dmc_history_laws.specs.Bounds.{Arrival, Arrives, IsFirstThatWaits, Keeps, Numbered, arrival_of, arrivals, cost_between, departed, sum_of}
use Rattle.dmc_history_laws.specs.Shares.{HasWeight, IsAtMost, IsFirst, NoDebtWithCancels, WaitingCompetes, before, last_arrived, spaced_after}
use Rattle.dmc_history_laws.proofs.Parts.{arrival_is, earlier as earlier_at, kept_at}
use Rattle.dmc_history_laws.proofs.Apart.{Apart, level_of}
use Rattle.dmc_history_laws.proofs.Asking.{grants_under}
use Rattle.dmc_history_laws.proofs.Becomes.{AreLike, step_becomes}
use Rattle.dmc_history_laws.proofs.ByNumber.{all, arrived, arrived_next, asked_by_then, back, comes_next, counted_by, reaches, those}
use Rattle.dmc_history_laws.proofs.Chain.{earlier, itself, later}
use Rattle.dmc_history_laws.proofs.Counted.{IsCounted, Next}
use Rattle.dmc_history_laws.proofs.Credit.{Sound, sound_before, step_at}
use Rattle.dmc_history_laws.proofs.Joined.{arrivals_grow, joined_at, weight_of}
use Rattle.dmc_history_laws.proofs.Given.{AreBelow, mark_before, mark_itself, mark_later, mark_of, marks_of, sum_none}
use Rattle.dmc_history_laws.proofs.Pace.{NotBelow, raised}
use Rattle.dmc_history_laws.proofs.Past.{IsBy, by_itself, past_on, zero_on}
use Rattle.dmc_history_laws.proofs.Scale.{on, scale_of, scale_above_0}
use Rattle.dmc_history_laws.proofs.Spaced.{IsUpTo}
use Rattle.dmc_history_laws.proofs.StillAsking.{IsNumber, first_is_at, upward}
use Rattle.dmc_history_laws.proofs.Weights.{IsApartClient, IsApartIn, leaves, opens, step_goes}

-- ---- fractions

-- what is so many spacings after the lesser of two is not after what is as many after the other
after_both : (hz w n : ℕ) (f g : Fraction) → IsAtMost f g → IsAtMost (spaced_after hz w n f) (spaced_after hz w n g)
after_both hz w n f g h =
    same_le _ _ _ _ (turned f.numer g.denom w (n * hz * f.denom) (n * hz * f.denom * (g.denom * w)) refl) (turned g.numer f.denom w (n * hz * g.denom) (n * hz * f.denom * (g.denom * w)) (omega arith))
    (plus (f.numer *ℤ pos g.denom *ℤ pos (w * w)) (g.numer *ℤ pos f.denom *ℤ pos (w * w)) (n * hz * f.denom * (g.denom * w)) (scaled_le _ _ (w * w) h))
  where
    spread : (z : ℤ) (a w d : ℕ) → (z *ℤ pos w +ℤ pos a) *ℤ pos d ≡ (z *ℤ pos w) *ℤ pos d +ℤ pos (a * d)
    spread z a w d = scaled_sum (z *ℤ pos w) (pos a) d

    same_le : (a b c d : ℤ) → a ≡ c → b ≡ d → a ≤ℤ b → c ≤ℤ d
    same_le a b c d e f h = omega (arith, ints)

    plus : (a b : ℤ) (n : ℕ) → a ≤ℤ b → (a +ℤ pos n) ≤ℤ (b +ℤ pos n)
    plus a b n h = omega (arith, ints)

    turned : (z : ℤ) (d w a n : ℕ) → n ≡ a * (d * w) → (z *ℤ pos d) *ℤ pos (w * w) +ℤ pos n ≡ (z *ℤ pos w +ℤ pos a) *ℤ pos (d * w)
    turned z d w a n e =
        let same : d * (w * w) ≡ w * (d * w) = omega arith in
        ap (λ m. (z *ℤ pos d) *ℤ pos (w * w) +ℤ pos m) e
        ∙ ap (λ y. y +ℤ pos (a * (d * w))) (scaled_twice z d (w * w) ∙ ap (λ m. z *ℤ pos m) same ∙ sym (scaled_twice z w (d * w)))
        ∙ sym (spread z a w (d * w))

module _ {T : Type 0} (ops : Tagging T) (fraction : T → Fraction) (is_value : Fraction → Type 0) (exact : IsExact ops fraction is_value) (order : IsTotalOrder ops.compare) (hz w : ℕ) where
  -- y is past x by what was sent, less what was given back
  past_spaced : (x y : T) (sent back : ℕ) → IsBy ops fraction is_value exact w y x (level_of ops fraction is_value exact order w hz sent back) → NotBelow (spaced_after hz w back (fraction y)) (spaced_after hz w sent (fraction x)).numer ((fraction x).denom * w)
  past_spaced x y sent back h =
      let all = y ∷ x ∷ ops.of_moment 0 ∷ [] in
      let whole = scale_of ops fraction is_value exact all in
      let o = on ops fraction is_value exact all 0 y refl in
      let p = on ops fraction is_value exact all 1 x refl in
      let nx = (fraction x).numer in
      let ny = (fraction y).numer in
      let dx = (fraction x).denom in
      let dy = (fraction y).denom in
      let le = past_on ops fraction is_value exact w all 0 2 1 2 refl refl refl refl h in
      let le' = moved (value_of ny o.units) (value_of nx p.units) _ (w * 0 + hz * sent) (hz * back) whole (zero_on ops fraction is_value exact w all 2 refl) le in
      let none : w * 0 + hz * sent ≡ hz * sent = omega arith in
      let left : (nx *ℤ pos w +ℤ pos (sent * hz * dx)) *ℤ pos p.units ≡ value_of nx p.units +ℤ pos ((w * 0 + hz * sent) * whole) = spread nx (sent * hz * dx) p.units ∙ ap (λ n. value_of nx p.units +ℤ pos n) (three sent hz dx p.units ∙ ap (λ n. hz * sent * n) p.is ∙ ap (λ n. n * whole) (sym none)) in
      let right : (ny *ℤ pos w +ℤ pos (back * hz * dy)) *ℤ pos o.units ≡ value_of ny o.units +ℤ pos (hz * back * whole) = spread ny (back * hz * dy) o.units ∙ ap (λ n. value_of ny o.units +ℤ pos n) (three back hz dy o.units ∙ ap (λ n. hz * back * n) o.is) in
      let both = same_le _ _ _ _ (sym left) (sym right) le' in
      record { le = unscaled_le _ _ whole (scale_above_0 ops fraction is_value exact all) (same_le _ _ _ _ (scaled_twice (nx *ℤ pos w +ℤ pos (sent * hz * dx)) p.units (dx * (dy * w)) ∙ ap (λ n. (nx *ℤ pos w +ℤ pos (sent * hz * dx)) *ℤ pos n) (across p.units dx (dy * w) ∙ ap (λ n. dy * w * n) p.is) ∙ sym (scaled_twice (nx *ℤ pos w +ℤ pos (sent * hz * dx)) (dy * w) whole)) (scaled_twice (ny *ℤ pos w +ℤ pos (back * hz * dy)) o.units (dx * (dy * w)) ∙ ap (λ n. (ny *ℤ pos w +ℤ pos (back * hz * dy)) *ℤ pos n) (crossed o.units dx dy w ∙ ap (λ n. dx * w * n) o.is) ∙ sym (scaled_twice (ny *ℤ pos w +ℤ pos (back * hz * dy)) (dx * w) whole)) (scaled_le _ _ (dx * (dy * w)) both)) }
    where
      value_of : ℤ → ℕ → ℤ
      value_of n u = (n *ℤ pos u) *ℤ pos w

      spread : (n : ℤ) (a u : ℕ) → (n *ℤ pos w +ℤ pos a) *ℤ pos u ≡ value_of n u +ℤ pos (a * u)
      spread n a u = scaled_sum (n *ℤ pos w) (pos a) u ∙ ap (λ z. z +ℤ pos (a * u)) (scaled_swapped n w u)

      three : (s h d u : ℕ) → s * h * d * u ≡ h * s * (d * u)
      three s h d u = omega arith

      across : (u d e : ℕ) → u * (d * e) ≡ e * (d * u)
      across u d e = omega arith

      crossed : (u a b w : ℕ) → u * (a * (b * w)) ≡ a * w * (b * u)
      crossed u a b w = omega arith

      same_le : (a b c d : ℤ) → a ≡ c → b ≡ d → a ≤ℤ b → c ≤ℤ d
      same_le a b c d e f h = omega (arith, ints)

      moved : (y x o : ℤ) (a b k : ℕ) → o ≡ pos 0 → ((pos a -ℤ pos b) *ℤ pos k) ≤ℤ ((y +ℤ o) -ℤ (x +ℤ o)) → (x +ℤ pos (a * k)) ≤ℤ (y +ℤ pos (b * k))
      moved y x o a b k e h = by (a * k) (b * k) _ (scaled_difference (pos a) (pos b) k) h where
        by : (m n : ℕ) (d : ℤ) → d ≡ pos m -ℤ pos n → d ≤ℤ ((y +ℤ o) -ℤ (x +ℤ o)) → (x +ℤ pos m) ≤ℤ (y +ℤ pos n)
        by m n d f g = omega (arith, ints, e, f, g)

-- ---- a client keeps its weight

module _ {T : Type 0} (ops : Tagging T) (fraction : T → Fraction) (is_value : Fraction → Type 0) (exact : IsExact ops fraction is_value) (order : IsTotalOrder ops.compare) (config : Setting) (some : 0 < config.hz) (virtual : config.shares ≡ Virtual) (history : List (Event T)) (replay : replays ops config history) where
  abbrev state : ℕ → State T
  state n = before ops config history n

  sound : (n : ℕ) → Sound ops fraction is_value exact order config some (state n)
  sound n = sound_before ops fraction is_value exact order config some history n

  abbrev Weighs : ClientId → ℕ → State T → Type 0
  Weighs id w s = IfSome (client_named id s.clients) (λ c. c.info.weight ≡ w)

  has_weight : (id : ClientId) (w : ℕ) (s : State T) → HasWeight id w s → Weighs id w s
  has_weight id w s has = at (client_named id s.clients) refl where
    at : (o : Option (PlainClient T)) → client_named id s.clients ≡ o → IfSome o (λ d. d.info.weight ≡ w)
    at None e = tt
    at (Some d) e = weight_of id w s d has e

  one_weight : (v w : ℕ) (o : Option (PlainClient T)) → option_map (λ d. d.info.weight) o ≡ Some w → IfSome o (λ d. d.info.weight ≡ v) → v ≡ w
  one_weight v w None e h = cc
  one_weight v w (Some d) e h = cc

  step_weighs : (id : ClientId) (w : ℕ) (s : State T) → Sound ops fraction is_value exact order config some s → Weighs id w s → (c : Command) → Keeps id c ((step ops s c).1) → Weighs id w ((step ops s c).0)
  step_weighs id w s sound h = step_becomes ops order id s sound.turn (λ c reply new. Keeps id c reply → Weighs id w new)
      (λ c reply new o says stay like next keeps. found new o next.named (like_weight (client_named id s.clients) o like h))
      (λ client info at new own none next keeps. not_both keeps own)
      (λ client info at new c own named next keeps. not_both keeps own)
      (λ client token params at new c d tags slack says named like assigned next last slack_is keeps. found new _ next.named (ap (λ i. i.weight) like.info ∙ own_of c named))
      (λ at new fond amount phase beyond says g named next keeps. found new _ next.named (same amount (rules_of.with_requests fond.others fond.client) ∙ own_of fond.client named))
      (λ client new c own says named next keeps. found new _ next.named (own_of c named))
      (λ client token counting new c own named next keeps. found new _ next.named (own_of c named))
    where
      not_both : {X : Type 0} {b : Bool} → b ≡ false → b ≡ true → X
      not_both p q = cc

      own_of : (c : PlainClient T) → client_named id s.clients ≡ Some c → c.info.weight ≡ w
      own_of c named = subst (λ o. IfSome o (λ c. c.info.weight ≡ w)) named h

      found : (new : State T) (o : Option (PlainClient T)) → client_named id new.clients ≡ o → IfSome o (λ c. c.info.weight ≡ w) → Weighs id w new
      found new o e k = subst (λ p. IfSome p (λ c. c.info.weight ≡ w)) (sym e) k

      like_weight : (o p : Option (PlainClient T)) → AreLike s.config.shares o p → IfSome o (λ c. c.info.weight ≡ w) → IfSome p (λ c. c.info.weight ≡ w)
      like_weight None None like k = tt
      like_weight None (Some d) like k = absurd like
      like_weight (Some c) None like k = tt
      like_weight (Some c) (Some d) like k = ap (λ i. i.weight) like.info ∙ k

      same : (amount : Option T) (c : PlainClient T) → (rules_of.reduced_by ops amount c).info.weight ≡ c.info.weight
      same None c = refl
      same (Some amount) c = refl

  weighs_on : (id : ClientId) (w start last : ℕ) (final : Event T) → slice_get history last ≡ Some final → ((n : ℕ) (e : Event T) → start < n → n < last → slice_get history n ≡ Some e → Keeps id e.command e.reply) → Weighs id w (state (suc start)) → (n : ℕ) → start < n → n ≤ last → Weighs id w (state n)
  weighs_on id w start last final final_is keeps h n g k = upward (λ n. Weighs id w (state n)) (suc start) last h (λ n g k h.
      let here = earlier_at history n last final final_is (omega (arith, k)) in
      let is_step = step_at ops fraction is_value exact order config some history n here.0 replay here.1 in
      subst (Weighs id w) (sym is_step.next) (step_weighs id w (state n) (sound n) h here.0.command (subst (Keeps id here.0.command) is_step.reply_is (keeps n here.0 g k here.1)))) n g k

  -- ---- two clients that compete

  module _ (a b : ClientId) (w_a w_b k m : ℕ) (c : WaitingCompetes ops config history a b) (weight_a : HasWeight a w_a (state (suc c.joined))) (weight_b : HasWeight b w_b (state (suc c.joined))) (k_is : IsFirstThatWaits a k (take c.last history)) (m_is : IsFirstThatWaits b m (take c.last history)) where
    abbrev final : Event T
    final = c.y_granted.event

    abbrev hz : ℕ
    hz = config.hz

    abbrev all_a : List Arrival
    all_a = all ops fraction is_value exact order config some history replay a

    abbrev those_a : ℕ → List Numbered
    those_a n = those ops fraction is_value exact order config some history replay a n

    abbrev back_a : ℕ → List Numbered
    back_a n = back ops fraction is_value exact order config some history replay a n

    abbrev count : ℕ → ℕ
    count n = arrived ops fraction is_value exact order config some history replay a n

    abbrev i : ℕ
    i = last_arrived a c.came history

    counted : (n : ℕ) → IsCounted all_a (count n) (those_a n) (back_a n)
    counted n = counted_by ops fraction is_value exact order config some history replay a n

    abbrev Is : Option T → ℕ → Type 0
    Is so n = IsApartIn ops fraction is_value exact order config some virtual a w_a i all_a so (state n) (count n) (those_a n) (back_a n)

    joined_last : c.joined < c.last
    joined_last = omega (arith, c.later, c.in_order)

    number_within : (top : ℕ) (ns : List Numbered) (j : ℕ) → IsNumber ns j → AreBelow top ns → j < top
    number_within top [] j e h = cc
    number_within top (n ∷ ns) j e h = let same : n.number ≡ j = cc in subst (λ z. z < top) same h.0

    -- x came before it was granted
    came_before : c.came < c.first
    came_before = ⊎_elim (λ h. h) (λ h.
        let here = number_within (suc (count c.first)) (those_a c.first) (suc (length (arrivals a (take c.came history)))) c.x_is (counted c.first).below in
        absurd (omega (arith, here, arrivals_grow a history c.first c.came h))) (cases_lt c.came c.first)

    i_is : i ≡ suc (count c.came)
    i_is =
        let one = arrival_is a c.x_arrives.event.command c.x_arrives.event.reply c.x_tags c.x_arrives.tags_are c.x_arrives.arrives in
        let next = arrived_next ops fraction is_value exact order config some history replay a c.came c.x_arrives.event c.x_arrives.here in
        by (length (arrival_of a c.x_arrives.event.command c.x_arrives.event.reply)) (ap length one.1) next
      where
        by : (d : ℕ) → d ≡ 1 → count (suc c.came) ≡ count c.came + d → i ≡ suc (count c.came)
        by d e h = omega (arith, e, h)

    a_keeps : (start : ℕ) → min c.came c.joined ≤ start → (n : ℕ) (e : Event T) → start < n → n < c.last → slice_get history n ≡ Some e → Keeps a e.command e.reply
    a_keeps start h n e g k here = kept_at a (suc (min c.came c.joined)) c.last n history e c.a_kept (omega (arith, h, g)) k here

    b_keeps : (n : ℕ) (e : Event T) → c.joined < n → n < c.last → slice_get history n ≡ Some e → Keeps b e.command e.reply
    b_keeps n e g k here = kept_at b (suc c.joined) c.last n history e c.b_kept g k here

    -- when x came, a had this weight
    weight_at_x : Weighs a w_a (state (suc c.came))
    weight_at_x = ⊎_elim
        (λ h. weighs_on a w_a c.joined c.last final c.y_granted.here (a_keeps c.joined (omega arith)) (has_weight a w_a (state (suc c.joined)) weight_a) (suc c.came) (omega (arith, h)) (omega (arith, came_before, c.in_order)))
        (λ h.
        let came = joined_at ops fraction is_value exact order config some virtual history replay a c.came c.x_tags c.x_arrives in
        let later = weighs_on a came.0.info.weight c.came c.last final c.y_granted.here (a_keeps c.came (omega arith)) (subst (λ o. IfSome o (λ d. d.info.weight ≡ came.0.info.weight)) (sym came.1) refl) (suc c.joined) (omega (arith, h)) (omega (arith, joined_last)) in
        subst (λ o. IfSome o (λ d. d.info.weight ≡ w_a)) (sym came.1) (one_weight came.0.info.weight w_a (client_named a (state (suc c.joined)).clients) weight_a later))
        (cases_lt c.joined c.came)

    pub some_weight : 0 < w_a
    some_weight =
        let came = joined_at ops fraction is_value exact order config some virtual history replay a c.came c.x_tags c.x_arrives in
        subst (λ n. 0 < n) (subst (λ o. IfSome o (λ d. d.info.weight ≡ w_a)) came.1 weight_at_x) came.3

    -- ---- from x to y

    opened : Is None (suc c.came)
    opened =
        let e = c.x_arrives.event in
        let is_step = step_at ops fraction is_value exact order config some history c.came e replay c.x_arrives.here in
        let s = state c.came in
        let is = opens ops fraction is_value exact order config some virtual a w_a i all_a s (sound c.came) (count c.came) (those_a c.came) (back_a c.came) (counted c.came) (asked_by_then ops fraction is_value exact order config some history replay a c.came) e.command (subst (Arrives a e.command) is_step.reply_is c.x_arrives.arrives) i_is (subst (Weighs a w_a) is_step.next weight_at_x) in
        let next = subst (λ r. Next a (IsApartIn ops fraction is_value exact order config some virtual a w_a i all_a None ((step ops s e.command).0)) e.command r (count c.came) (those_a c.came) (back_a c.came)) (sym is_step.reply_is) is in
        subst (λ z. IsApartIn ops fraction is_value exact order config some virtual a w_a i all_a None z (count (suc c.came)) (those_a (suc c.came)) (back_a (suc c.came))) (sym is_step.next)
        (reaches ops fraction is_value exact order config some history replay a c.came e c.x_arrives.here (IsApartIn ops fraction is_value exact order config some virtual a w_a i all_a None ((step ops s e.command).0)) next)

    since : (n : ℕ) → suc c.came ≤ n → i ≤ count n
    since n g = omega (arith, arrivals_grow a history (suc c.came) n g)

    next : (so : Option T) (n : ℕ) → suc c.came ≤ n → n < c.last → Is so n → Is so (suc n)
    next so n g k is =
        let here = earlier_at history n c.last final c.y_granted.here (omega (arith, k)) in
        let e = here.0 in
        let s = state n in
        let is_step = step_at ops fraction is_value exact order config some history n e replay here.1 in
        let stepped = step_goes ops fraction is_value exact order config some virtual a w_a i all_a s (sound n) (count n) (those_a n) (back_a n) (counted n) (asked_by_then ops fraction is_value exact order config some history replay a n) (since n g) so is e.command in
        let moved = (subst (λ r. Keeps a e.command r → (rest : List Arrival) → drop (count n) all_a ≡ arrival_of a e.command r ++ rest → Next a (IsApartIn ops fraction is_value exact order config some virtual a w_a i all_a so ((step ops s e.command).0)) e.command r (count n) (those_a n) (back_a n)) (sym is_step.reply_is) stepped) (a_keeps c.came (omega arith) n e g k here.1) (arrivals a (drop (suc n) history)) (comes_next ops fraction is_value exact order config some history replay a n e here.1) in
        subst (λ z. IsApartIn ops fraction is_value exact order config some virtual a w_a i all_a so z (count (suc n)) (those_a (suc n)) (back_a (suc n))) (sym is_step.next)
        (reaches ops fraction is_value exact order config some history replay a n e here.1 (IsApartIn ops fraction is_value exact order config some virtual a w_a i all_a so ((step ops s e.command).0)) moved)

    numbered : (ns : List Numbered) (j : ℕ) → IsNumber ns j → (n : Numbered) × (slice_get ns 0 ≡ Some n) × (n.number ≡ j)
    numbered [] j e = cc
    numbered (n ∷ ns) j e = (n, refl, cc)

    x_number : suc (length (arrivals a (take c.came history))) ≡ i
    x_number = omega (arith, i_is)

    -- x is granted
    after_x : Is (Some c.x.tags.p) (suc c.first)
    after_x =
        let e = c.x_granted.event in
        let is_step = step_at ops fraction is_value exact order config some history c.first e replay c.x_granted.here in
        let s = state c.first in
        let at_first = upward (Is None) (suc c.came) c.last opened (next None) c.first came_before c.in_order in
        let n = numbered (those_a c.first) (suc (length (arrivals a (take c.came history)))) c.x_is in
        let departs : departed a e.command e.reply ≡ 1 = subst (λ d. departed a d e.reply ≡ 1) (sym c.x_granted.pulls) (subst (λ r. departed a (Pull c.x_granted.moment) r ≡ 1) (sym c.x_granted.grants) (ap (λ b. if b then 1 else 0) (itself_id a))) in
        let is = leaves ops fraction is_value exact order config some virtual a w_a i all_a s (sound c.first) (count c.first) (those_a c.first) (back_a c.first) (counted c.first) (asked_by_then ops fraction is_value exact order config some history replay a c.first) c.x at_first e.command c.x_granted.moment c.x_granted.pulls (subst (λ r. departed a e.command r ≡ 1) is_step.reply_is departs) c.x_granted.first n.0 n.1 (n.2 ∙ x_number) in
        let moved = subst (λ r. Next a (IsApartIn ops fraction is_value exact order config some virtual a w_a i all_a (Some c.x.tags.p) ((step ops s e.command).0)) e.command r (count c.first) (those_a c.first) (back_a c.first)) (sym is_step.reply_is) is in
        subst (λ z. IsApartIn ops fraction is_value exact order config some virtual a w_a i all_a (Some c.x.tags.p) z (count (suc c.first)) (those_a (suc c.first)) (back_a (suc c.first))) (sym is_step.next)
        (reaches ops fraction is_value exact order config some history replay a c.first e c.x_granted.here (IsApartIn ops fraction is_value exact order config some virtual a w_a i all_a (Some c.x.tags.p) ((step ops s e.command).0)) moved)

    abbrev sent_a : ℕ
    sent_a = sum_of (λ p. p.delta) i k all_a

    abbrev given_a : ℕ
    given_a = cost_between i k (back_a c.last)

    abbrev IsPastX : T → Type 0
    IsPastX t = IsBy ops fraction is_value exact w_a t c.x.tags.p (level_of ops fraction is_value exact order w_a hz sent_a given_a)

    -- the first request behind x
    first_past : (rs : List (QueuedRequest T)) (ns : List Numbered) (previous : Previous T) (s g : ℕ) → slice_get rs 0 ≡ Some c.y → IsNumber ns k → Apart ops fraction is_value exact order w_a hz (Some c.x.tags.p) rs (marks_of (λ p. p.delta) i all_a (λ j. cost_between i j (back_a c.last)) ns) previous s g → IsPastX c.y.tags.p
    first_past [] ns previous s g e f h = cc
    first_past (r ∷ rs) [] previous s g e f h = absurd h
    first_past (r ∷ rs) (n ∷ ns) previous s g e f h =
        let same : r ≡ c.y = cc in
        let number : n.number ≡ k = cc in
        subst (λ (z : QueuedRequest T). IsPastX z.tags.p) same (⊎_elim (λ less. gone (mark_before (λ p. p.delta) i all_a (λ j. cost_between i j (back_a c.last)) n less)) (λ more. ⊎_elim (λ behind. behind_x (omega (arith, behind, number)) (mark_later (λ p. p.delta) i all_a (λ j. cost_between i j (back_a c.last)) n behind) number) (λ under. x_itself (mark_itself (λ p. p.delta) i all_a (λ j. cost_between i j (back_a c.last)) n (omega (arith, more, under)))) (cases_lt i n.number)) (cases_lt n.number i))
      where
        gone : {X : Type 0} → mark_of (λ p. p.delta) i all_a (λ j. cost_between i j (back_a c.last)) n ≡ earlier → X
        gone e = absurd (subst (λ mark. Apart ops fraction is_value exact order w_a hz (Some c.x.tags.p) (r ∷ rs) (mark ∷ marks_of (λ p. p.delta) i all_a (λ j. cost_between i j (back_a c.last)) ns) previous s g) e h)

        x_itself : {X : Type 0} → mark_of (λ p. p.delta) i all_a (λ j. cost_between i j (back_a c.last)) n ≡ itself → X
        x_itself e = absurd (subst (λ mark. Apart ops fraction is_value exact order w_a hz (Some c.x.tags.p) (r ∷ rs) (mark ∷ marks_of (λ p. p.delta) i all_a (λ j. cost_between i j (back_a c.last)) ns) previous s g) e h)

        behind_x : i < k → mark_of (λ p. p.delta) i all_a (λ j. cost_between i j (back_a c.last)) n ≡ later (sum_of (λ p. p.delta) i n.number all_a) (cost_between i n.number (back_a c.last)) → n.number ≡ k → IsPastX r.tags.p
        behind_x less e number = subst (λ j. IsBy ops fraction is_value exact w_a r.tags.p c.x.tags.p (level_of ops fraction is_value exact order w_a hz (sum_of (λ p. p.delta) i j all_a) (cost_between i j (back_a c.last)))) number
            (subst (λ mark. Apart ops fraction is_value exact order w_a hz (Some c.x.tags.p) (r ∷ rs) (mark ∷ marks_of (λ p. p.delta) i all_a (λ j. cost_between i j (back_a c.last)) ns) previous s g) e h).0

    y_past : IsPastX c.y.tags.p
    y_past = ⊎_elim
        (λ less.
        let is = upward (Is (Some c.x.tags.p)) (suc c.first) c.last after_x (λ n g k h. next (Some c.x.tags.p) n (omega (arith, came_before, g)) k h) c.last less (omega arith) in
        at (client_named a (state c.last).clients) c.y_granted.first is)
        (λ more. same_event (omega (arith, more, c.in_order)))
        (cases_lt c.first c.last)
      where
        at : (o : Option (PlainClient T)) → slice_get (option_map_or (λ (d : PlainClient T). d.requests) o []) 0 ≡ Some c.y → IfSome o (IsApartClient ops fraction is_value exact order config some virtual a w_a i all_a (Some c.x.tags.p) (count c.last) (those_a c.last) (back_a c.last)) → IsPastX c.y.tags.p
        at None e h = cc
        at (Some d) e h = first_past d.requests (those_a c.last) d.previous (sum_of (λ p. p.delta) i (count c.last) all_a) (cost_between i (suc (count c.last)) (back_a c.last)) e k_is (h.apart tt)

        less : (s g : ℕ) → s ≡ 0 → level_of ops fraction is_value exact order w_a hz s g ≤ℤ pos 0
        less s g e = by (w_a * 0 + hz * s) (hz * g) (none e) where
          none : s ≡ 0 → w_a * 0 + hz * s ≡ 0
          none e = let zero_sent : hz * s ≡ 0 = ap (λ n. hz * n) e ∙ omega arith in omega (arith, zero_sent)

          by : (m n : ℕ) → m ≡ 0 → (pos m -ℤ pos n) ≤ℤ pos 0
          by m n e = omega (arith, ints)

        same_event : c.first ≡ c.last → IsPastX c.y.tags.p
        same_event e =
            let x_first : IsFirst ops config history c.last a c.x = subst (λ n. IsFirst ops config history n a c.x) e c.x_granted.first in
            let y_first = c.y_granted.first in
            let same : c.x ≡ c.y = cc in
            let x_at : IsNumber (those_a c.last) (suc (length (arrivals a (take c.came history)))) = subst (λ n. IsNumber (those_a n) (suc (length (arrivals a (take c.came history))))) e c.x_is in
            let k_same : suc (length (arrivals a (take c.came history))) ≡ k = cc (x_at, k_is) in
            let none_sent : sent_a ≡ 0 = sum_none (λ p. p.delta) i k all_a (omega (arith, k_same, x_number)) in
            subst (λ (z : QueuedRequest T). IsPastX z.tags.p) same (by_itself ops fraction is_value exact w_a c.x.tags.p (level_of ops fraction is_value exact order w_a hz sent_a given_a) (less sent_a given_a none_sent))

    -- ---- b's first request

    b_first : (r : QueuedRequest T) × IsFirst ops config history c.last b r × IsUpTo hz w_b (fraction c.h.p) (sum_of (λ p. p.delta) (last_arrived b c.joined history) m (arrivals b history)) (fraction r.tags.p)
    b_first = first_is_at ops fraction is_value exact order config some virtual history replay b c.joined c.last final c.y_granted.here c.h c.h_arrives c.asks c.within b_keeps w_b (has_weight b w_b (state (suc c.joined)) weight_b) joined_last m m_is

    indebted : IsAtMost (spaced_after hz w_a sent_a (fraction c.x.tags.p)) (spaced_after hz w_a given_a (spaced_after hz w_b (sum_of (λ p. p.delta) (last_arrived b c.joined history) m (arrivals b history)) (fraction c.h.p)))
    indebted =
        let under = grants_under ops fraction is_value exact order config some virtual history replay b c.joined c.last final c.y_granted.here c.h c.h_arrives c.asks c.within c.last a c.y b_first.0 c.y_granted joined_last (omega arith) b_first.1 in
        let y = fraction c.y.tags.p in
        let r = fraction b_first.0.tags.p in
        let of_h = spaced_after hz w_b (sum_of (λ p. p.delta) (last_arrived b c.joined history) m (arrivals b history)) (fraction c.h.p) in
        let from_x = past_spaced ops fraction is_value exact order hz w_a c.x.tags.p c.y.tags.p sent_a given_a y_past in
        let to_r = raised (spaced_after hz w_a given_a y) (spaced_after hz w_a given_a r) _ _ (positive _ _ (exact.denom c.y.tags.p) some_weight) (after_both hz w_a given_a y r (at_most_to ops fraction is_value exact c.y.tags.p b_first.0.tags.p under)) from_x in
        (raised (spaced_after hz w_a given_a r) (spaced_after hz w_a given_a of_h) _ _ (positive _ _ (exact.denom b_first.0.tags.p) some_weight) (after_both hz w_a given_a r of_h b_first.2.le) to_r).le

pub no_debt_with_cancels : {T : Type 0} (ops : Tagging T) (fraction : T → Fraction) (is_value : Fraction → Type 0) → IsExact ops fraction is_value → IsTotalOrder ops.compare → (config : Setting) → 0 < config.hz → config.shares ≡ Virtual → NoDebtWithCancels ops fraction config
no_debt_with_cancels ops fraction is_value exact order config some virtual = λ history replay a b w_a w_b k m c weight_a weight_b k_is m_is. indebted ops fraction is_value exact order config some virtual history replay a b w_a w_b k m c weight_a weight_b k_is m_is
