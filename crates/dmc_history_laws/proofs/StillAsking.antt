-- A client that asks all the time, within its limit and whatever is taken back: up to each event its first request and the virtual
-- time are at most at what it sent since its request h.
use Rattle.std.proofs.Common.{◌≡◌, ℕ, zero, suc, ◌+◌, ◌-◌, ◌<◌, ◌≤◌, Bool, true, false, cond, List, [], ◌∷◌, ◌++◌, map, drop, take, Option, Some, None, refl, sym, ap, ◌∙◌, subst, arith, ⊎_elim}
use Rattle.std.specs.Prelude.{IfSome, slice_get, sum_by}
use Rattle.std.specs.Option.{option_map, option_map_or}
use Rattle.std.specs.List.{AllByRecursion}
use Rattle.std.specs.Cmp.{IsTotalOrder}
use Rattle.std.specs.Ordering.{is_lt, ord_max}
use Rattle.std.proofs.lemmas.Bool.{cases_lt}
use Rattle.dmc_types.specs.Values.{Params, Setting}
use Rattle.dmc_types.specs.declared.ids.ClientId.{ClientId}
use Rattle.dmc_types.specs.declared.config.Shares.TheVariants.{Virtual}
use Rattle.dmc_tag.specs.Best.{is_free}
use Rattle.dmc_tag.specs.Order.{AtMost}
use Rattle.dmc_tag.specs.Replay.{replays}
use Rattle.dmc_tag.specs.Rules.{floor_by, virtual_at}
use Rattle.dmc_tag.specs.State.{State, PlainClient, client_named, effective, has_queued, is_nothing_queued, requests_of}
use Rattle.dmc_tag.specs.Step.{step}
use Rattle.dmc_tag.specs.Tag.{Fraction, Tagging, IsExact}
use Rattle.dmc_tag.specs.declared.event.Event.{Event}
use Rattle.dmc_tag.specs.declared.plain.QueuedRequest.{QueuedRequest}
use Rattle.dmc_tag.specs.declared.reply.Tags.{Tags}
use Rattle.dmc_tag.proofs.Upto.{at_most_itself}
use Rattle.dmc_lemmas.proofs.Lists.{all_as}
use Rattle.dmc_history_laws.specs.Bounds.{Arrival, Keeps, Numbered, arrival_of, arrivals, asked_by, sum_of}
use Rattle.dmc_history_laws.specs.Shares.{before, IsArrival, IsFirst, IsWeightGrant, last_arrived}
use Rattle.dmc_history_laws.proofs.Parts.{earlier, first_mapped}
use Rattle.dmc_history_laws.proofs.Asking.{front, grants_under}
use Rattle.dmc_history_laws.proofs.ByNumber.{all, arrived, asked_by_then, back, comes_next, counted_by, reaches, those}
use Rattle.dmc_history_laws.proofs.Counted.{IsCounted, Next}
use Rattle.dmc_history_laws.proofs.Credit.{Sound, arrives_later, granted_first, shares_are, sound_before, step_at, time}
use Rattle.dmc_history_laws.proofs.Joined.{arrivals_grow, joined_at}
use Rattle.dmc_history_laws.proofs.Fronts.{not_nothing}
use Rattle.dmc_history_laws.proofs.Given.{AreBelow, AscendsFrom, sum_next, sum_none, zero_more}
use Rattle.dmc_history_laws.proofs.Spaced.{IsUpTo, up_to_itself, up_to_more}
use Rattle.dmc_history_laws.proofs.TurnSteps.{found_turn}
use Rattle.dmc_history_laws.proofs.Under.{AreUp, IsUnderClient, IsUnderIn, Up, grows, lower_up, step_under, up_first}
use Rattle.dmc_history_laws.proofs.VirtualTime.{step_goes_on}
use Rattle.dmc_history_laws.proofs.Waiting.{asked_of}

-- ---- numbers

-- from one number up to another
pub upward : (P : ℕ → Type 0) (start last : ℕ) → P start → ((n : ℕ) → start ≤ n → n < last → P n → P (suc n)) → (n : ℕ) → start ≤ n → n ≤ last → P n
upward P start last h next n g k = by (n - start) n (omega arith) k where
  by : (d n : ℕ) → n ≡ start + d → n ≤ last → P n
  by zero n e le = let same : start ≡ n = omega arith in subst P same h
  by (suc d) n e le = let m : n ≡ suc (start + d) = omega arith in subst P (sym m) (next (start + d) (omega arith) (omega (arith, m, le)) (by d (start + d) refl (omega (arith, m, le))))

take_all : {X : Type 0} (n : ℕ) (xs : List X) → slice_get xs n ≡ None → take (suc n) xs ≡ take n xs
take_all zero [] e = refl
take_all (suc n) [] e = refl
take_all zero (x ∷ xs) e = cc
take_all (suc n) (x ∷ xs) e = ap (λ ys. x ∷ ys) (take_all n xs e)

-- a sum up to a later number is more
sum_one : (part : Params → ℕ) (i n : ℕ) (qs : List Arrival) → (e : ℕ) × (sum_of part i (suc n) qs ≡ sum_of part i n qs + e)
sum_one part i n qs = ⊎_elim
    (λ less. (0, sum_none part i (suc n) qs less ∙ sym (sum_none part i n qs (omega (arith, less))) ∙ sym (zero_more (sum_of part i n qs))))
    (λ more. by (slice_get qs n) refl more)
    (cases_lt n i)
  where
    by : (o : Option Arrival) → slice_get qs n ≡ o → i ≤ n → (e : ℕ) × (sum_of part i (suc n) qs ≡ sum_of part i n qs + e)
    by None none more = (0, same none ∙ sym (zero_more (sum_of part i n qs))) where
      same : slice_get qs n ≡ None → sum_of part i (suc n) qs ≡ sum_of part i n qs
      same none = ap (λ ys. sum_by (λ (a : Arrival). part a.params) (drop i ys)) (take_all n qs none)
    by (Some a) here more = (part a.params, sum_next part i n qs a more here)

pub sum_more : (part : Params → ℕ) (i k d : ℕ) (qs : List Arrival) → (e : ℕ) × (sum_of part i (k + d) qs ≡ sum_of part i k qs + e)
sum_more part i k zero qs = let same : k + 0 ≡ k = omega arith in (0, ap (λ n. sum_of part i n qs) same ∙ sym (zero_more (sum_of part i k qs)))
sum_more part i k (suc d) qs =
    let before = sum_more part i k d qs in
    let one = sum_one part i (k + d) qs in
    let next : k + suc d ≡ suc (k + d) = omega arith in
    (before.0 + one.0, ap (λ n. sum_of part i n qs) next ∙ one.1 ∙ ap (λ n. n + one.0) before.1 ∙ three (sum_of part i k qs) before.0 one.0)
  where
    three : (a b c : ℕ) → a + b + c ≡ a + (b + c)
    three a b c = omega arith

-- the first one that waits is the first queued one
pub first_waits : {T : Type 0} (rs : List (QueuedRequest T)) (ns : List Numbered) (r : QueuedRequest T) → map asked_by rs ≡ map asked_of ns → slice_get rs 0 ≡ Some r → (n : Numbered) × (slice_get ns 0 ≡ Some n)
first_waits [] ns r e f = cc
first_waits (x ∷ rs) [] r e f = cc
first_waits (x ∷ rs) (n ∷ ns) r e f = (n, refl)

-- the number of the first
abbrev pub IsNumber : List Numbered → ℕ → Type 0
IsNumber ns k = option_map (λ n. n.number) (slice_get ns 0) ≡ Some k

first_within : (top : ℕ) (ns : List Numbered) (k : ℕ) → IsNumber ns k → AreBelow top ns → k < top
first_within top [] k e h = cc
first_within top (n ∷ ns) k e h = let same : n.number ≡ k = cc in subst (λ m. m < top) same h.0

-- those that wait are not before their first one
above_first : (ns : List Numbered) (k : ℕ) → IsNumber ns k → AscendsFrom 0 ns → (low : ℕ) × (k ≡ suc low) × AscendsFrom low ns
above_first [] k e h = cc
above_first (n ∷ ns) zero e h = let same : n.number ≡ 0 = cc in absurd (omega (arith, h.0, same))
above_first (n ∷ ns) (suc low) e h = let same : n.number ≡ suc low = cc in (low, refl, (omega (arith, same), h.1))

first_after : (low : ℕ) (ns : List Numbered) (k : ℕ) → IsNumber ns k → AscendsFrom low ns → low < k
first_after low [] k e h = cc
first_after low (n ∷ ns) k e h = let same : n.number ≡ k = cc in subst (λ m. low < m) same h.0

all_up : {T : Type 0} (Up : ℕ → T → Type 0) (rs : List (QueuedRequest T)) (ns : List Numbered) → map asked_by rs ≡ map asked_of ns → AllByRecursion (λ r. (k : ℕ) → Up k r.tags.p) rs → AreUp Up (map (λ r. r.tags.p) rs) ns
all_up Up [] [] e h = tt
all_up Up [] (n ∷ ns) e h = cc
all_up Up (r ∷ rs) [] e h = cc
all_up Up (r ∷ rs) (n ∷ ns) e h = let rest : map asked_by rs ≡ map asked_of ns = cc in (h.0 n.number, all_up Up rs ns rest h.1)

module _ {T : Type 0} (ops : Tagging T) (fraction : T → Fraction) (is_value : Fraction → Type 0) (exact : IsExact ops fraction is_value) (order : IsTotalOrder ops.compare) (config : Setting) (some : 0 < config.hz) (virtual : config.shares ≡ Virtual) (history : List (Event T)) (replay : replays ops config history) (b : ClientId) (joined last : ℕ) (final : Event T) (final_is : slice_get history last ≡ Some final) (h : Tags T) (add : IsArrival history joined b h) (asks : (number : ℕ) → joined < number → number ≤ last → has_queued b (before ops config history number).clients ≡ true) (within : (number : ℕ) (client : ClientId) (request front : QueuedRequest T) (grant : IsWeightGrant ops config history number client request) → joined < number → number ≤ last → grant.beyond ≡ false → IsFirst ops config history number b front → is_free ops (effective (before ops config history number) grant.moment) front ≡ true) (kept : (n : ℕ) (e : Event T) → joined < n → n < last → slice_get history n ≡ Some e → Keeps b e.command e.reply) (w : ℕ) (weighs : IfSome (client_named b (before ops config history (suc joined)).clients) (λ c. c.info.weight ≡ w)) where
  abbrev state : ℕ → State T
  state n = before ops config history n

  abbrev all_of : List Arrival
  all_of = all ops fraction is_value exact order config some history replay b

  abbrev those_at : ℕ → List Numbered
  those_at n = those ops fraction is_value exact order config some history replay b n

  abbrev back_at : ℕ → List Numbered
  back_at n = back ops fraction is_value exact order config some history replay b n

  abbrev count : ℕ → ℕ
  count n = arrived ops fraction is_value exact order config some history replay b n

  abbrev i : ℕ
  i = last_arrived b joined history

  sound : (n : ℕ) → Sound ops fraction is_value exact order config some (state n)
  sound n = sound_before ops fraction is_value exact order config some history n

  counted : (n : ℕ) → IsCounted all_of (count n) (those_at n) (back_at n)
  counted n = counted_by ops fraction is_value exact order config some history replay b n

  -- at most at what b sent since h, up to a number
  abbrev pub IsAt : ℕ → T → Type 0
  IsAt k t = Up ops fraction is_value exact order config some virtual b w i all_of (fraction h.p) k t

  abbrev Time : State T → T
  Time s = time ops fraction is_value exact order config some s

  lower : (k : ℕ) (t u : T) → AtMost ops t u → IsAt k u → IsAt k t
  lower = lower_up ops fraction is_value exact order config some virtual b w i all_of (fraction h.p)

  -- what is not above h is so
  as_h : (k : ℕ) (t : T) → AtMost ops t h.p → IsAt k t
  as_h k t le =
      let none : 0 + sum_of (λ p. p.delta) i k all_of ≡ sum_of (λ p. p.delta) i k all_of = omega arith in
      lower k t h.p le (subst (λ n. IsUpTo config.hz w (fraction h.p) n (fraction h.p)) none (up_to_more config.hz w (fraction h.p) 0 (sum_of (λ p. p.delta) i k all_of) (fraction h.p) (up_to_itself config.hz w (fraction h.p))))

  -- and up to a later number
  up_later : (k m : ℕ) (t : T) → k ≤ m → IsAt k t → IsAt m t
  up_later k m t le at =
      let e : k + (m - k) ≡ m = omega arith in
      let more = sum_more (λ p. p.delta) i k (m - k) all_of in
      subst (λ n. IsAt n t) e (subst (λ n. IsUpTo config.hz w (fraction h.p) n (fraction t)) (sym more.1) (up_to_more config.hz w (fraction h.p) (sum_of (λ p. p.delta) i k all_of) more.0 (fraction t) at))

  greater : (k : ℕ) (t u : T) → IsAt k t → IsAt k u → IsAt k (ord_max ops.compare t u)
  greater k t u p q = by (is_lt (ops.compare u t)) where
    by : (c : Bool) → IsAt k (cond c t u)
    by true = p
    by false = q

  record IsSo (n : ℕ) : Type 0 where
    under : IsUnderIn ops fraction is_value exact order config some virtual b w i all_of (fraction h.p) (state n) (count n) (those_at n) (back_at n)
    on_time : (k : ℕ) → IsNumber (those_at n) k → IsAt k (Time (state n))

  first_number : (n : ℕ) → joined < n → n ≤ last → (k : ℕ) × IsNumber (those_at n) k
  first_number n g k =
      let r = front ops fraction is_value exact order config some virtual history replay b joined last final final_is h add asks within n g k in
      let m = first_waits (requests_of b (state n).clients) (those_at n) r.0 (asked_by_then ops fraction is_value exact order config some history replay b n) r.1 in
      (m.0.number, ap (option_map (λ (x : Numbered). x.number)) m.1)

  -- ---- right after h

  opened : IsSo (suc joined)
  opened =
      let is_step = step_at ops fraction is_value exact order config some history joined add.event replay add.here in
      let client = joined_at ops fraction is_value exact order config some virtual history replay b joined h add in
      let turn = found_turn ops fraction is_value exact order (state (suc joined)).clients b client.0 client.1 (sound (suc joined)).turn.clients in
      let asked : map asked_by client.0.requests ≡ map asked_of (those_at (suc joined)) = sym (ap (λ o. map asked_by (option_map_or (λ (c : PlainClient T). c.requests) o [])) client.1) ∙ asked_by_then ops fraction is_value exact order config some history replay b (suc joined) in
      let queued = all_up IsAt client.0.requests (those_at (suc joined)) asked (all_as _ _ (λ r f k. as_h k r.tags.p (subst (AtMost ops r.tags.p) client.2 f.p)) client.0.requests turn.follows) in
      let time_under = arrives_later ops fraction is_value exact order config some virtual (state joined) add.event.command h (sound joined) (sym is_step.reply_is ∙ add.tags_are) in
      let time_is : AtMost ops (Time (state (suc joined))) h.p = subst (λ s. AtMost ops (Time s) h.p) (sym is_step.next) time_under in
      record {
        under = subst (λ o. IfSome o (IsUnderClient ops fraction is_value exact order config some virtual b w i all_of (fraction h.p) (count (suc joined)) (those_at (suc joined)))) (sym client.1) (record {
          weight = subst (λ o. IfSome o (λ (c : PlainClient T). c.info.weight ≡ w)) client.1 weighs;
          queued = queued;
          last = as_h (count (suc joined)) client.0.previous.p (subst (λ p. AtMost ops p h.p) (sym client.2) (itself h.p));
        });
        on_time = λ k _. as_h k (Time (state (suc joined))) time_is;
      }
    where
      itself : (t : T) → AtMost ops t t
      itself t = at_most_itself ops order t

  -- ---- event by event

  next : (n : ℕ) → suc joined ≤ n → n < last → IsSo n → IsSo (suc n)
  next n g k is =
      let here = earlier history n last final final_is (omega (arith, k)) in
      let e = here.0 in
      let s = state n in
      let is_step = step_at ops fraction is_value exact order config some history n e replay here.1 in
      let shares = shares_are ops fraction is_value exact order config some virtual s (sound n) in
      let r = front ops fraction is_value exact order config some virtual history replay b joined last final final_is h add asks within n g (omega (arith, k)) in
      let first = first_number n g (omega (arith, k)) in
      let held = is.on_time first.0 first.1 in
      let of_first : IsAt first.0 r.0.tags.p = first_up n r.0 first.0 r.1 first.1 is.under in
      let now : IsAt first.0 (Time ((step ops s e.command).0)) = step_goes_on ops order s shares (sound n).turn (λ c reply new. e.command ≡ c → e.reply ≡ reply → IsAt first.0 (Time new))
      (λ c reply new no same _ _. subst (IsAt first.0) (sym same) held)
      (λ client token params at c tags new named given same _ _. subst (IsAt first.0) (sym (same ∙ ap (λ none. virtual_at ops none s.progress) (not_nothing b s.clients r.0 r.1))) held)
      (λ at found amount beyond new grant same c_is reply_is.
      let by : IsWeightGrant ops config history n found.client.id found.request = record { event = e; here = here.1; moment = at; pulls = c_is; beyond = beyond; grants = reply_is; first = granted_first ops fraction is_value exact order config some virtual s (sound n) grant } in
      let under = grants_under ops fraction is_value exact order config some virtual history replay b joined last final final_is h add asks within n found.client.id found.request r.0 by g (omega (arith, k)) r.1 in
      subst (IsAt first.0) (sym same) (greater first.0 s.progress.virtual_time found.request.tags.p held (lower first.0 found.request.tags.p r.0.tags.p under of_first)))
      e.command refl is_step.reply_is in
      let within_count = first_within (suc (count n)) (those_at n) first.0 first.1 (counted n).below in
      let floor_is = λ (t : T). ap (λ v. floor_by ops v (is_nothing_queued s.clients) s.progress t) shares ∙ ap (λ none. virtual_at ops none s.progress) (not_nothing b s.clients r.0 r.1) in
      let floor = λ (t : T). subst (IsAt (suc (count n))) (sym (floor_is t)) (up_later first.0 (suc (count n)) (Time s) (omega (arith, within_count)) held) in
      let stepped = step_under ops fraction is_value exact order config some virtual b w i all_of (fraction h.p) s (sound n) (count n) (those_at n) (back_at n) (asked_by_then ops fraction is_value exact order config some history replay b n) (since n g) floor is.under e.command in
      let keeps = kept n e g k here.1 in
      let comes = comes_next ops fraction is_value exact order config some history replay b n e here.1 in
      let moved = (subst (λ x. Keeps b e.command x → (rest : List Arrival) → drop (count n) all_of ≡ arrival_of b e.command x ++ rest → Next b (IsUnderIn ops fraction is_value exact order config some virtual b w i all_of (fraction h.p) ((step ops s e.command).0)) e.command x (count n) (those_at n) (back_at n)) (sym is_step.reply_is) stepped) keeps (arrivals b (drop (suc n) history)) comes in
      let under = reaches ops fraction is_value exact order config some history replay b n e here.1 (IsUnderIn ops fraction is_value exact order config some virtual b w i all_of (fraction h.p) ((step ops s e.command).0)) moved in
      let low = above_first (those_at n) first.0 first.1 (counted n).ascends in
      let grown = reaches ops fraction is_value exact order config some history replay b n e here.1 (λ a t x. AscendsFrom low.0 t) (subst (λ x. Next b (λ a t y. AscendsFrom low.0 t) e.command x (count n) (those_at n) (back_at n)) (sym is_step.reply_is) (grows ops order b s (sound n).turn e.command low.0 (count n) (those_at n) (back_at n) (omega (arith, within_count, low.1)) (counted n).below low.2)) in
      record {
        under = subst (λ z. IsUnderIn ops fraction is_value exact order config some virtual b w i all_of (fraction h.p) z (count (suc n)) (those_at (suc n)) (back_at (suc n))) (sym is_step.next) under;
        on_time = λ m number. subst (λ z. IsAt m (Time z)) (sym is_step.next) (up_later first.0 m (Time ((step ops s e.command).0)) (omega (arith, low.1, first_after low.0 (those_at (suc n)) m number grown)) now);
      }
    where
      since : (n : ℕ) → suc joined ≤ n → i ≤ count n
      since n g = omega (arith, arrivals_grow b history (suc joined) n g)

      first_up : (n : ℕ) (r : QueuedRequest T) (k : ℕ) → IsFirst ops config history n b r → IsNumber (those_at n) k → IsUnderIn ops fraction is_value exact order config some virtual b w i all_of (fraction h.p) (state n) (count n) (those_at n) (back_at n) → IsAt k r.tags.p
      first_up n r k first number is = by (client_named b (state n).clients) first is where
        by : (o : Option (PlainClient T)) → slice_get (option_map_or (λ (c : PlainClient T). c.requests) o []) 0 ≡ Some r → IfSome o (IsUnderClient ops fraction is_value exact order config some virtual b w i all_of (fraction h.p) (count n) (those_at n)) → IsAt k r.tags.p
        by None e h = cc
        by (Some c) e h = up_first IsAt (map (λ (x : QueuedRequest T). x.tags.p) c.requests) (those_at n) r.tags.p k (first_mapped (λ (x : QueuedRequest T). x.tags.p) c.requests r e) number h.queued

  -- so it is of the first request up to the last event
  pub first_is_at : joined < last → (k : ℕ) → IsNumber (those_at last) k → (r : QueuedRequest T) × IsFirst ops config history last b r × IsAt k r.tags.p
  first_is_at g k number =
      let is = upward IsSo (suc joined) last opened next last g (omega arith) in
      let r = front ops fraction is_value exact order config some virtual history replay b joined last final final_is h add asks within last g (omega arith) in
      (r.0, r.1, at (client_named b (state last).clients) r.0 r.1 is.under)
    where
      at : (o : Option (PlainClient T)) (r : QueuedRequest T) → slice_get (option_map_or (λ (c : PlainClient T). c.requests) o []) 0 ≡ Some r → IfSome o (IsUnderClient ops fraction is_value exact order config some virtual b w i all_of (fraction h.p) (count last) (those_at last)) → IsAt k r.tags.p
      at None r e h = cc
      at (Some c) r e h = up_first IsAt (map (λ (x : QueuedRequest T). x.tags.p) c.requests) (those_at last) r.tags.p k (first_mapped (λ (x : QueuedRequest T). x.tags.p) c.requests r e) number h.queued
