-- A stamp whose request no server took leaves no trace, if its counts go into the next stamp to its server.
use Rattle.std.proofs.Common.{◌≡◌, ℕ, List, [], ◌∷◌, ◌++◌, refl, sym, ap, ◌∙◌, subst, arith, Bool, true, false, cond, inl, inr, ◌⊎◌, ◌==◌, append_assoc}
use Rattle.std.proofs.lemmas.List.{append-nil}
use Rattle.std.proofs.lemmas.List.Sums.{sum_by-append, sum_by-cons, sum_by_push}
use Rattle.std.proofs.lemmas.Bool.{eq-eqb}
use Rattle.std.proofs.lemmas.Bool.Decides.{eqb_tells}
use Rattle.dmc_types.specs.Values.{Params, Counts, params_with, with_returned}
use Rattle.dmc_types.specs.declared.ids.ServerId.{ServerId}
use Rattle.dmc_types.specs.declared.config.Counting.{Counting}
use Rattle.dmc_tracker.specs.declared.event.TrackerEvent.{TrackerEvent}
use Rattle.dmc_tracker.specs.declared.event.TrackerEvent.TheVariants.{Stamp, Skip, Response}
use Rattle.dmc_tracker.specs.TrackerList.{plus, total, counted_by, is_mark_of, own_share, marks, pending, demanded, IsTracked}
use Rattle.dmc_tracker.proofs.ListLemmas.{same_counts, plus-none, none-plus, plus-assoc, total-push, snoc, pending-unmarked_push, pending-response, pending-stamp_same, pending-stamp_other, pending-skip_same, pending-skip_other}
use Rattle.dmc_tracker.proofs.LawLemmas.{IsTracked-front, IsTracked-stamp}

-- ---- what is pending after further entries follows from what was pending before them

module _ (counting : Counting) (q : ServerId) where
  pending-same_push : (xs ys : List TrackerEvent) (e : TrackerEvent) → pending counting q xs ≡ pending counting q ys
      → pending counting q (xs ++ e ∷ []) ≡ pending counting q (ys ++ e ∷ [])
  pending-same_push xs ys (Response s phase cost) same =
      pending-response counting q xs s phase cost
      ∙ ap (λ (p : Counts). plus p (counted_by counting q (Response s phase cost))) same
      ∙ sym (pending-response counting q ys s phase cost)
  pending-same_push xs ys (Stamp s params) same = elim (eqb_tells s.0 q.0) [
    | inl here ↦ pending-stamp_same counting q xs s params here.0 ∙ sym (pending-stamp_same counting q ys s params here.0)
    | inr there ↦
        pending-stamp_other counting q xs s params there.0 ∙ same ∙ sym (pending-stamp_other counting q ys s params there.0)
  ]
  pending-same_push xs ys (Skip s) same = elim (eqb_tells s.0 q.0) [
    | inl here ↦ pending-skip_same counting q xs s here.0 ∙ sym (pending-skip_same counting q ys s here.0)
    | inr there ↦ pending-skip_other counting q xs s there.0 ∙ same ∙ sym (pending-skip_other counting q ys s there.0)
  ]

  pending-same_append : (xs ys zs : List TrackerEvent) → pending counting q xs ≡ pending counting q ys
      → pending counting q (xs ++ zs) ≡ pending counting q (ys ++ zs)
  pending-same_append xs ys [] same = rw (append-nil xs, append-nil ys) same
  pending-same_append xs ys (z ∷ zs) same =
      rw (← append_assoc xs (z ∷ []) zs, ← append_assoc ys (z ∷ []) zs)
      (pending-same_append (xs ++ z ∷ []) (ys ++ z ∷ []) zs (pending-same_push xs ys z same))

-- ---- a list with no mark of s

not_counted : (b : Bool) → ◌≡◌ {A = ℕ} (cond b 1 0) 0 → b ≡ false
not_counted true one = absurd (omega (arith, one))
not_counted false none = refl

-- a stamp in it is to another server
unmarked-stamp : (s q : ServerId) (params : Params) (rest after : List TrackerEvent) → marks s (rest ++ Stamp q params ∷ after) ≡ 0
    → (s.0 == q.0) ≡ false
unmarked-stamp s q params rest after none =
    let one : TrackerEvent → ℕ = λ e. cond (is_mark_of s e) 1 0 in
    let stamp : ◌≡◌ {A = ℕ} (cond (q.0 == s.0) 1 0) 0 =
    omega (arith, none, sum_by-append one rest (Stamp q params ∷ after), sum_by-cons one (Stamp q params) after) in
    elim (eqb_tells s.0 q.0) [
      | inl here ↦ ap (λ n. s.0 == n) (sym here.1) ∙ ap (λ n. n == s.0) here.1 ∙ not_counted (q.0 == s.0) stamp
      | inr there ↦ there.0
    ]

-- what it counts becomes pending
pending-unmarked : (counting : Counting) (s : ServerId) (events more : List TrackerEvent) → marks s more ≡ 0
    → pending counting s (events ++ more) ≡ plus (pending counting s events) (total (counted_by counting s) more)
pending-unmarked counting s events more = snoc IsAdded none_added step [] more none_added
  where
    IsAdded : List TrackerEvent → Type 0
    IsAdded es = marks s es ≡ 0 → pending counting s (events ++ es) ≡ plus (pending counting s events) (total (counted_by counting s) es)

    none_added : IsAdded []
    none_added none = ap (pending counting s) (append-nil events) ∙ sym (plus-none (pending counting s events))

    step : (es : List TrackerEvent) (e : TrackerEvent) → IsAdded es → IsAdded (es ++ e ∷ [])
    step es e h none =
        let count = sum_by_push (λ x. cond (is_mark_of s x) 1 0) es e in
        ap (pending counting s) (sym (append_assoc events es (e ∷ [])))
        ∙ pending-unmarked_push counting s (events ++ es) e (not_counted (is_mark_of s e) (omega (arith, none, count)))
        ∙ ap (λ (p : Counts). plus p (counted_by counting s e)) (h (omega (arith, none, count)))
        ∙ plus-assoc (pending counting s events) (total (counted_by counting s) es) (counted_by counting s e)
        ∙ ap (plus (pending counting s events)) (sym (total-push (counted_by counting s) es e))

-- ---- a tracked list with another front

-- a list of two parts is parted in the first of them or in the second
parted_append : (xs ys before after : List TrackerEvent) (e : TrackerEvent) → xs ++ ys ≡ before ++ e ∷ after
    → ((rest : List TrackerEvent) × (xs ≡ before ++ e ∷ rest))
    ⊎ ((rest : List TrackerEvent) × (before ≡ xs ++ rest) × (ys ≡ rest ++ e ∷ after))
parted_append [] ys before after e same = inr (before, refl, same)
parted_append (x ∷ xs) ys [] after e same = inl (xs, (let head : x ≡ e = cc in ap (λ z. z ∷ xs) head))
parted_append (x ∷ xs) ys (b ∷ before) after e same =
    let tail : xs ++ ys ≡ before ++ e ∷ after = cc in
    let head : x ≡ b = cc in
    elim (parted_append xs ys before after e tail) [
      | inl w ↦ inl (w.0, ap (λ z. z ∷ xs) head ∙ ap (λ zs. b ∷ zs) w.1)
      | inr w ↦ inr (w.0, ap (λ z. z ∷ before) (sym head) ∙ ap (λ zs. x ∷ zs) w.1, w.2)
    ]

-- what a stamp carries, by what is pending at its server
abbrev carried : Counting → ℕ → Counts → Params
carried counting cost waiting = params_with (plus waiting (own_share counting cost)) cost

-- each later stamp finds the same pending at its server
IsTracked-swapped : (counting : Counting) (xs ys zs : List TrackerEvent) → IsTracked counting (xs ++ zs) → IsTracked counting ys
    → ((rest after : List TrackerEvent) (q : ServerId) (params : Params) → zs ≡ rest ++ Stamp q params ∷ after
    → pending counting q xs ≡ pending counting q ys)
    → IsTracked counting (ys ++ zs)
IsTracked-swapped counting xs ys zs tracked front same = λ before after q params e.
    elim (parted_append ys zs before after (Stamp q params) e) [
      | inl w ↦ front before w.0 q params w.1
      | inr w ↦
          tracked (xs ++ w.0) after q params (ap (λ es. xs ++ es) w.2 ∙ sym (append_assoc xs w.0 (Stamp q params ∷ after)))
          ∙ ap (carried counting params.cost) (pending-same_append counting q xs ys w.0 (same w.0 after q params w.2))
          ∙ ap (demanded counting q params.cost) (sym w.1)
    ]

-- ---- the law

-- what was pending at a stamp, without its own share, and what became pending after it
with_returned-counts : (counting : Counting) (earlier later : Counts) (returned next : Params)
    → returned ≡ carried counting returned.cost earlier → next ≡ carried counting next.cost later
    → with_returned counting returned next ≡ carried counting next.cost (plus earlier later)
with_returned-counts counting earlier later returned next returned_is next_is =
    let delta = ap (λ (p : Params). p.delta) returned_is in
    let rho = ap (λ (p : Params). p.rho) returned_is in
    let next_delta = ap (λ (p : Params). p.delta) next_is in
    let next_rho = ap (λ (p : Params). p.rho) next_is in
    ap (λ (c : Counts). params_with c next.cost) (same_counts _ _ (omega (arith, delta, next_delta)) (omega (arith, rho, next_rho)))

module _ (counting : Counting) (before between after : List TrackerEvent) (s : ServerId) (returned next : Params) where
  abbrev given_up : List TrackerEvent
  given_up = before ++ Stamp s returned ∷ []

  abbrev rest : List TrackerEvent
  rest = between ++ Stamp s next ∷ after

  abbrev joined : Params
  joined = with_returned counting returned next

  -- after both stamps to s the same is pending at each server
  pending-same_after : (q : ServerId)
      → pending counting q ((given_up ++ between) ++ Stamp s next ∷ []) ≡ pending counting q ((before ++ between) ++ Stamp s joined ∷ [])
  pending-same_after q = elim (eqb_tells s.0 q.0) [
    | inl here ↦
        pending-stamp_same counting q (given_up ++ between) s next here.0
        ∙ sym (pending-stamp_same counting q (before ++ between) s joined here.0)
    | inr there ↦
        pending-stamp_other counting q (given_up ++ between) s next there.0
        ∙ pending-same_append counting q given_up before between (pending-stamp_other counting q before s returned there.0)
        ∙ sym (pending-stamp_other counting q (before ++ between) s joined there.0)
  ]

  module _ (tracked : IsTracked counting (before ++ Stamp s returned ∷ rest)) (none : marks s between ≡ 0) where
    -- the list as it was, parted before the next stamp and after it
    before_next : IsTracked counting ((given_up ++ between) ++ Stamp s next ∷ after)
    before_next =
        subst (IsTracked counting)
        (sym (append_assoc given_up between (Stamp s next ∷ after) ∙ append_assoc before (Stamp s returned ∷ []) rest)) tracked

    after_next : IsTracked counting (((given_up ++ between) ++ Stamp s next ∷ []) ++ after)
    after_next = subst (IsTracked counting) (sym (append_assoc (given_up ++ between) (Stamp s next ∷ []) after)) before_next

    -- what became pending after the stamp that is given up
    pending-since : pending counting s (given_up ++ between) ≡ total (counted_by counting s) between
    pending-since =
        pending-unmarked counting s given_up between none
        ∙ ap (λ (p : Counts). plus p (total (counted_by counting s) between)) (pending-stamp_same counting s before s returned (eq-eqb s.0 s.0 refl))
        ∙ none-plus (total (counted_by counting s) between)

    -- the next stamp then carries what is demanded where the other one was not stamped
    joined-demanded : joined ≡ demanded counting s next.cost (before ++ between)
    joined-demanded =
        with_returned-counts counting (pending counting s before) (total (counted_by counting s) between) returned next
        (tracked before rest s returned refl)
        (before_next (given_up ++ between) after s next refl ∙ ap (carried counting next.cost) pending-since)
        ∙ ap (carried counting next.cost) (sym (pending-unmarked counting s before between none))

    -- the list without that stamp is tracked up to the next one, with the next one, and to its end
    IsTracked-without : IsTracked counting (before ++ between)
    IsTracked-without =
        IsTracked-swapped counting given_up before between
        (IsTracked-front counting (given_up ++ between) (Stamp s next ∷ after) before_next)
        (IsTracked-front counting before (Stamp s returned ∷ rest) tracked)
        (λ part more q params e. pending-stamp_other counting q before s returned (unmarked-stamp s q params part more (subst (λ es. marks s es ≡ 0) e none)))

    IsTracked-joined : IsTracked counting ((before ++ between) ++ Stamp s joined ∷ [])
    IsTracked-joined = IsTracked-stamp counting (before ++ between) s next.cost joined joined-demanded IsTracked-without

    pub IsTracked-returned : IsTracked counting (before ++ (between ++ Stamp s (with_returned counting returned next) ∷ after))
    IsTracked-returned =
        subst (IsTracked counting)
        (append_assoc (before ++ between) (Stamp s joined ∷ []) after ∙ append_assoc before between (Stamp s joined ∷ after))
        (IsTracked-swapped counting ((given_up ++ between) ++ Stamp s next ∷ []) ((before ++ between) ++ Stamp s joined ∷ []) after
        after_next IsTracked-joined (λ part more q params e. pending-same_after q))
