-- The laws of a tracker list.
use Rattle.std.proofs.Common.{◌≡◌, ℕ, ◌+◌, ◌≤◌, List, [], ◌∷◌, ◌++◌, refl, sym, ap, ◌∙◌, arith, true, false, cond, inl, inr, ◌⊎◌, ◌==◌, append_assoc}
use Rattle.std.proofs.lemmas.List.Sums.{sum_by_push, sum_by-append}
use Rattle.std.proofs.lemmas.Bool.{eq-eqb}
use Rattle.std.proofs.lemmas.Bool.Decides.{eqb_tells}
use Rattle.dmc_types.specs.Values.{Params, Counts, no_counts, counts_of}
use Rattle.dmc_types.specs.declared.ids.ServerId.{ServerId}
use Rattle.dmc_types.specs.declared.config.Counting.{Counting}
use Rattle.dmc_types.specs.declared.config.Counting.TheVariants.{All, Others}
use Rattle.dmc_types.specs.declared.config.PhaseType.{PhaseType}
use Rattle.dmc_tracker.specs.declared.event.TrackerEvent.{TrackerEvent}
use Rattle.dmc_tracker.specs.declared.event.TrackerEvent.TheVariants.{Stamp, Skip, Response}
use Rattle.dmc_tracker.specs.TrackerList.{plus, total, completed_in, completed_by, counted_by, sent_by, stamp_cost, own_share, completions, others, stamp_costs, sent, skipped, skipped_after, pending, demanded, IsTracked}
use Rattle.dmc_tracker.proofs.RepresentsLemmas.{same_server}
use Rattle.dmc_tracker.proofs.ListLemmas.{same_counts, plus-none, none-plus, total-push, snoc, completions-stamp, completions-skip, completions-response, sent-response, sent-stamp_same, sent-stamp_other, sent-skip, pending-response, pending-stamp_same, pending-stamp_other, pending-skip_same, pending-skip_other, skipped-append, skipped-stamp, skipped-response, skipped-skip_same, skipped-skip_other}

-- the front of a tracked list is tracked
pub IsTracked-front : (counting : Counting) (events more : List TrackerEvent) → IsTracked counting (events ++ more) → IsTracked counting events
IsTracked-front counting events more h = λ before after s params e.
    h before (after ++ more) s params (ap (λ xs. xs ++ more) e ∙ append_assoc before (Stamp s params ∷ after) more)

-- what the stamps to s count for their own requests
abbrev own_by : Counting → ServerId → TrackerEvent → Counts
own_by counting s (Stamp server params) = cond (server.0 == s.0) (own_share counting params.cost) no_counts
own_by counting s (Skip server) = no_counts
own_by counting s (Response server phase cost) = no_counts

-- what was sent to s, what was skipped and what is pending there is what was counted for s, and the own shares
abbrev IsSum : Counting → ServerId → List TrackerEvent → Type 0
IsSum counting s events =
    plus (plus (sent s events) (skipped counting s events)) (pending counting s events)
    ≡ plus (total (own_by counting s) events) (total (counted_by counting s) events)

-- one entry more: a part k becomes pending, or a stamp sends all that is pending and its own share, or a skip skips all
-- that is pending
grows : (S K P O C k S' K' P' O' C' : Counts) → S' ≡ S → K' ≡ K → P' ≡ plus P k → O' ≡ plus O no_counts → C' ≡ plus C k
    → plus (plus S K) P ≡ plus O C → plus (plus S' K') P' ≡ plus O' C'
grows S K P O C k S' K' P' O' C' s l p o c h =
    let d = ap (λ (x : Counts). x.delta) h in
    let r = ap (λ (x : Counts). x.rho) h in
    rw (s, l, p, o, c) (same_counts _ _ (omega (arith, d)) (omega (arith, r)))

sends : (S K P O C k share S' K' P' O' C' : Counts) → k ≡ plus P share → S' ≡ plus S k → K' ≡ K → P' ≡ no_counts → O' ≡ plus O share
    → C' ≡ plus C no_counts → plus (plus S K) P ≡ plus O C → plus (plus S' K') P' ≡ plus O' C'
sends S K P O C k share S' K' P' O' C' e s l p o c h =
    let d = ap (λ (x : Counts). x.delta) h in
    let r = ap (λ (x : Counts). x.rho) h in
    rw (s, l, p, o, c, e) (same_counts _ _ (omega (arith, d)) (omega (arith, r)))

passes : (S K P O C S' K' P' O' C' : Counts) → S' ≡ S → K' ≡ plus K P → P' ≡ no_counts → O' ≡ plus O no_counts → C' ≡ plus C no_counts
    → plus (plus S K) P ≡ plus O C → plus (plus S' K') P' ≡ plus O' C'
passes S K P O C S' K' P' O' C' s l p o c h =
    let d = ap (λ (x : Counts). x.delta) h in
    let r = ap (λ (x : Counts). x.rho) h in
    rw (s, l, p, o, c) (same_counts _ _ (omega (arith, d)) (omega (arith, r)))

sums-push : (counting : Counting) (s : ServerId) (events : List TrackerEvent) (e : TrackerEvent)
    → (IsTracked counting events → IsSum counting s events) → IsTracked counting (events ++ e ∷ []) → IsSum counting s (events ++ e ∷ [])
sums-push counting s events (Response q phase cost) h tracked =
    grows _ _ _ _ _ (counted_by counting s (Response q phase cost)) _ _ _ _ _
    (sent-response s events q phase cost) (skipped-response counting s events q phase cost)
    (pending-response counting s events q phase cost)
    (total-push (own_by counting s) events (Response q phase cost))
    (total-push (counted_by counting s) events (Response q phase cost))
    (h (IsTracked-front counting events (Response q phase cost ∷ []) tracked))
sums-push counting s events (Stamp q params) h tracked =
    let before = h (IsTracked-front counting events (Stamp q params ∷ []) tracked) in
    let own = total-push (own_by counting s) events (Stamp q params) in
    let counted = total-push (counted_by counting s) events (Stamp q params) in
    elim (eqb_tells q.0 s.0) [
      | inl here ↦
          sends _ _ _ _ _ (counts_of params) (own_share counting params.cost) _ _ _ _ _
          (ap counts_of (tracked events [] q params refl ∙ ap (λ x. demanded counting x params.cost events) (same_server q s here.1)))
          (sent-stamp_same s events q params here.0) (skipped-stamp counting s events q params)
          (pending-stamp_same counting s events q params here.0)
          (own ∙ ap (λ b. plus (total (own_by counting s) events) (cond b (own_share counting params.cost) no_counts)) here.0)
          counted before
      | inr there ↦
          grows _ _ _ _ _ no_counts _ _ _ _ _
          (sent-stamp_other s events q params there.0) (skipped-stamp counting s events q params)
          (pending-stamp_other counting s events q params there.0 ∙ sym (plus-none _))
          (own ∙ ap (λ b. plus (total (own_by counting s) events) (cond b (own_share counting params.cost) no_counts)) there.0)
          counted before
    ]
sums-push counting s events (Skip q) h tracked =
    let before = h (IsTracked-front counting events (Skip q ∷ []) tracked) in
    let own = total-push (own_by counting s) events (Skip q) in
    let counted = total-push (counted_by counting s) events (Skip q) in
    elim (eqb_tells q.0 s.0) [
      | inl here ↦
          passes _ _ _ _ _ _ _ _ _ _
          (sent-skip s events q) (skipped-skip_same counting s events q here.0) (pending-skip_same counting s events q here.0)
          own counted before
      | inr there ↦
          grows _ _ _ _ _ no_counts _ _ _ _ _
          (sent-skip s events q) (skipped-skip_other counting s events q there.0)
          (pending-skip_other counting s events q there.0 ∙ sym (plus-none _))
          own counted before
    ]

sums : (counting : Counting) (s : ServerId) (events : List TrackerEvent) → IsTracked counting events → IsSum counting s events
sums counting s events =
    snoc (λ es. IsTracked counting es → IsSum counting s es) (λ _. refl) (sums-push counting s) [] events (λ _. refl)

-- in `All` the own shares are nothing, and what is counted are the completions
own-all : (s : ServerId) (events : List TrackerEvent) → total (own_by All s) events ≡ no_counts
own-all s events = snoc (λ es. total (own_by All s) es ≡ no_counts) refl (step) [] events refl
  where
    step : (es : List TrackerEvent) (e : TrackerEvent) → total (own_by All s) es ≡ no_counts → total (own_by All s) (es ++ e ∷ []) ≡ no_counts
    step es (Response q phase cost) h = total-push (own_by All s) es (Response q phase cost) ∙ ap (λ x. plus x no_counts) h
    step es (Skip q) h = total-push (own_by All s) es (Skip q) ∙ ap (λ x. plus x no_counts) h
    step es (Stamp q params) h =
        total-push (own_by All s) es (Stamp q params)
        ∙ elim (q.0 == s.0) as (λ b. plus (total (own_by All s) es) (cond b no_counts no_counts) ≡ no_counts) [
          | true ↦ ap (λ x. plus x no_counts) h
          | false ↦ ap (λ x. plus x no_counts) h
        ]

counted-all : (s : ServerId) (events : List TrackerEvent) → total (counted_by All s) events ≡ completions events
counted-all s events = snoc (λ es. total (counted_by All s) es ≡ completions es) refl step [] events refl
  where
    step : (es : List TrackerEvent) (e : TrackerEvent) → total (counted_by All s) es ≡ completions es
        → total (counted_by All s) (es ++ e ∷ []) ≡ completions (es ++ e ∷ [])
    step es (Response q phase cost) h =
        total-push (counted_by All s) es (Response q phase cost) ∙ ap (λ x. plus x (completed_in phase cost)) h
        ∙ sym (total-push completed_by es (Response q phase cost))
    step es (Stamp q params) h =
        total-push (counted_by All s) es (Stamp q params) ∙ ap (λ x. plus x no_counts) h
        ∙ sym (total-push completed_by es (Stamp q params))
    step es (Skip q) h =
        total-push (counted_by All s) es (Skip q) ∙ ap (λ x. plus x no_counts) h
        ∙ sym (total-push completed_by es (Skip q))

abbrev pair : ℕ → Counts
pair n = record { delta = n; rho = n }

-- in `Others` the share of each stamp to s is what it costs
own-others : (s : ServerId) (events : List TrackerEvent) → total (own_by Others s) events ≡ record { delta = stamp_costs s events; rho = stamp_costs s events }
own-others s events =
    snoc (λ es. total (own_by Others s) es ≡ pair (stamp_costs s es)) refl step [] events refl
  where
    step : (es : List TrackerEvent) (e : TrackerEvent) → total (own_by Others s) es ≡ pair (stamp_costs s es)
        → total (own_by Others s) (es ++ e ∷ []) ≡ pair (stamp_costs s (es ++ e ∷ []))
    step es (Response q phase cost) h =
        total-push (own_by Others s) es (Response q phase cost) ∙ ap (λ x. plus x no_counts) h
        ∙ ap pair (sym (sum_by_push (stamp_cost s) es (Response q phase cost)))
    step es (Skip q) h =
        total-push (own_by Others s) es (Skip q) ∙ ap (λ x. plus x no_counts) h
        ∙ ap pair (sym (sum_by_push (stamp_cost s) es (Skip q)))
    step es (Stamp q params) h =
        total-push (own_by Others s) es (Stamp q params)
        ∙ (elim (q.0 == s.0) as (λ b. plus (total (own_by Others s) es) (cond b (own_share Others params.cost) no_counts) ≡ pair (stamp_costs s es + cond b params.cost 0)) [
          | true ↦ ap (λ x. plus x (own_share Others params.cost)) h
          | false ↦ ap (λ x. plus x no_counts) h
        ])
        ∙ ap pair (sym (sum_by_push (stamp_cost s) es (Stamp q params)))

-- what was sent to s, what was skipped and what is pending there are the completions
pub sums-all : (s : ServerId) (events : List TrackerEvent) → IsTracked All events
    → plus (plus (sent s events) (skipped All s events)) (pending All s events) ≡ completions events
sums-all s events h =
    sums All s events h ∙ ap (λ x. plus x (total (counted_by All s) events)) (own-all s events)
    ∙ none-plus (total (counted_by All s) events) ∙ counted-all s events

-- in `Others` they are the costs of the stamps to s and the completions at the other servers
pub sums-others : (s : ServerId) (events : List TrackerEvent) → IsTracked Others events
    → plus (plus (sent s events) (skipped Others s events)) (pending Others s events)
    ≡ plus (record { delta = stamp_costs s events; rho = stamp_costs s events }) (others s events)
sums-others s events h = sums Others s events h ∙ ap (λ x. plus x (others s events)) (own-others s events)

-- the empty list is tracked
pub IsTracked-nil : (counting : Counting) → IsTracked counting []
IsTracked-nil counting = λ before after s params e. absurd (nil-ne before after s params e)
  where
    nil-ne : (before after : List TrackerEvent) (s : ServerId) (params : Params) → [] ≡ before ++ Stamp s params ∷ after → ⊥
    nil-ne [] after s params e = cc
    nil-ne (x ∷ before) after s params e = cc

-- a list with one entry more is parted before its end or at it
parted : (xs before after : List TrackerEvent) (x y : TrackerEvent) → xs ++ x ∷ [] ≡ before ++ y ∷ after
    → ((rest : List TrackerEvent) × (xs ≡ before ++ y ∷ rest)) ⊎ ((xs ≡ before) × (x ≡ y))
parted [] [] after x y e = inr (refl, cc)
parted [] (b ∷ []) after x y e = absurd (cc)
parted [] (b ∷ (c ∷ before)) after x y e = absurd (cc)
parted (a ∷ xs) [] after x y e = inl (xs, (let h : a ≡ y = cc in ap (λ z. z ∷ xs) h))
parted (a ∷ xs) (b ∷ before) after x y e =
    let tail : xs ++ x ∷ [] ≡ before ++ y ∷ after = cc in
    let head : a ≡ b = cc in
    elim (parted xs before after x y tail) [
      | inl w ↦ inl (w.0, ap (λ z. z ∷ xs) head ∙ ap (λ zs. b ∷ zs) w.1)
      | inr w ↦ inr (ap (λ z. z ∷ xs) head ∙ ap (λ zs. b ∷ zs) w.0, w.1)
    ]

pub IsTracked-stamp : (counting : Counting) (events : List TrackerEvent) (s : ServerId) (cost : ℕ) (params : Params)
    → params ≡ demanded counting s cost events → IsTracked counting events → IsTracked counting (events ++ Stamp s params ∷ [])
IsTracked-stamp counting events s cost params due h = λ before after q carried e.
    elim (parted events before after (Stamp s params) (Stamp q carried) e) [
      | inl w ↦ h before w.0 q carried w.1
      | inr w ↦
          (let same : s ≡ q = cc in
          let given : params ≡ carried = cc in
          let costs : cost ≡ carried.cost = sym (ap (λ (p : Params). p.cost) (sym given ∙ due)) in
          sym given ∙ due ∙ ap (λ x. demanded counting x cost events) same ∙ ap (demanded counting q cost) w.0
          ∙ ap (λ n. demanded counting q n before) costs)
    ]

pub IsTracked-response : (counting : Counting) (events : List TrackerEvent) (s : ServerId) (phase : PhaseType) (cost : ℕ) → IsTracked counting events
    → IsTracked counting (events ++ Response s phase cost ∷ [])
IsTracked-response counting events s phase cost h = λ before after q params e.
    elim (parted events before after (Response s phase cost) (Stamp q params) e) [
      | inl w ↦ h before w.0 q params w.1
      | inr w ↦ absurd (let differ = w.1 in cc)
    ]

pub IsTracked-skip : (counting : Counting) (events : List TrackerEvent) (s : ServerId) → IsTracked counting events
    → IsTracked counting (events ++ Skip s ∷ [])
IsTracked-skip counting events s h = λ before after q params e.
    elim (parted events before after (Skip s) (Stamp q params) e) [
      | inl w ↦ h before w.0 q params w.1
      | inr w ↦ absurd (let differ = w.1 in cc)
    ]

total-append : (f : TrackerEvent → Counts) (xs ys : List TrackerEvent) → total f (xs ++ ys) ≡ plus (total f xs) (total f ys)
total-append f xs ys =
    same_counts _ _ (sum_by-append (λ x. (f x).delta) xs ys) (sum_by-append (λ x. (f x).rho) xs ys)

-- up to a stamp to s, all completions were sent to s or skipped there
sent-all : (s : ServerId) (params : Params) (events : List TrackerEvent) → IsTracked All (events ++ Stamp s params ∷ [])
    → plus (sent s (events ++ Stamp s params ∷ [])) (skipped All s (events ++ Stamp s params ∷ [])) ≡ completions events
sent-all s params events h =
    let whole = events ++ Stamp s params ∷ [] in
    let none = pending-stamp_same All s events s params (eq-eqb s.0 s.0 refl) in
    sym (ap (λ x. plus (plus (sent s whole) (skipped All s whole)) x) none ∙ plus-none _)
    ∙ sums-all s whole h
    ∙ completions-stamp events s params

-- two sums of which each has a part before and a part after
pairs : (A B C D : Counts) → plus (plus A C) (plus B D) ≡ plus (plus A B) (plus C D)
pairs A B C D = same_counts _ _ (omega arith) (omega arith)

pub sent-between : (before between after : List TrackerEvent) (s : ServerId) (first last : Params)
    → IsTracked All (before ++ Stamp s first ∷ (between ++ Stamp s last ∷ after))
    → plus (completions before) (plus (sent s (between ++ Stamp s last ∷ [])) (skipped_after All s (before ++ Stamp s first ∷ []) (between ++ Stamp s last ∷ [])))
    ≡ completions (before ++ Stamp s first ∷ between)
sent-between before between after s first last h =
    let whole = before ++ Stamp s first ∷ between in
    let front = before ++ Stamp s first ∷ [] in
    let back = between ++ Stamp s last ∷ [] in
    let joined : front ++ back ≡ whole ++ Stamp s last ∷ [] = simp append_assoc in
    let to_first = IsTracked-front All front (between ++ Stamp s last ∷ after) (rw append_assoc h) in
    let to_last = IsTracked-front All (whole ++ Stamp s last ∷ []) after (rw (append_assoc, append_assoc) h) in
    ap (λ x. plus x (plus (sent s back) (skipped_after All s front back))) (sym (sent-all s first before to_first))
    ∙ pairs (sent s front) (sent s back) (skipped All s front) (skipped_after All s front back)
    ∙ ap (λ x. plus x (plus (skipped All s front) (skipped_after All s front back))) (sym (total-append (sent_by s) front back))
    ∙ ap (plus (sent s (front ++ back))) (sym (skipped-append All s [] front back))
    ∙ ap (λ es. plus (sent s es) (skipped All s es)) joined
    ∙ sent-all s last whole to_last

-- what is pending is at most the completions, in each form
pub pending-le : (counting : Counting) (s : ServerId) (events : List TrackerEvent) → (pending counting s events).delta ≤ (completions events).delta
pending-le counting s events = snoc (λ es. (pending counting s es).delta ≤ (completions es).delta) (omega arith) step [] events (omega arith)
  where
    part : (form : Counting) (q : ServerId) (phase : PhaseType) (cost : ℕ) → (counted_by form s (Response q phase cost)).delta ≤ (completed_in phase cost).delta
    part All q phase cost = omega arith
    part Others q phase cost = elim (q.0 == s.0) as (λ b. (cond b no_counts (completed_in phase cost)).delta ≤ (completed_in phase cost).delta) [
      | true ↦ omega arith
      | false ↦ omega arith
    ]

    step : (es : List TrackerEvent) (e : TrackerEvent) → (pending counting s es).delta ≤ (completions es).delta
        → (pending counting s (es ++ e ∷ [])).delta ≤ (completions (es ++ e ∷ [])).delta
    step es (Response q phase cost) h =
        let grown = ap (λ (x : Counts). x.delta) (pending-response counting s es q phase cost) in
        let more = ap (λ (x : Counts). x.delta) (completions-response es q phase cost) in
        omega (arith, h, grown, more, part counting q phase cost)
    step es (Stamp q params) h =
        let same = ap (λ (x : Counts). x.delta) (completions-stamp es q params) in
        elim (eqb_tells q.0 s.0) [
          | inl here ↦
              (let none = ap (λ (x : Counts). x.delta) (pending-stamp_same counting s es q params here.0) in omega (arith, none, same))
          | inr there ↦
              (let kept = ap (λ (x : Counts). x.delta) (pending-stamp_other counting s es q params there.0) in omega (arith, h, kept, same))
        ]
    step es (Skip q) h =
        let same = ap (λ (x : Counts). x.delta) (completions-skip es q) in
        elim (eqb_tells q.0 s.0) [
          | inl here ↦
              (let none = ap (λ (x : Counts). x.delta) (pending-skip_same counting s es q here.0) in omega (arith, none, same))
          | inr there ↦
              (let kept = ap (λ (x : Counts). x.delta) (pending-skip_other counting s es q there.0) in omega (arith, h, kept, same))
        ]

pub next-all : (events : List TrackerEvent) (s : ServerId) (cost : ℕ) → IsTracked All events
    → (sent s events).delta + (demanded All s cost events).delta ≤ (completions events).delta
next-all events s cost h =
    let e = ap (λ (x : Counts). x.delta) (sums-all s events h) in
    omega (arith, e)
