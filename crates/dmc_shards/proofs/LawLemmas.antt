-- The laws of a list of calls.
use Rattle.std.proofs.Common.{◌≡◌, ◌-◌, ◌≤◌, List, [], ◌∷◌, ◌++◌, refl, sym, ap, ◌∙◌, subst, arith, cond, inl, inr, ◌⊎◌, append_assoc}
use Rattle.std.proofs.lemmas.Bool.Decides.{eqb_tells}
use Rattle.dmc_types.specs.Values.{Params, Counts, no_counts, counts_of}
use Rattle.dmc_types.specs.declared.ids.ServerId.{ServerId}
use Rattle.dmc_tracker.specs.TrackerList.{plus}
use Rattle.dmc_tracker.proofs.ForCallers.{same_counts, plus-none, same_server}
use Rattle.dmc_shards.specs.declared.call.ShardCall.{ShardCall}
use Rattle.dmc_shards.specs.declared.call.ShardCall.TheVariants.{Arrive, GiveBack, Skip}
use Rattle.dmc_shards.specs.CallList.{given_back_by, came, given_back, pending, stamped, skipped, sent, IsWithin, IsAccepted}
use Rattle.dmc_shards.proofs.ListLemmas.{snoc, came-push, given_back-push, pending-arrival, pending-other, pending-skip_here, stamped-push, stamped-arrival_here, stamped-arrival_there, stamped-give_back, stamped-skip, skipped-arrival, skipped-give_back, skipped-skip_here, skipped-skip_there}

-- ---- what was stamped, what was skipped and what is pending is what came and what came back

abbrev IsSum : ServerId → List ShardCall → Type 0
IsSum s calls = plus (plus (stamped s calls) (skipped s calls)) (pending s calls) ≡ plus (came calls) (given_back s calls)

-- an arrival stamps what is pending and k; a skip skips what is pending; another call leaves k that came and g that came back pending
stamps : (S K P C G k S' K' P' C' G' : Counts) → S' ≡ plus S (plus P k) → K' ≡ K → P' ≡ no_counts → C' ≡ plus C k → G' ≡ plus G no_counts
    → plus (plus S K) P ≡ plus C G → plus (plus S' K') P' ≡ plus C' G'
stamps S K P C G k S' K' P' C' G' s z p c g h =
    let d = ap (λ (x : Counts). x.delta) h in
    let r = ap (λ (x : Counts). x.rho) h in
    rw (s, z, p, c, g) (same_counts _ _ (omega (arith, d)) (omega (arith, r)))

passes : (S K P C G S' K' P' C' G' : Counts) → S' ≡ S → K' ≡ plus K P → P' ≡ no_counts → C' ≡ plus C no_counts → G' ≡ plus G no_counts
    → plus (plus S K) P ≡ plus C G → plus (plus S' K') P' ≡ plus C' G'
passes S K P C G S' K' P' C' G' s z p c g h =
    let d = ap (λ (x : Counts). x.delta) h in
    let r = ap (λ (x : Counts). x.rho) h in
    rw (s, z, p, c, g) (same_counts _ _ (omega (arith, d)) (omega (arith, r)))

leaves : (S K P C G k g S' K' P' C' G' : Counts) → S' ≡ S → K' ≡ K → P' ≡ plus P (plus k g) → C' ≡ plus C k → G' ≡ plus G g
    → plus (plus S K) P ≡ plus C G → plus (plus S' K') P' ≡ plus C' G'
leaves S K P C G k g S' K' P' C' G' s z p c b h =
    let d = ap (λ (x : Counts). x.delta) h in
    let r = ap (λ (x : Counts). x.rho) h in
    rw (s, z, p, c, b) (same_counts _ _ (omega (arith, d)) (omega (arith, r)))

sum-push : (s : ServerId) (calls : List ShardCall) (c : ShardCall) → IsSum s calls → IsSum s (calls ++ c ∷ [])
sum-push s calls (Arrive q params) h = elim (eqb_tells q.0 s.0) [
  | inl here ↦
      stamps _ _ _ _ _ (counts_of params) _ _ _ _ _
      (stamped-arrival_here s calls q params here.0) (skipped-arrival s calls q params) (pending-arrival calls s q params here.0)
      (came-push calls (Arrive q params)) (given_back-push calls s (Arrive q params)) h
  | inr there ↦
      leaves _ _ _ _ _ (counts_of params) no_counts _ _ _ _ _
      (stamped-arrival_there s calls q params there.0) (skipped-arrival s calls q params) (pending-other calls s (Arrive q params) there.0)
      (came-push calls (Arrive q params)) (given_back-push calls s (Arrive q params)) h
]
sum-push s calls (GiveBack q params) h =
    leaves _ _ _ _ _ no_counts (given_back_by s (GiveBack q params)) _ _ _ _ _
    (stamped-give_back s calls q params) (skipped-give_back s calls q params) (pending-other calls s (GiveBack q params) refl)
    (came-push calls (GiveBack q params)) (given_back-push calls s (GiveBack q params)) h
sum-push s calls (Skip q) h = elim (eqb_tells q.0 s.0) [
  | inl here ↦
      passes _ _ _ _ _ _ _ _ _ _
      (stamped-skip s calls q) (skipped-skip_here s calls q here.0) (pending-skip_here calls s q here.0)
      (came-push calls (Skip q)) (given_back-push calls s (Skip q)) h
  | inr there ↦
      leaves _ _ _ _ _ no_counts no_counts _ _ _ _ _
      (stamped-skip s calls q) (skipped-skip_there s calls q there.0) (pending-other calls s (Skip q) there.0)
      (came-push calls (Skip q)) (given_back-push calls s (Skip q)) h
]

pub stamped_and_pending : (s : ServerId) (calls : List ShardCall) → plus (plus (stamped s calls) (skipped s calls)) (pending s calls) ≡ plus (came calls) (given_back s calls)
stamped_and_pending s calls = snoc (IsSum s) refl (sum-push s) [] calls refl

-- ---- accepted lists

-- the front of an accepted list is accepted
pub IsAccepted-front : (calls more : List ShardCall) → IsAccepted (calls ++ more) → IsAccepted calls
IsAccepted-front calls more h = λ before after s params e.
    h before (after ++ more) s params (ap (λ xs. xs ++ more) e ∙ append_assoc before (GiveBack s params ∷ after) more)

pub IsAccepted-nil : IsAccepted []
IsAccepted-nil = λ before after s params e. absurd (nil-ne before after s params e)
  where
    nil-ne : (before after : List ShardCall) (s : ServerId) (params : Params) → [] ≡ before ++ GiveBack s params ∷ after → ⊥
    nil-ne [] after s params e = cc
    nil-ne (x ∷ before) after s params e = cc

-- a list with one call more is parted before its end or at it
parted : (xs before after : List ShardCall) (x y : ShardCall) → xs ++ x ∷ [] ≡ before ++ y ∷ after
    → ((rest : List ShardCall) × (xs ≡ before ++ y ∷ rest)) ⊎ ((xs ≡ before) × (x ≡ y))
parted [] [] after x y e = inr (refl, cc)
parted [] (b ∷ []) after x y e = absurd (cc)
parted [] (b ∷ (c ∷ before)) after x y e = absurd (cc)
parted (a ∷ xs) [] after x y e = inl (xs, (let h : a ≡ y = cc in ap (λ z. z ∷ xs) h))
parted (a ∷ xs) (b ∷ before) after x y e =
    let tail : xs ++ x ∷ [] ≡ before ++ y ∷ after = cc in
    let head : a ≡ b = cc in
    elim (parted xs before after x y tail) [
      | inl w ↦ inl (w.0, ap (λ z. z ∷ xs) head ∙ ap (λ zs. b ∷ zs) w.1)
      | inr w ↦ inr (ap (λ z. z ∷ xs) head ∙ ap (λ zs. b ∷ zs) w.0, w.1)
    ]

pub IsAccepted-arrival : (calls : List ShardCall) (q : ServerId) (params : Params) → IsAccepted calls → IsAccepted (calls ++ Arrive q params ∷ [])
IsAccepted-arrival calls q params h = λ before after s given e.
    elim (parted calls before after (Arrive q params) (GiveBack s given) e) [
      | inl w ↦ h before w.0 s given w.1
      | inr w ↦ absurd (let differ = w.1 in cc)
    ]

pub IsAccepted-skip : (calls : List ShardCall) (q : ServerId) → IsAccepted calls → IsAccepted (calls ++ Skip q ∷ [])
IsAccepted-skip calls q h = λ before after s given e.
    elim (parted calls before after (Skip q) (GiveBack s given) e) [
      | inl w ↦ h before w.0 s given w.1
      | inr w ↦ absurd (let differ = w.1 in cc)
    ]

pub IsAccepted-give_back : (calls : List ShardCall) (q : ServerId) (params : Params) → IsWithin params (sent q calls) → IsAccepted calls
    → IsAccepted (calls ++ GiveBack q params ∷ [])
IsAccepted-give_back calls q params within h = λ before after s given e.
    elim (parted calls before after (GiveBack q params) (GiveBack s given) e) [
      | inl w ↦ h before w.0 s given w.1
      | inr w ↦
          (let one : q ≡ s = cc in
          let same : params ≡ given = cc in
          subst (λ xs. IsWithin given (sent s xs)) w.0
          (subst (λ p. IsWithin p (sent s calls)) same (subst (λ (k : ServerId). IsWithin params (sent k calls)) one within)))
    ]

-- what was given back is at most what was stamped
abbrev IsCovered : ServerId → List ShardCall → Type 0
IsCovered s calls = ((given_back s calls).delta ≤ (stamped s calls).delta) × ((given_back s calls).rho ≤ (stamped s calls).rho)

more_stamped : (S G k S' G' : Counts) → S' ≡ plus S k → G' ≡ plus G no_counts → (G.delta ≤ S.delta) × (G.rho ≤ S.rho) → (G'.delta ≤ S'.delta) × (G'.rho ≤ S'.rho)
more_stamped S G k S' G' s g h = rw (s, g) (omega (arith, h.0), omega (arith, h.1))

more_back : (S G S' G' : Counts) (k : Params) → S' ≡ S → G' ≡ plus G (counts_of k) → (G.delta ≤ S.delta) × (G.rho ≤ S.rho)
    → k.delta ≤ S.delta - G.delta → k.rho ≤ S.rho - G.rho → (G'.delta ≤ S'.delta) × (G'.rho ≤ S'.rho)
more_back S G S' G' k s g h d r = rw (s, g) (omega (arith, h.0, d), omega (arith, h.1, r))

covered-push : (s : ServerId) (calls : List ShardCall) (c : ShardCall) → (IsAccepted calls → IsCovered s calls) → IsAccepted (calls ++ c ∷ []) → IsCovered s (calls ++ c ∷ [])
covered-push s calls (Arrive q params) h accepted =
    more_stamped _ _ _ _ _ (stamped-push s calls (Arrive q params)) (given_back-push calls s (Arrive q params)) (h (IsAccepted-front calls (Arrive q params ∷ []) accepted))
covered-push s calls (Skip q) h accepted =
    more_stamped _ _ _ _ _ (stamped-push s calls (Skip q)) (given_back-push calls s (Skip q)) (h (IsAccepted-front calls (Skip q ∷ []) accepted))
covered-push s calls (GiveBack q params) h accepted =
    let before = h (IsAccepted-front calls (GiveBack q params ∷ []) accepted) in
    let kept = stamped-give_back s calls q params in
    let back = given_back-push calls s (GiveBack q params) in
    elim (eqb_tells q.0 s.0) [
      | inl here ↦
          (let within = subst (λ (k : ServerId). IsWithin params (sent k calls)) (same_server q s here.1) (accepted calls [] q params refl) in
          more_back _ _ _ _ params kept (back ∙ ap (λ b. plus (given_back s calls) (cond b (counts_of params) no_counts)) here.0) before within.delta within.rho)
      | inr there ↦
          more_stamped _ _ no_counts _ _ (kept ∙ sym (plus-none (stamped s calls))) (back ∙ ap (λ b. plus (given_back s calls) (cond b (counts_of params) no_counts)) there.0) before
    ]

pub given_back-le : (s : ServerId) (calls : List ShardCall) → IsAccepted calls → ((given_back s calls).delta ≤ (stamped s calls).delta) × ((given_back s calls).rho ≤ (stamped s calls).rho)
given_back-le s calls = snoc (λ cs. IsAccepted cs → IsCovered s cs) (λ _. (omega arith, omega arith)) (covered-push s) [] calls (λ _. (omega arith, omega arith))

pub sent_and_pending : (s : ServerId) (calls : List ShardCall) → IsAccepted calls → plus (plus (sent s calls) (skipped s calls)) (pending s calls) ≡ came calls
sent_and_pending s calls accepted =
    let whole = stamped_and_pending s calls in
    let covered = given_back-le s calls accepted in
    let d = ap (λ (x : Counts). x.delta) whole in
    let r = ap (λ (x : Counts). x.rho) whole in
    same_counts _ _ (omega (arith, d, covered.0)) (omega (arith, r, covered.1))
