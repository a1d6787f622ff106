-- A step of the numbers is that of the list that they represent.
use Rattle.std.proofs.Common.{◌≡◌, ℕ, ◌<◌, ◌≤◌, List, [], ◌∷◌, ◌++◌, length, map, set, get_or, refl, sym, ap, ◌∙◌, subst, arith, false, cond, inl, inr, ◌==◌}
use Rattle.std.proofs.lemmas.List.{get_or-set_same, get_or-set_other, get_or-map, get_or-replicate, length-map, length-replicate, length-set}
use Rattle.std.proofs.lemmas.Bool.Decides.{eqb_tells}
use Rattle.std.proofs.lemmas.Bool.{eq-eqb}
use Rattle.dmc_types.specs.Values.{Params, Counts, no_counts, counts_of, params_with}
use Rattle.dmc_types.specs.declared.ids.ServerId.{ServerId}
use Rattle.dmc_tracker.specs.Parts.{minus}
use Rattle.dmc_tracker.specs.TrackerList.{plus}
use Rattle.dmc_tracker.proofs.ForCallers.{same_counts, plus-none, same_server}
use Rattle.dmc_shards.specs.declared.call.ShardCall.{ShardCall}
use Rattle.dmc_shards.specs.declared.call.ShardCall.TheVariants.{Arrive, GiveBack, Skip}
use Rattle.dmc_shards.specs.declared.status.ShardStatus.{ShardStatus}
use Rattle.dmc_shards.specs.CallList.{given_back_by, came, given_back, pending, demanded_counts, demanded, sent, skipped, IsWithin, IsAccepted}
use Rattle.dmc_shards.specs.ShardNumbers.{Numbers, no_numbers, new_numbers, numbers_at, next_counts, next_params, after_arrival, after_give_back, after_skip, grown, numbers_of, RepresentsCalls}
use Rattle.dmc_shards.proofs.ListLemmas.{came-push, given_back-push, pending-arrival, pending-other, pending-skip_here, pending-skip_there, stamped-arrival_here, stamped-arrival_there, stamped-give_back, stamped-skip, skipped-arrival, skipped-give_back, skipped-skip_here, skipped-skip_there}
use Rattle.dmc_shards.proofs.LawLemmas.{IsAccepted-nil, IsAccepted-arrival, IsAccepted-give_back, IsAccepted-skip, given_back-le}

pub same_numbers : (a b : ShardStatus) → a.sent ≡ b.sent → a.skipped ≡ b.skipped → a.pending ≡ b.pending → a ≡ b
same_numbers a b s z p =
    ap (λ x. record { sent = x; skipped = a.skipped; pending = a.pending }) s
    ∙ ap (λ x. record { sent = b.sent; skipped = x; pending = a.pending }) z
    ∙ ap (λ x. record { sent = b.sent; skipped = b.skipped; pending = x }) p

-- ---- the numbers of a list with one call more

-- what was sent after k more were stamped, and after k were given back
sent_more : (S G k S' G' : Counts) → S' ≡ plus S k → G' ≡ plus G no_counts → (G.delta ≤ S.delta) × (G.rho ≤ S.rho) → minus S' G' ≡ plus (minus S G) k
sent_more S G k S' G' s g h = rw (s, g) (same_counts _ _ (omega (arith, h.0)) (omega (arith, h.1)))

sent_less : (S G k S' G' : Counts) → S' ≡ S → G' ≡ plus G k → minus S' G' ≡ minus (minus S G) k
sent_less S G k S' G' s g = rw (s, g) (same_counts _ _ (omega arith) (omega arith))

module _ (calls : List ShardCall) (s : ServerId) (params : Params) where
  -- an arrival at s, seen at s and at another shard
  numbers_of-arrival_same : IsAccepted calls → (q : ServerId) → q ≡ s → numbers_of q (calls ++ Arrive s params ∷ [])
      ≡ record { sent = plus (sent s calls) (demanded_counts s params calls); skipped = skipped s calls; pending = no_counts }
  numbers_of-arrival_same accepted q e =
      ap (λ (x : ServerId). numbers_of x (calls ++ Arrive s params ∷ [])) e
      ∙ same_numbers _ _
      (sent_more _ _ _ _ _ (stamped-arrival_here s calls s params (eq-eqb s.0 s.0 refl)) (given_back-push calls s (Arrive s params)) (given_back-le s calls accepted))
      (skipped-arrival s calls s params)
      (pending-arrival calls s s params (eq-eqb s.0 s.0 refl))

  numbers_of-arrival_other : (q : ServerId) → (s.0 == q.0) ≡ false → numbers_of q (calls ++ Arrive s params ∷ []) ≡ grown params (numbers_of q calls)
  numbers_of-arrival_other q there =
      same_numbers _ _
      (sent_less _ _ no_counts _ _ (stamped-arrival_there q calls s params there) (given_back-push calls q (Arrive s params)) ∙ same_counts _ _ (omega arith) (omega arith))
      (skipped-arrival q calls s params)
      (pending-other calls q (Arrive s params) there ∙ same_counts _ _ (omega arith) (omega arith))

  -- a give-back at s, seen at s and at another shard
  numbers_of-give_back_same : (q : ServerId) → q ≡ s → numbers_of q (calls ++ GiveBack s params ∷ [])
      ≡ record { sent = minus (sent s calls) (counts_of params); skipped = skipped s calls; pending = plus (pending s calls) (counts_of params) }
  numbers_of-give_back_same q e =
      let here = eq-eqb s.0 s.0 refl in
      let back : given_back_by s (GiveBack s params) ≡ counts_of params = ap (λ b. cond b (counts_of params) no_counts) here in
      ap (λ (x : ServerId). numbers_of x (calls ++ GiveBack s params ∷ [])) e
      ∙ same_numbers _ _
      (sent_less _ _ (counts_of params) _ _ (stamped-give_back s calls s params) (given_back-push calls s (GiveBack s params) ∙ ap (plus (given_back s calls)) back))
      (skipped-give_back s calls s params)
      (pending-other calls s (GiveBack s params) refl ∙ ap (λ (k : Counts). plus (pending s calls) (plus no_counts k)) back ∙ same_counts _ _ (omega arith) (omega arith))

  numbers_of-give_back_other : (q : ServerId) → (s.0 == q.0) ≡ false → numbers_of q (calls ++ GiveBack s params ∷ []) ≡ numbers_of q calls
  numbers_of-give_back_other q there =
      let back : given_back_by q (GiveBack s params) ≡ no_counts = ap (λ b. cond b (counts_of params) no_counts) there in
      same_numbers _ _
      (sent_less _ _ no_counts _ _ (stamped-give_back q calls s params) (given_back-push calls q (GiveBack s params) ∙ ap (plus (given_back q calls)) back) ∙ same_counts _ _ (omega arith) (omega arith))
      (skipped-give_back q calls s params)
      (pending-other calls q (GiveBack s params) refl ∙ ap (λ (k : Counts). plus (pending q calls) (plus no_counts k)) back ∙ same_counts _ _ (omega arith) (omega arith))

-- a skip of s, seen at s and at another shard
module _ (calls : List ShardCall) (s : ServerId) where
  as_sent : (q : ServerId) → sent q (calls ++ Skip s ∷ []) ≡ sent q calls
  as_sent q =
      sent_less _ _ no_counts _ _ (stamped-skip q calls s) (given_back-push calls q (Skip s)) ∙ same_counts _ _ (omega arith) (omega arith)

  numbers_of-skip_same : (q : ServerId) → q ≡ s → numbers_of q (calls ++ Skip s ∷ [])
      ≡ record { sent = sent s calls; skipped = plus (skipped s calls) (pending s calls); pending = no_counts }
  numbers_of-skip_same q e =
      let here = eq-eqb s.0 s.0 refl in
      ap (λ (x : ServerId). numbers_of x (calls ++ Skip s ∷ [])) e
      ∙ same_numbers _ _ (as_sent s) (skipped-skip_here s calls s here) (pending-skip_here calls s s here)

  numbers_of-skip_other : (q : ServerId) → (s.0 == q.0) ≡ false → numbers_of q (calls ++ Skip s ∷ []) ≡ numbers_of q calls
  numbers_of-skip_other q there = same_numbers _ _ (as_sent q) (skipped-skip_there q calls s there) (pending-skip_there calls q s there)

-- ---- a step of the numbers

get_or_here : (shards : List ShardStatus) (i j : ℕ) (x : ShardStatus) → i ≡ j → i < length shards → get_or (set shards i x) j no_numbers ≡ x
get_or_here shards i j x e inside = rw (← e) (get_or-set_same shards i x no_numbers inside)

pub next_params-represents : (numbers : Numbers) (calls : List ShardCall) (s : ServerId) (params : Params) → s.0 < length numbers.shards
    → RepresentsCalls numbers calls → next_params numbers s params ≡ demanded s params calls
next_params-represents numbers calls s params within h =
    ap (λ (x : ShardStatus). params_with (plus x.pending (counts_of params)) params.cost) (h.each s within)

pub RepresentsCalls-arrival : (numbers : Numbers) (calls : List ShardCall) (s : ServerId) (params : Params) → s.0 < length numbers.shards
    → RepresentsCalls numbers calls → RepresentsCalls (after_arrival s params numbers) (calls ++ Arrive s params ∷ [])
RepresentsCalls-arrival numbers calls s params within h =
    let all = map (grown params) numbers.shards in
    let long : length all ≡ length numbers.shards = length-map numbers.shards (grown params) in
    let stamped_now : ShardStatus = record { sent = plus (numbers_at numbers s).sent (next_counts numbers s params); skipped = (numbers_at numbers s).skipped; pending = no_counts } in
    record {
      came_is = ap (λ c. plus c (counts_of params)) h.came_is ∙ sym (came-push calls (Arrive s params));
      accepted = IsAccepted-arrival calls s params h.accepted;
      each = λ q inside. elim (eqb_tells s.0 q.0) [
        | inl here ↦
            get_or_here all s.0 q.0 stamped_now here.1 (omega (arith, within, long))
            ∙ ap (λ (x : ShardStatus). let y : ShardStatus = record { sent = plus x.sent (plus x.pending (counts_of params)); skipped = x.skipped; pending = no_counts } in y) (h.each s within)
            ∙ sym (numbers_of-arrival_same calls s params h.accepted q (sym (same_server s q here.1)))
        | inr there ↦
            (let within_q : q.0 < length numbers.shards = omega (arith, inside, length-set all s.0 stamped_now, long) in
            get_or-set_other all s.0 q.0 stamped_now no_numbers (λ e. there.1 (sym e))
            ∙ get_or-map (grown params) numbers.shards q.0 no_numbers no_numbers within_q
            ∙ ap (grown params) (h.each q within_q)
            ∙ sym (numbers_of-arrival_other calls s params q there.0))
      ];
    }

pub RepresentsCalls-give_back : (numbers : Numbers) (calls : List ShardCall) (s : ServerId) (params : Params) → s.0 < length numbers.shards
    → IsWithin params (numbers_at numbers s).sent → RepresentsCalls numbers calls → RepresentsCalls (after_give_back s params numbers) (calls ++ GiveBack s params ∷ [])
RepresentsCalls-give_back numbers calls s params within sent_there h =
    let back : ShardStatus = record { sent = minus (numbers_at numbers s).sent (counts_of params); skipped = (numbers_at numbers s).skipped; pending = plus (numbers_at numbers s).pending (counts_of params) } in
    record {
      came_is = h.came_is ∙ sym (came-push calls (GiveBack s params) ∙ plus-none (came calls));
      accepted = IsAccepted-give_back calls s params (subst (λ (x : ShardStatus). IsWithin params x.sent) (h.each s within) sent_there) h.accepted;
      each = λ q inside. elim (eqb_tells s.0 q.0) [
        | inl here ↦
            get_or_here numbers.shards s.0 q.0 back here.1 within
            ∙ ap (λ (x : ShardStatus). let y : ShardStatus = record { sent = minus x.sent (counts_of params); skipped = x.skipped; pending = plus x.pending (counts_of params) } in y) (h.each s within)
            ∙ sym (numbers_of-give_back_same calls s params q (sym (same_server s q here.1)))
        | inr there ↦
            get_or-set_other numbers.shards s.0 q.0 back no_numbers (λ e. there.1 (sym e))
            ∙ h.each q (omega (arith, inside, length-set numbers.shards s.0 back))
            ∙ sym (numbers_of-give_back_other calls s params q there.0)
      ];
    }

pub RepresentsCalls-skip : (numbers : Numbers) (calls : List ShardCall) (s : ServerId) → s.0 < length numbers.shards
    → RepresentsCalls numbers calls → RepresentsCalls (after_skip s numbers) (calls ++ Skip s ∷ [])
RepresentsCalls-skip numbers calls s within h =
    let at = numbers_at numbers s in
    let skipping : ShardStatus = record { sent = at.sent; skipped = plus at.skipped at.pending; pending = no_counts } in
    record {
      came_is = h.came_is ∙ sym (came-push calls (Skip s) ∙ plus-none (came calls));
      accepted = IsAccepted-skip calls s h.accepted;
      each = λ q inside. elim (eqb_tells s.0 q.0) [
        | inl here ↦
            get_or_here numbers.shards s.0 q.0 skipping here.1 within
            ∙ ap (λ (x : ShardStatus). let y : ShardStatus = record { sent = x.sent; skipped = plus x.skipped x.pending; pending = no_counts } in y) (h.each s within)
            ∙ sym (numbers_of-skip_same calls s q (sym (same_server s q here.1)))
        | inr there ↦
            get_or-set_other numbers.shards s.0 q.0 skipping no_numbers (λ e. there.1 (sym e))
            ∙ h.each q (omega (arith, inside, length-set numbers.shards s.0 skipping))
            ∙ sym (numbers_of-skip_other calls s q there.0)
      ];
    }

pub RepresentsCalls-new : (most n : ℕ) → RepresentsCalls (new_numbers most n) []
RepresentsCalls-new most n = record {
  came_is = refl;
  accepted = IsAccepted-nil;
  each = λ s inside. get_or-replicate n s.0 no_numbers no_numbers (omega (arith, inside, length-replicate {A = ShardStatus}));
}
