-- The tracker's calls, from what the calls in them ensure: the numbers are those that are promised.
use Rattle.std.proofs.Common.{◌≡◌, ℕ, zero, suc, ◌<◌, ◌≤◌, List, [], ◌∷◌, ◌++◌, length, map, set, get_or, replicate, refl, sym, ap, ◌∙◌, arith}
use Rattle.std.specs.Prelude.{All as Each}
use Rattle.std.proofs.lemmas.List.{get_or-map, map-set, length-map}
use Rattle.dmc_types.specs.Values.{Params, Counts, no_counts, counts_of}
use Rattle.dmc_types.specs.declared.ids.ServerId.{ServerId}
use Rattle.dmc_tracker.specs.Parts.{minus, IsPart}
use Rattle.dmc_tracker.specs.TrackerList.{plus}
use Rattle.dmc_tracker.proofs.ForCallers.{same_counts}
use Rattle.dmc_shards.specs.declared.call.ShardCall.{ShardCall}
use Rattle.dmc_shards.specs.declared.call.ShardCall.TheVariants.{Arrive, GiveBack, Skip}
use Rattle.dmc_shards.specs.declared.shard.ShardCounts.{ShardCounts}
use Rattle.dmc_shards.specs.declared.status.ShardStatus.{ShardStatus}
use Rattle.dmc_shards.specs.CallList.{demanded, IsWithin}
use Rattle.dmc_shards.specs.ShardNumbers.{Numbers, no_numbers, new_numbers, numbers_at, next_params, after_arrival, after_give_back, after_skip, grown, next_counts, RepresentsCalls}
use Rattle.dmc_shards.specs.Kept.{rest_of, status_now, view_of, AreKept}
use Rattle.dmc_shards.proofs.RepresentsLemmas.{same_numbers, next_params-represents, RepresentsCalls-arrival, RepresentsCalls-give_back, RepresentsCalls-skip}

-- when more came, more is left of it
rest-grown : (came : Counts) (x : ShardCounts) (k : Counts) → IsPart (plus x.sent x.skipped) came → rest_of (plus came k) x ≡ plus (rest_of came x) k
rest-grown came x k h = same_counts _ _ (omega (arith, h.delta)) (omega (arith, h.rho))

-- what contracts see of a shard when more came
now-grown : (came : Counts) (x : ShardCounts) (params : Params) → IsPart (plus x.sent x.skipped) came → status_now (plus came (counts_of params)) x ≡ grown params (status_now came x)
now-grown came x params h = same_numbers _ _ refl refl (rest-grown came x (counts_of params) h)

-- when all of it is sent, when a part is given back, and when all is skipped
now-sent : (came : Counts) (x : ShardCounts) (k : Counts) → IsPart (plus x.sent x.skipped) came
    → status_now (plus came k) (record { sent = plus x.sent (plus (rest_of came x) k); skipped = x.skipped })
    ≡ record { sent = plus x.sent (plus (rest_of came x) k); skipped = x.skipped; pending = no_counts }
now-sent came x k h = same_numbers _ _ refl refl (same_counts _ _ (omega (arith, h.delta)) (omega (arith, h.rho)))

now-back : (came : Counts) (x : ShardCounts) (k : Counts) → IsPart (plus x.sent x.skipped) came → k.delta ≤ x.sent.delta → k.rho ≤ x.sent.rho
    → status_now came (record { sent = minus x.sent k; skipped = x.skipped })
    ≡ record { sent = minus x.sent k; skipped = x.skipped; pending = plus (rest_of came x) k }
now-back came x k h d r = same_numbers _ _ refl refl (same_counts _ _ (omega (arith, h.delta, d)) (omega (arith, h.rho, r)))

now-skipped : (came : Counts) (x : ShardCounts) → IsPart (plus x.sent x.skipped) came
    → status_now came (record { sent = x.sent; skipped = plus x.skipped (rest_of came x) })
    ≡ record { sent = x.sent; skipped = plus x.skipped (rest_of came x); pending = no_counts }
now-skipped came x h = same_numbers _ _ refl refl (same_counts _ _ (omega (arith, h.delta)) (omega (arith, h.rho)))

map-grown : (came : Counts) (params : Params) (shards : List ShardCounts) → Each (λ x. IsPart (plus x.sent x.skipped) came) shards
    → map (status_now (plus came (counts_of params))) shards ≡ map (grown params) (map (status_now came) shards)
map-grown came params [] h = refl
map-grown came params (x ∷ shards) h =
    ap (λ y. y ∷ map (status_now (plus came (counts_of params))) shards) (now-grown came x params (h 0 x (omega arith)))
    ∙ ap (λ ys. grown params (status_now came x) ∷ ys) (map-grown came params shards (λ k e inside. h (suc k) e (omega arith)))

map-replicate : {X Y : Type 0} (f : X → Y) (n : ℕ) (x : X) → map f (replicate n x) ≡ replicate n (f x)
map-replicate f zero x = refl
map-replicate f (suc n) x = ap (λ ys. f x ∷ ys) (map-replicate f n x)

-- a new tracker
pub view-new : (most n : ℕ) {x : ShardCounts} → x ≡ record { sent = no_counts; skipped = no_counts } → view_of most no_counts (replicate n x) ≡ new_numbers most n
view-new most n {x} e =
    rw e (ap (λ (ys : List ShardStatus). let m : Numbers = record { most = most; came = no_counts; shards = ys } in m)
    (map-replicate (status_now no_counts) n (record { sent = no_counts; skipped = no_counts })))

module _ {most : ℕ} {came : Counts} {items : List ShardCounts} {now : Numbers} (kept : AreKept most came items) (view : view_of most came items ≡ now) where
  as_many : length now.shards ≡ length items
  as_many = ap (λ (n : Numbers). length n.shards) (sym view) ∙ length-map items (status_now came)

  pub within_all : {n i : ℕ} → n ≡ length items → i < n → i < length now.shards
  within_all length_is l = omega (arith, l, length_is, as_many)

  -- ---- at shard s, of which x is kept

  module _ {s : ServerId} (within : s.0 < length now.shards) {x : ShardCounts} (at : x ≡ get_or items s.0 x) where
    inside : s.0 < length items
    inside = omega (arith, within, as_many)

    part : IsPart (plus x.sent x.skipped) came
    part = rw at (kept.each s.0 x inside)

    seen_at : numbers_at (view_of most came items) s ≡ status_now came x
    seen_at = get_or-map (status_now came) items s.0 x no_numbers inside ∙ ap (status_now came) (sym at)

    pub arrival_seen : (params : Params) {k came' next sent' : Counts} → k ≡ counts_of params → came' ≡ plus came k → next ≡ next_counts now s params → sent' ≡ plus x.sent next
        → view_of most came' (set items s.0 (record { sent = sent'; skipped = x.skipped })) ≡ after_arrival s params now
    arrival_seen params {came' = came'} {next = next} e f g h =
        let k = counts_of params in
        let after = plus came k in
        let came_is : came' ≡ after = f ∙ ap (plus came) e in
        let next_is : next ≡ plus (rest_of came x) k =
        g ∙ ap (λ (n : Numbers). plus (numbers_at n s).pending k) (sym view) ∙ ap (λ (n : ShardStatus). plus n.pending k) seen_at in
        rw (h, next_is, came_is) (
        ap (λ (ys : List ShardStatus). let n : Numbers = record { most = most; came = after; shards = ys } in n) (
        map-set (status_now after) items s.0 (record { sent = plus x.sent (plus (rest_of came x) k); skipped = x.skipped })
        ∙ ap (λ (ys : List ShardStatus). set ys s.0 (status_now after (record { sent = plus x.sent (plus (rest_of came x) k); skipped = x.skipped }))) (map-grown came params items kept.each)
        ∙ ap (λ (y : ShardStatus). set (map (grown params) (map (status_now came) items)) s.0 y) (now-sent came x k part)
        ∙ ap (λ (n : ShardStatus). let y : ShardStatus = record { sent = plus n.sent (plus n.pending k); skipped = n.skipped; pending = no_counts } in set (map (grown params) (map (status_now came) items)) s.0 y)
        (sym seen_at))
        ∙ ap (after_arrival s params) view)

    -- what is pending is skipped
    pub skip_seen : {left skipped' : Counts} → left ≡ rest_of came x → skipped' ≡ plus x.skipped left → view_of most came (set items s.0 (record { sent = x.sent; skipped = skipped' })) ≡ after_skip s now
    skip_seen e f =
        rw (f, e) (
        ap (λ (ys : List ShardStatus). let n : Numbers = record { most = most; came = came; shards = ys } in n) (
        map-set (status_now came) items s.0 (record { sent = x.sent; skipped = plus x.skipped (rest_of came x) })
        ∙ ap (λ (y : ShardStatus). set (map (status_now came) items) s.0 y) (now-skipped came x part)
        ∙ ap (λ (n : ShardStatus). let y : ShardStatus = record { sent = n.sent; skipped = plus n.skipped n.pending; pending = no_counts } in set (map (status_now came) items) s.0 y)
        (sym seen_at))
        ∙ ap (after_skip s) view)

    -- a part of what was sent is given back
    module _ (params : Params) {k : Counts} (k_is : k ≡ counts_of params) (delta : k.delta ≤ x.sent.delta) (rho : k.rho ≤ x.sent.rho) where
      pub give_back_seen : {left : Counts} → left ≡ minus x.sent k → view_of most came (set items s.0 (record { sent = left; skipped = x.skipped })) ≡ after_give_back s params now
      give_back_seen e =
          rw (e, k_is) (
          ap (λ (ys : List ShardStatus). let n : Numbers = record { most = most; came = came; shards = ys } in n) (
          map-set (status_now came) items s.0 (record { sent = minus x.sent (counts_of params); skipped = x.skipped })
          ∙ ap (λ (y : ShardStatus). set (map (status_now came) items) s.0 y)
          (now-back came x (counts_of params) part (omega (arith, delta, ap (λ (c : Counts). c.delta) k_is)) (omega (arith, rho, ap (λ (c : Counts). c.rho) k_is)))
          ∙ ap (λ (n : ShardStatus). let y : ShardStatus = record { sent = minus n.sent (counts_of params); skipped = n.skipped; pending = plus n.pending (counts_of params) } in set (map (status_now came) items) s.0 y)
          (sym seen_at))
          ∙ ap (after_give_back s params) view)

      pub sent_there : IsWithin params (numbers_at now s).sent
      sent_there =
          let is = ap (λ (n : Numbers). (numbers_at n s).sent) (sym view) ∙ ap (λ (n : ShardStatus). n.sent) seen_at in
          record {
            delta = omega (arith, delta, ap (λ (c : Counts). c.delta) k_is, ap (λ (c : Counts). c.delta) is);
            rho = omega (arith, rho, ap (λ (c : Counts). c.rho) k_is, ap (λ (c : Counts). c.rho) is);
          }

-- the next stamp is the one that the list demands
pub next_is_demanded : {now : Numbers} (s : ServerId) (params : Params) {result : Params} → s.0 < length now.shards → result ≡ next_params now s params
    → (calls : List ShardCall) → RepresentsCalls now calls → result ≡ demanded s params calls
next_is_demanded {now} s params within p calls represents = p ∙ next_params-represents now calls s params within represents

-- the list after an arrival, after a give-back, and after a skip
pub represents_after_arrival : {now new : Numbers} (s : ServerId) (params : Params) {result : Params} → s.0 < length now.shards → new ≡ after_arrival s params now → result ≡ next_params now s params
    → (calls : List ShardCall) → RepresentsCalls now calls → (result ≡ demanded s params calls) × RepresentsCalls new (calls ++ Arrive s params ∷ [])
represents_after_arrival {now} s params within e p calls represents =
    (next_is_demanded s params within p calls represents, rw e (RepresentsCalls-arrival now calls s params within represents))

pub represents_after_give_back : {now new : Numbers} (s : ServerId) (params : Params) → s.0 < length now.shards → IsWithin params (numbers_at now s).sent → new ≡ after_give_back s params now
    → (calls : List ShardCall) → RepresentsCalls now calls → RepresentsCalls new (calls ++ GiveBack s params ∷ [])
represents_after_give_back {now} s params within sent_there e calls represents = rw e (RepresentsCalls-give_back now calls s params within sent_there represents)

pub represents_after_skip : {now new : Numbers} (s : ServerId) → s.0 < length now.shards → new ≡ after_skip s now
    → (calls : List ShardCall) → RepresentsCalls now calls → RepresentsCalls new (calls ++ Skip s ∷ [])
represents_after_skip {now} s within e calls represents = rw e (RepresentsCalls-skip now calls s within represents)
