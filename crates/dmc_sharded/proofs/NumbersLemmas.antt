-- A shard's numbers after an arrival and after a skip.
use Rattle.std.proofs.Common.{◌≡◌, ℕ, ◌+◌, ◌<◌, ◌≤◌, List, length, map, set, get_or, refl, sym, ap, ◌∙◌, subst, arith, inl, inr, ◌==◌}
use Rattle.std.proofs.lemmas.List.{get_or-set_same, get_or-set_other, get_or-map, length-map, length-set}
use Rattle.std.proofs.lemmas.Bool.Decides.{eqb_tells}
use Rattle.dmc_types.specs.Values.{Params, Counts, no_counts, counts_of}
use Rattle.dmc_types.specs.declared.ids.ServerId.{ServerId}
use Rattle.dmc_tracker.specs.TrackerList.{plus}
use Rattle.dmc_tracker.proofs.ForCallers.{same_counts, same_server}
use Rattle.dmc_shards.specs.declared.status.ShardStatus.{ShardStatus}
use Rattle.dmc_shards.specs.ShardNumbers.{Numbers, no_numbers, numbers_at, next_counts, after_arrival, after_skip, grown}
use Rattle.dmc_sharded.specs.BookState.{IsBalancedAt}

module _ (n : Numbers) (s : ServerId) (params : Params) (within : s.0 < length n.shards) where
  pub arrival_here : numbers_at (after_arrival s params n) s
      ≡ record { sent = plus (numbers_at n s).sent (next_counts n s params); skipped = (numbers_at n s).skipped; pending = no_counts }
  arrival_here = get_or-set_same (map (grown params) n.shards) s.0 _ no_numbers (omega (arith, within, length-map n.shards (grown params)))

  pub arrival_there : (q : ServerId) → q.0 < length n.shards → (s.0 ≡ q.0 → ⊥) → numbers_at (after_arrival s params n) q ≡ grown params (numbers_at n q)
  arrival_there q inside apart =
      get_or-set_other (map (grown params) n.shards) s.0 q.0 _ no_numbers (λ e. apart (sym e))
      ∙ get_or-map (grown params) n.shards q.0 no_numbers no_numbers inside

  -- the sums of each shard
  pub balanced_after_arrival : (q : ServerId) → q.0 < length n.shards → IsBalancedAt n q → IsBalancedAt (after_arrival s params n) q
  balanced_after_arrival q inside h =
      let d = ap (λ (c : Counts). c.delta) h in
      let r = ap (λ (c : Counts). c.rho) h in
      elim (eqb_tells s.0 q.0) [
        | inl here ↦
            subst (λ (k : ServerId). IsBalancedAt n k → IsBalancedAt (after_arrival s params n) k) (same_server s q here.1)
            (λ b. rw arrival_here (same_counts _ _ (omega (arith, ap (λ (c : Counts). c.delta) b)) (omega (arith, ap (λ (c : Counts). c.rho) b)))) h
        | inr there ↦ rw (arrival_there q inside there.1) (same_counts _ _ (omega (arith, d)) (omega (arith, r)))
      ]

module _ (n : Numbers) (s : ServerId) (within : s.0 < length n.shards) where
  skip_here : numbers_at (after_skip s n) s
      ≡ record { sent = (numbers_at n s).sent; skipped = plus (numbers_at n s).skipped (numbers_at n s).pending; pending = no_counts }
  skip_here = get_or-set_same n.shards s.0 _ no_numbers within

  skip_there : (q : ServerId) → (s.0 ≡ q.0 → ⊥) → numbers_at (after_skip s n) q ≡ numbers_at n q
  skip_there q apart = get_or-set_other n.shards s.0 q.0 _ no_numbers (λ e. apart (sym e))

  pub balanced_after_skip : (q : ServerId) → IsBalancedAt n q → IsBalancedAt (after_skip s n) q
  balanced_after_skip q h =
      elim (eqb_tells s.0 q.0) [
        | inl here ↦
            subst (λ (k : ServerId). IsBalancedAt n k → IsBalancedAt (after_skip s n) k) (same_server s q here.1)
            (λ b. rw skip_here (same_counts _ _ (omega (arith, ap (λ (c : Counts). c.delta) b)) (omega (arith, ap (λ (c : Counts). c.rho) b)))) h
        | inr there ↦ rw (skip_there q there.1) h
      ]

  pub sent_after_skip : (q : ServerId) → (numbers_at (after_skip s n) q).sent ≡ (numbers_at n q).sent
  sent_after_skip q =
      elim (eqb_tells s.0 q.0) [
        | inl here ↦
            subst (λ (k : ServerId). (numbers_at (after_skip s n) k).sent ≡ (numbers_at n k).sent) (same_server s q here.1)
            (ap (λ (x : ShardStatus). x.sent) skip_here)
        | inr there ↦ ap (λ (x : ShardStatus). x.sent) (skip_there q there.1)
      ]
