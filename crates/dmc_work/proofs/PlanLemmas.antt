-- What the loop of `plan` keeps.
use Rattle.std.proofs.Common.{◌≡◌, ℕ, zero, suc, ◌+◌, ◌<◌, ◌≤◌, List, All, [], ◌∷◌, ◌++◌, length, refl, ap, arith, add-one}
use Rattle.std.proofs.lemmas.List.FromFn.{map-range_with_len_more, length-map-range_with_len}
use Rattle.std.proofs.lemmas.List.Elements.{All-map}
use Rattle.std.specs.List.{range_with_len}
use Rattle.dmc_types.specs.declared.ids.ServerId.{ServerId}
use Rattle.rand_pcg.specs.Lcg.{Lcg, next, advance, next_state, state_after}
use Rattle.rand_pcg.specs.Pcg.{multiplier_64}
use Rattle.dmc_work.specs.Plan.{word, server_at, planned, IsBelow}

-- with `done` requests planned: the generator has given as many words, and there is capacity for the rest
pub record Progress (start : Lcg) (servers done n : ℕ) (words : Lcg) (items : List ServerId) (capacity : ℕ) : Type 0 where
  pub room : n ≤ capacity
  pub given : words ≡ advance 64 multiplier_64 done start
  pub planned_so_far : items ≡ planned (word start) servers done

-- a step after n steps is n + 1 steps
one_more : (w m p n s : ℕ) → next_state w m p (state_after w m p n s) ≡ state_after w m p (suc n) s
unfolding state_after
one_more w m p zero s = refl
one_more w m p (suc n) s = one_more w m p n (next_state w m p s)

pub next-advance : (n : ℕ) (start : Lcg) → next 64 multiplier_64 (advance 64 multiplier_64 n start) ≡ advance 64 multiplier_64 (n + 1) start
next-advance n start = rw (add-one n) (ap (λ s. record start { state = s }) (one_more 64 multiplier_64 start.increment n start.state))

-- a plan of one request more
pub planned-more : (words : ℕ → ℕ) (servers n : ℕ) → planned words servers (n + 1) ≡ planned words servers n ++ server_at words servers n ∷ []
planned-more words servers n = map-range_with_len_more (server_at words servers) 0 n n (omega arith)

pub length-planned : (words : ℕ → ℕ) (servers n : ℕ) → length (planned words servers n) ≡ n
length-planned words servers n = length-map-range_with_len (server_at words servers) 0 n

-- each of its servers is one of them
pub planned-within : (words : ℕ → ℕ) (servers n : ℕ) → 0 < servers → All (IsBelow servers) (planned words servers n)
planned-within words servers n some = All-map (IsBelow servers) (server_at words servers) (range_with_len 0 n) (λ _ _ _. omega arith)
