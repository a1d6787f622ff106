-- A chain of tests, by what one of them gives.
use Rattle.std.proofs.Common.{◌≡◌, ◌∙◌, Result, Ok, Err, ap, sym}
use Rattle.dmc_tag.specs.Outcome.{◌>>=◌}

module _ {A B E : Type 0} {r : Result A E} (f : A → Result B E) where
  -- a refusal ends it
  pub ends : {e : E} → r ≡ Err e → Err e ≡ (r >>= f)
  ends is = ap (λ q. q >>= f) (sym is)

  -- a value goes on
  pub goes_on : {x : A} {y : Result B E} → r ≡ Ok x → y ≡ f x → y ≡ (r >>= f)
  goes_on is e = e ∙ ap (λ q. q >>= f) (sym is)
