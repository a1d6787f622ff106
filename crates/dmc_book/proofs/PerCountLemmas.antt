-- What holds of each count of a worker.
use Rattle.std.proofs.Common.{◌≡◌, refl}
use Rattle.dmc_book.specs.PerCount.{WorkerCounts, EachCount, for_each, map_counts}

module _ {A : Type 0} where
  pub each_same : (P : A → Type 0) (a : A) → P a → EachCount P (for_each a)
  each_same P a h = (h, h, h, h, h, h)

  pub each_with : (P Q R : A → Type 0) → ((a : A) → P a → Q a → R a) → (x : WorkerCounts A) → EachCount P x → EachCount Q x → EachCount R x
  each_with P Q R f x h j = (f x.calls h.0 j.0, f x.misses h.1 j.1, f x.tokens h.2 j.2, f x.grants h.3 j.3, f x.granted h.4 j.4, f x.cost h.5 j.5)

  pub each_as : (P Q : A → Type 0) → ((a : A) → P a → Q a) → (x : WorkerCounts A) → EachCount P x → EachCount Q x
  each_as P Q f x h = each_with P P Q (λ a here same. f a here) x h h

  pub each_both : (P Q : A → Type 0) (x : WorkerCounts A) → EachCount P x → EachCount Q x → EachCount (λ a. P a × Q a) x
  each_both P Q x h j = each_with P Q (λ a. P a × Q a) (λ a here there. (here, there)) x h j

  pub map_same : (f : A → A) (x : WorkerCounts A) → EachCount (λ a. f a ≡ a) x → map_counts f x ≡ x
  map_same f x h = rw (h.0, h.1, h.2, h.3, h.4, h.5) refl
