-- One thing for each count of a worker.
use Rattle.std.specs.Prelude.{ℕ, ◌+◌}
pub use Rattle.dmc_book.specs.declared.per_count.WorkerCounts.{WorkerCounts}

-- how many books a worker has: one for each count
abbrev pub books_per_worker : ℕ
books_per_worker = 6

-- the numbers of its books, from the n-th on
abbrev pub numbers_from : ℕ → WorkerCounts ℕ
numbers_from n = record { calls = n; misses = n + 1; tokens = n + 2; grants = n + 3; granted = n + 4; cost = n + 5 }

module _ {A : Type 0} where
  -- the same thing for each
  abbrev pub for_each : A → WorkerCounts A
  for_each a = record { calls = a; misses = a; tokens = a; grants = a; granted = a; cost = a }

  -- what holds of each thing, in the order of the counts
  abbrev pub EachCount : (A → Type 0) → WorkerCounts A → Type 0
  EachCount P a = P a.calls × P a.misses × P a.tokens × P a.grants × P a.granted × P a.cost

module _ {A B : Type 0} where
  abbrev pub map_counts : (A → B) → WorkerCounts A → WorkerCounts B
  map_counts f a = record { calls = f a.calls; misses = f a.misses; tokens = f a.tokens; grants = f a.grants; granted = f a.granted; cost = f a.cost }

module _ {A B C : Type 0} where
  abbrev pub zip_counts : (A → B → C) → WorkerCounts A → WorkerCounts B → WorkerCounts C
  zip_counts f a b = record {
    calls = f a.calls b.calls;
    misses = f a.misses b.misses;
    tokens = f a.tokens b.tokens;
    grants = f a.grants b.grants;
    granted = f a.granted b.granted;
    cost = f a.cost b.cost;
  }

-- what holds of the two things of each count
abbrev pub EachPair : {A B : Type 0} → (A → B → Type 0) → WorkerCounts A → WorkerCounts B → Type 0
EachPair {A} {B} P a b = EachCount (λ (p : A × B). P p.0 p.1) (zip_counts (λ x y. (x, y)) a b)
