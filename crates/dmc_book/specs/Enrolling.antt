-- Workers that come later.
use Rattle.std.specs.Prelude.{ℕ, ◌<◌, ◌≤◌, ◌++◌, [], ◌∷◌, map, length}
use Rattle.dmc_types.specs.Limits.{max_workers}
use Rattle.dmc_types.specs.declared.ids.WorkerId.{WorkerId}
use Rattle.dmc_book.specs.BookState.{BookState}
use Rattle.dmc_book.specs.Opening.{desk_with_tills, new_worker}
use Rattle.dmc_book.specs.PerCount.{books_per_worker}

-- one worker more may be enrolled, and the mint has a worker's books left
pub record AreSeatLimits (workers left : ℕ) : Type 0 where
  pub few : workers < max_workers
  pub books : books_per_worker ≤ left

abbrev pub book_enrolled : {T : Type 0} → ℕ → WorkerId → BookState T → BookState T
book_enrolled n w b = record b {
  workers = b.workers ++ new_worker (length b.desks) n w ∷ [];
  desks = map (desk_with_tills 1) b.desks;
}
