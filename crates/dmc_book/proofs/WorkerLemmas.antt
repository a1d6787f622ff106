-- What a worker's event writes at its place is what the event moves in all workers.
use Rattle.std.proofs.Common.{◌≡◌, ℕ, zero, suc, ◌+◌, ◌<◌, Bool, true, false, List, [], ◌∷◌, map, length, ap, ◌∙◌, refl, sym, slice_index_or, slice_set, arith}
use Rattle.std.specs.Prelude.{◌==◌}
use Rattle.std.specs.List.{AllByRecursion}
use Rattle.std.proofs.lemmas.Bool.{eq-eqb}
use Rattle.dmc_tag.specs.declared.event.Event.{Event}
use Rattle.dmc_ledger.specs.Accounts.{Account}
use Rattle.dmc_ledger.specs.Moves.{after_issue}
use Rattle.dmc_book.specs.PerCount.{WorkerCounts}
use Rattle.dmc_book.specs.Counts.{numbers_of, no_numbers}
use Rattle.dmc_book.specs.BookState.{WorkerSide, worker_side, no_worker}
use Rattle.dmc_book.specs.Consistent.{AreWorkersApart}
use Rattle.dmc_book.specs.Moves.{worker_after, books_after}
use Rattle.dmc_book.specs.declared.seat.Seat.{Seat}
use Rattle.dmc_book.proofs.PerCountLemmas.{map_same}
use Rattle.dmc_lemmas.proofs.Lists.{map_unmoved, all_as}
use Rattle.dmc_lemmas.proofs.Booleans.{eqb_turned}

pub issue_none : (a : Account) → after_issue 0 a ≡ a
issue_none a = let e : a.held + 0 ≡ a.held = omega arith in ap (λ (n : ℕ). record a { held = n }) e

books_none : (b : WorkerCounts Account) → books_after no_numbers b ≡ b
books_none b = map_same (after_issue 0) b (issue_none b.calls, issue_none b.misses, issue_none b.tokens, issue_none b.grants, issue_none b.granted, issue_none b.cost)

module _ {T : Type 0} (e : Event T) where
  pub unmoved_at : (w : WorkerSide) (b : Bool) → (e.worker.0 == w.worker) ≡ b → b ≡ false → worker_after e w ≡ w
  unmoved_at w b is none = rw (is ∙ none) (ap (λ (bs : WorkerCounts Account). record w { books = bs }) (books_none w.books))

  unmoved : (n : ℕ) → n ≡ e.worker.0 → (other : WorkerSide) → (other.worker == n) ≡ false → worker_after e other ≡ other
  unmoved n same other h = unmoved_at other _ refl (eqb_turned e.worker.0 other.worker false (ap (λ (v : ℕ). other.worker == v) (sym same) ∙ h))

  others : (x : WorkerSide) (xs : List WorkerSide) (i : ℕ) → i < length xs → AllByRecursion (λ other. (other.worker == x.worker) ≡ false) xs → (slice_index_or xs i no_worker).worker ≡ e.worker.0 → (e.worker.0 == x.worker) ≡ false
  others x [] i w h here = absurd (omega (arith, w))
  others x (y ∷ ys) zero w h here = ap (λ (v : ℕ). v == x.worker) (sym here) ∙ h.0
  others x (y ∷ ys) (suc i) w h here = others x ys i (omega (arith, w)) h.1 here

  module _ {S : Type 0} where
    pub counted_workers : (ss : List (Seat S)) (i : ℕ) (d new : Seat S) → i < length ss → (slice_index_or (map worker_side ss) i no_worker).worker ≡ e.worker.0 → AreWorkersApart (map worker_side ss) → new.worker ≡ (slice_index_or ss i d).worker → new.renewed ≡ (slice_index_or ss i d).renewed → new.reach ≡ (slice_index_or ss i d).reach → new.books ≡ books_after (numbers_of e.command e.reply) (slice_index_or ss i d).books → map worker_side (slice_set ss i new) ≡ map (worker_after e) (map worker_side ss)
    counted_workers [] i d new l here apart w r n b = absurd (omega (arith, l))
    counted_workers (x ∷ xs) zero d new l here apart w r n b =
        let is : (e.worker.0 == x.worker.0) ≡ true = eq-eqb e.worker.0 x.worker.0 (sym here) in
        let first : worker_side new ≡ worker_after e (worker_side x) = rw (is, w, r, n, b) refl in
        ap (λ y. y ∷ map worker_side xs) first ∙ ap (λ ys. worker_after e (worker_side x) ∷ ys) (sym (map_unmoved (worker_after e) (map worker_side xs) (all_as _ _ (λ o h. unmoved x.worker.0 here o h) (map worker_side xs) apart.0)))
    counted_workers (x ∷ xs) (suc i) d new l here apart w r n b =
        let rest = counted_workers xs i d new (omega (arith, l)) here apart.1 w r n b in
        let within : i < length (map worker_side xs) = at_map xs i (omega (arith, l)) in
        let first : worker_after e (worker_side x) ≡ worker_side x = unmoved_at (worker_side x) _ refl (others (worker_side x) (map worker_side xs) i within apart.0 here) in
        ap (λ ys. worker_side x ∷ ys) rest ∙ ap (λ y. y ∷ map (worker_after e) (map worker_side xs)) (sym first)
      where
        at_map : (ys : List (Seat S)) (j : ℕ) → j < length ys → j < length (map worker_side ys)
        at_map [] j h = absurd (omega (arith, h))
        at_map (y ∷ ys) zero h = omega arith
        at_map (y ∷ ys) (suc j) h = let rest = at_map ys j (omega (arith, h)) in omega arith
