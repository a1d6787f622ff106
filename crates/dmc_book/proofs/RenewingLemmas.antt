-- Accounts whose sums of a worker's tokens begin anew.
use Rattle.std.proofs.Common.{◌≡◌, ℕ, zero, suc, ◌+◌, ◌<◌, ◌≤◌, List, [], ◌∷◌, drop, length, refl, sym, ap, ◌∙◌, subst, slice_index_or, slice_set, arith, inl, inr, ◌⊎◌}
use Rattle.std.specs.Prelude.{◌==◌, ◌||◌, false, nat_lt}
use Rattle.std.specs.List.{AllByRecursion, list_any}
use Rattle.std.proofs.lemmas.List.{length-set}
use Rattle.dmc_tag.specs.declared.event.Event.{Event}
use Rattle.dmc_ledger.specs.Accounts.{new_book}
use Rattle.dmc_book.specs.BookState.{AccountsState, WorkerSide, no_desk, no_worker}
use Rattle.dmc_lemmas.proofs.Lists.{all_as}
use Rattle.dmc_book.specs.Consistent.{AreConsistent, AreTokensFit, AreWorkersApart, HasLeft, IsCounted, IsDesk, IsWorker, reaching}
use Rattle.dmc_book.specs.Counts.{one_if}
use Rattle.dmc_book.specs.Moves.{IsOpen}
use Rattle.dmc_book.specs.Renewing.{renewed_worker}
use Rattle.dmc_book.specs.internal.Renewing.{accounts_renewed}

module _ (P : WorkerSide → Type 0) where
  pub all_there : (ws : List WorkerSide) (i : ℕ) → i < length ws → AllByRecursion P ws → P (slice_index_or ws i no_worker)
  all_there [] i within h = absurd (omega (arith, within))
  all_there (w ∷ ws) zero within h = h.0
  all_there (w ∷ ws) (suc i) within h = all_there ws i (omega (arith, within)) h.1

  pub all_set : (ws : List WorkerSide) (i : ℕ) (v : WorkerSide) → AllByRecursion P ws → P v → AllByRecursion P (slice_set ws i v)
  all_set [] i v h new = tt
  all_set (w ∷ ws) zero v h new = (new, h.1)
  all_set (w ∷ ws) (suc i) v h new = (h.0, all_set ws i v h.1 new)

pub apart_set : (ws : List WorkerSide) (i : ℕ) (v : WorkerSide) → i < length ws → v.worker ≡ (slice_index_or ws i no_worker).worker → AreWorkersApart ws → AreWorkersApart (slice_set ws i v)
apart_set [] i v within same h = absurd (omega (arith, within))
apart_set (w ∷ ws) zero v within same h = (subst (λ (n : ℕ). AllByRecursion (λ (o : WorkerSide). (o.worker == n) ≡ false) ws) (sym same) h.0, h.1)
apart_set (w ∷ ws) (suc i) v within same h =
    let inside : i < length ws = omega (arith, within) in
    let P : WorkerSide → Type 0 = λ o. (o.worker == w.worker) ≡ false in
    (all_set P ws i v h.0 (subst (λ (n : ℕ). (n == w.worker) ≡ false) (sym same) (all_there P ws i inside h.0)), apart_set ws i v inside same h.1)

-- what the passes reach, and who is enrolled, are seen in the numbers and the reach of the workers
pub reaching_set : (k : ℕ) (ws : List WorkerSide) (i : ℕ) (v : WorkerSide) → v.reach ≡ (slice_index_or ws i no_worker).reach → reaching k (slice_set ws i v) ≡ reaching k ws
reaching_set k [] i v same = refl
reaching_set k (w ∷ ws) zero v same = ap (λ n. one_if (nat_lt k n) + reaching k ws) same
reaching_set k (w ∷ ws) (suc i) v same = ap (λ n. one_if (nat_lt k w.reach) + n) (reaching_set k ws i v same)

pub seated_set : (n : ℕ) (ws : List WorkerSide) (i : ℕ) (v : WorkerSide) → v.worker ≡ (slice_index_or ws i no_worker).worker → list_any (λ w. n == w.worker) (slice_set ws i v) ≡ list_any (λ w. n == w.worker) ws
seated_set n [] i v same = refl
seated_set n (w ∷ ws) zero v same = ap (λ m. (n == m) || list_any (λ (x : WorkerSide). n == x.worker) ws) same
seated_set n (w ∷ ws) (suc i) v same = ap (λ b. (n == w.worker) || b) (seated_set n ws i v same)

module _ {T : Type 0} where
  none_left : (es : List (Event T)) → drop (length es) es ≡ []
  none_left [] = refl
  none_left (e ∷ es) = none_left es

  begun : (adds : Event T → ℕ) (es : List (Event T)) (n : ℕ) → IsCounted adds (drop (length es) es) 1 (new_book n)
  begun adds es n = subst (λ (xs : List (Event T)). IsCounted adds xs 1 (new_book n)) (sym (none_left es)) (record { total = refl; gathered = refl; open_tills = refl })

  renewed_counts : (es : List (Event T)) (w : WorkerSide) → IsWorker es w → IsWorker es (renewed_worker (length es) w)
  renewed_counts es w h = record {
    renewed = omega arith;
    books = (h.books.0, h.books.1, begun _ es w.books.tokens.number, h.books.3, begun _ es w.books.granted.number, h.books.5);
  }

  -- the worker at a place is counted, if it was not dismissed
  pub worker_there : (a : AccountsState T) (place : ℕ) → place < length a.workers → IsOpen (slice_index_or a.workers place no_worker) → AreConsistent a → IsWorker a.history (slice_index_or a.workers place no_worker)
  worker_there a place within still h = counted (slice_index_or a.workers place no_worker) still (all_there (λ w. IsWorker a.history w ⊎ HasLeft a.history w) a.workers place within h.workers) where
    counted : (w : WorkerSide) → IsOpen w → IsWorker a.history w ⊎ HasLeft a.history w → IsWorker a.history w
    counted w still (inl is) = is
    counted w still (inr left) = absurd (omega (arith, still, left.settled.0.open_tills))

  pub consistent_renewed : (a : AccountsState T) (place : ℕ) → place < length a.workers → IsOpen (slice_index_or a.workers place no_worker) → AreConsistent a → AreConsistent (accounts_renewed place a)
  consistent_renewed a place within still h =
      let w = slice_index_or a.workers place no_worker in
      let v = renewed_worker (length a.history) w in
      let as_many : length (slice_set a.workers place v) ≡ length a.workers = length-set a.workers place v in
      record {
        workers = all_set (λ x. IsWorker a.history x ⊎ HasLeft a.history x) a.workers place v h.workers (inl (renewed_counts a.history w (worker_there a place within still h)));
        desks = λ k l. subst (λ (n : ℕ). IsDesk a.history a.server n (slice_index_or a.desks k no_desk)) (sym (reaching_set k a.workers place v refl)) (h.desks k l);
        reach = all_set (λ x. x.reach ≤ length a.desks) a.workers place v h.reach (all_there (λ x. x.reach ≤ length a.desks) a.workers place within h.reach);
        workers_apart = apart_set a.workers place v within refl h.workers_apart;
        clients_apart = h.clients_apart;
        granted = h.granted;
        queued = h.queued;
        seated = all_as _ _ (λ e is. seated_set e.worker.0 a.workers place v refl ∙ is) a.history h.seated;
        tokens_fit = all_set (λ x. IsOpen x → AreTokensFit a.first (length a.history) x.books) a.workers place v h.tokens_fit (λ still. record { tokens = omega (arith, h.within); granted = omega (arith, h.within) });
        cost_fits = h.cost_fits;
        within = h.within;
        few = h.few;
        limit = h.limit;
        few_workers = omega (arith, h.few_workers, as_many);
      }
