use Rattle.std.proofs.Common.{◌≡◌, ℕ, ◌+◌, List, ◌++◌, length, map}
use Rattle.std.specs.List.{AllByRecursion}
use Rattle.dmc_ledger.specs.Bundles.{client_side}
use Rattle.dmc_book.specs.BookState.{PassState, pass_state, worker_side}
use Rattle.dmc_book.specs.Consistent.{reaching}
use Rattle.dmc_book.specs.Settling.{IsOwn, open_passes}
use Rattle.dmc_book.specs.internal.Settling.{ArePassesTakenIn, having}
use Rattle.dmc_book.proofs.SettlingLemmas.{ArePartly, still_reaching}
use Rattle.dmc_book.proofs.settled.take_passes.Given as goal

abbrev pub invariant-loop-pass : goal.invariant-loop-pass
invariant-loop-pass g l = record {
  workers : ArePartly (map worker_side l.fn.workers) (map worker_side l.workers);
  still_open : open_passes (map worker_side l.workers) ≡ length l.passes.items;
  own : AllByRecursion (IsOwn (map worker_side l.fn.workers) (map client_side l.fn.desks)) (map pass_state l.passes.items);
  taken : List PassState;
  all : map pass_state l.fn.passes.items ≡ map pass_state l.passes.items ++ taken;
  tills : (k : ℕ) → having k taken + still_reaching k (map worker_side l.workers) ≡ reaching k (map worker_side l.fn.workers);
  desks : ArePassesTakenIn taken (map client_side l.fn.desks) (map client_side l.desks);
}

abbrev pub decreases-loop-pass : goal.decreases-loop-pass
decreases-loop-pass g l = goal.left-loop-pass g l
