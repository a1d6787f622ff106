use Rattle.std.proofs.Common.{◌≡◌, take}
use Rattle.dmc_types.specs.declared.ids.WorkerId.{WorkerId}
use Rattle.dmc_book.specs.Opening.{AreApart}
use Rattle.dmc_book.proofs.opening.are_apart.Given as goal

abbrev pub invariant-loop-worker : goal.invariant-loop-worker
invariant-loop-worker l = record {
  named : l.names.keys ≡ take l.worker-index l.workers;
  apart : AreApart (λ (w : WorkerId). w.0) (take l.worker-index l.workers);
}
