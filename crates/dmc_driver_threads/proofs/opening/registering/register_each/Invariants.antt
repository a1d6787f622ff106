use Rattle.std.proofs.Common.{◌≡◌, map, take}
use Rattle.dmc_book.specs.BookState.{pass_state}
use Rattle.dmc_book.specs.Moves.{IsEnrolled}
use Rattle.dmc_driver_threads.specs.Opened.{commands_of, registration}
use Rattle.dmc_driver_threads.specs.internal.Books.{IsSetAsBefore}
use Rattle.dmc_driver_threads.proofs.opening.registering.register_each.Given as goal

abbrev pub invariant-loop-client : goal.invariant-loop-client
invariant-loop-client g l = record {
  kept : IsSetAsBefore l.fn.book l.book;
  registered : commands_of l.book.history ≡ map registration (take l.client-index l.clients);
  enrolled : IsEnrolled l.book.workers (pass_state l.pass);
}
