-- What other crates cite of a consistent tracker book.
use Rattle.std.proofs.Common.{ℕ, ◌<◌, ◌≤◌, length, arith}
use Rattle.dmc_types.specs.declared.ids.ServerId.{ServerId}
use Rattle.dmc_tracker.proofs.ForCallers.{stamps-le-length}
use Rattle.dmc_ledger.specs.Accounts.{total_of}
use Rattle.dmc_ledger.specs.Bundles.{StampAccounts}
use Rattle.dmc_tlock.specs.BookState.{BookState, desk_at}
use Rattle.dmc_tlock.specs.Consistent.{IsConsistent}
use Rattle.dmc_tlock.proofs.CarriedLemmas.{sent-rho}

-- what the stamp books of a server total: at most so many stamps, and deltas and rhos of at most so much
pub record HasRoom (entries most : ℕ) (books : StampAccounts) : Type 0 where
  pub stamps : total_of books.stamps ≤ entries
  pub delta : total_of books.delta ≤ most
  pub rho : total_of books.rho ≤ most

-- no more stamps than entries, and no more than the tracker counts
pub has_room : (b : BookState) (s : ServerId) → s.0 < length b.desks → IsConsistent b
    → HasRoom (length b.events) b.tracker.most (desk_at b.desks s).books
has_room b s within h =
    let books = (h.desks s within).books in
    let most = h.counted.sent s within in
    record {
      stamps = omega (arith, stamps-le-length s b.events, books.stamps.total);
      delta = omega (arith, most, books.delta.total);
      rho = omega (arith, most, sent-rho b.tracker.counting s b.events h.tracked, books.rho.total);
    }
