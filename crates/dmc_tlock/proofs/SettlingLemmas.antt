-- A consistent book's desks after their tills are gathered.
use Rattle.std.proofs.Common.{ℕ, ◌<◌, ◌≤◌, length, sym, subst, arith}
use Rattle.dmc_types.specs.declared.ids.ServerId.{ServerId}
use Rattle.dmc_ledger.specs.Accounts.{Account, Holding}
use Rattle.dmc_ledger.specs.Bundles.{ServerSide, StampHoldings}
use Rattle.dmc_ledger.specs.Moves.{after_gather, AreWithin}
use Rattle.dmc_tlock.specs.BookState.{BookState, desk_at, tills_at}
use Rattle.dmc_tlock.specs.Consistent.{IsBook, IsConsistent}
use Rattle.dmc_tlock.specs.Settling.{AreGathered, IsSettledDesk, side_after_gather}
use Rattle.std.specs.Prelude.{List}
use Rattle.dmc_tracker.specs.declared.event.TrackerEvent.{TrackerEvent}
use Rattle.dmc_tlock.specs.Consistent.{IsDesk}

IsBook-gather : (n : ℕ) (t : Holding) (b : Account) → t.amount ≤ b.held → IsBook n 0 2 b → IsBook n t.amount 1 (after_gather t b)
IsBook-gather n t b within h = record {
  total = omega (arith, within, h.total);
  gathered = omega (arith, h.gathered);
  open_tills = omega (arith, h.open_tills);
}

IsSettledDesk-gather : (client : ℕ) (events : List TrackerEvent) (s : ServerId) (tills : StampHoldings) (d : ServerSide) → IsDesk client events s d
    → AreWithin tills d.books → IsSettledDesk client events s tills (side_after_gather tills d)
IsSettledDesk-gather client events s tills d h within = record {
  its_client = h.its_client;
  its_server = h.its_server;
  books = record {
    stamps = IsBook-gather _ tills.stamps _ within.stamps h.books.stamps;
    delta = IsBook-gather _ tills.delta _ within.delta h.books.delta;
    rho = IsBook-gather _ tills.rho _ within.rho h.books.rho;
  };
  held = h.held;
}

-- each desk, once its tills are gathered
pub settled_desks : (b : BookState) (pass : List StampHoldings) (settled : List ServerSide) → IsConsistent b → AreGathered pass b.desks settled
    → (s : ServerId) → s.0 < length b.desks → IsSettledDesk b.client b.events s (tills_at pass s) (desk_at settled s)
settled_desks b pass settled h gathered s within =
    subst (IsSettledDesk b.client b.events s (tills_at pass s)) (sym (gathered.each s within))
    (IsSettledDesk-gather b.client b.events s (tills_at pass s) (desk_at b.desks s) (h.desks s within) (gathered.within s within))
