use Rattle.std.proofs.Common.{◌≡◌, ◌∙◌, List, ◌++◌, ap, drop, take, length, map, sym, subst, slice_index_or, slice_set}
use Rattle.std.proofs.lemmas.List.{length-map, length-set}
use Rattle.dmc_ledger.specs.Bundles.{client_side}
use Rattle.dmc_ledger.specs.declared.desk.ClientDesk.{ClientDesk}
use Rattle.dmc_lemmas.proofs.Lists.{lent_back}
use Rattle.dmc_book.specs.BookState.{AccountsState, WorkerSide, accounts_of, no_worker, pass_state, worker_side}
use Rattle.dmc_book.specs.Leaving.{MayLeave}
use Rattle.dmc_book.specs.Settling.{AreUnitsTakenIn, closed_worker}
use Rattle.dmc_book.specs.internal.Settling.{AreOneOpen}
use Rattle.dmc_book.specs.declared.seat.Seat.{Seat}
use Rattle.dmc_book.proofs.LeavingLemmas.{consistent_left, names_kept, one_is_open, same_ids}
use Rattle.dmc_book.proofs.accounts.Accounts.dismiss.Given.{Over}
use Rattle.dmc_book.proofs.accounts.Accounts.dismiss.Goals as goal
use Rattle.dmc_book.proofs.accounts.Accounts.dismiss.Goals.{After-take_pass}

-- ---- what the goals share: the worker's books are closed, and the desks took the units in

abbrev seats_of : {S : Type 0} → List (Seat S) → List WorkerSide
seats_of seats = map worker_side seats

may_leave : (g : Over) (c : After-take_pass g)
    → MayLeave (seats_of c.self.inside.workers.items) (map client_side c.self.inside.desks.items) (pass_state c.args.pass)
may_leave g c = subst (λ (x : AccountsState g.row.T.Denot). MayLeave x.workers x.desks (pass_state c.args.pass)) (sym c.self.view_is) c.requires

closed_now : (g : Over) (c : After-take_pass g)
    → seats_of c.take_pass.new.workers
    ≡ slice_set (seats_of c.self.inside.workers.items) (pass_state c.args.pass).place (closed_worker (slice_index_or (seats_of c.self.inside.workers.items) (pass_state c.args.pass).place no_worker))
closed_now g c =
    let place = (pass_state c.args.pass).place in
    let a : AccountsState g.row.T.Denot = accounts_of c.self.inside.server.0 c.self.inside.history (seats_of c.self.inside.workers.items) (map client_side c.self.inside.desks.items) in
    subst (λ (ss : List (Seat g.row.S.Denot)). AreOneOpen (slice_index_or (seats_of ss) place no_worker).books → seats_of c.take_pass.new.workers ≡ slice_set (seats_of ss) place (closed_worker (slice_index_or (seats_of ss) place no_worker)))
    c.deref_mut.ensures.value c.take_pass.ensures.only (one_is_open a c.self.invariant.0 (pass_state c.args.pass) (may_leave g c))

taken_in : (g : Over) (c : After-take_pass g)
    → AreUnitsTakenIn (pass_state c.args.pass).units (map client_side c.self.inside.desks.items) (map client_side c.take_pass.new.desks)
taken_in g c = subst (λ (ds : List (ClientDesk g.row.S.Denot)). AreUnitsTakenIn (pass_state c.args.pass).units (map client_side ds) (map client_side c.take_pass.new.desks)) c.deref_mut-2.ensures.value c.take_pass.ensures.desks

seats_back : (g : Over) (c : After-take_pass g)
    → take c.self.inside.workers.len (c.take_pass.new.workers ++ drop (length c.take_pass.new.workers) c.self.inside.workers.items) ≡ c.take_pass.new.workers
seats_back g c =
    let here = c.self.inside in
    let left = c.take_pass.new.workers in
    let p = pass_state c.args.pass in
    let seats = seats_of here.workers.items in
    let as_many : length left ≡ length here.workers.items =
    sym (length-map left (worker_side {S = g.row.S.Denot})) ∙ ap length (closed_now g c) ∙ length-set seats p.place (closed_worker (slice_index_or seats p.place no_worker)) ∙ length-map here.workers.items worker_side in
    lent_back left (drop (length left) here.workers.items) here.workers.len (as_many ∙ sym here.workers.ok.0)

desks_back : (g : Over) (c : After-take_pass g)
    → take c.self.inside.desks.len (c.take_pass.new.desks ++ drop (length c.take_pass.new.desks) c.self.inside.desks.items) ≡ c.take_pass.new.desks
desks_back g c =
    let items = c.self.inside.desks.items in
    let new = c.take_pass.new.desks in
    let as_many : length new ≡ length items = sym (length-map new (client_side {S = g.row.S.Denot})) ∙ (taken_in g c).as_many ∙ length-map items client_side in
    lent_back new (drop (length new) items) c.self.inside.desks.len (as_many ∙ sym c.self.inside.desks.ok.0)

pub invariant_of-self : goal.invariant_of-self
invariant_of-self g c =
    let at = (goal.at.invariant_of-self g c).After-take_pass in
    let here = c.self.inside in
    let p = pass_state c.args.pass in
    let new = c.take_pass.new.desks in
    let a : AccountsState g.row.T.Denot = accounts_of here.server.0 here.history (seats_of here.workers.items) (map client_side here.desks.items) in
    let may = may_leave g at in
    let taken = taken_in g at in
    rw (seats_back g at, desks_back g at, closed_now g at) (consistent_left a c.self.invariant.0 p may (map client_side new) taken, c.self.invariant.1 ∙ sym (names_kept new here.desks.items (same_ids a c.self.invariant.0 p may (map client_side new) taken)), c.self.invariant.2)

pub returns-clause-gone : goal.returns-clause-gone
returns-clause-gone g c =
    let at = (goal.at.returns-clause-gone g c).After-take_pass in
    rw (← c.self.view_is, seats_back g at, desks_back g at) (record { workers_now = closed_now g at; desks_now = taken_in g at })
