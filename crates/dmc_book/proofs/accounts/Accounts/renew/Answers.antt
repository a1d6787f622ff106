-- What is written at the worker's place is the worker with its sums begun anew.
use Rattle.std.proofs.Common.{◌≡◌, ℕ, ◌<◌, ◌∙◌, List, ap, refl, sym, subst, map, length, get_or, slice_index_or, slice_set, rules}
use Rattle.std.proofs.lemmas.List.{get_or-map, length-map, map-set}
use Rattle.dmc_ledger.specs.Bundles.{client_side}
use Rattle.dmc_book.specs.BookState.{AccountsState, accounts_of, no_worker, worker_side}
use Rattle.dmc_book.specs.Renewing.{renewed_worker}
use Rattle.dmc_book.specs.declared.seat.Seat.{Seat}
use Rattle.dmc_book.proofs.RenewingLemmas.{consistent_renewed}
use Rattle.dmc_book.proofs.accounts.Accounts.renew.Given.{Over}
use Rattle.dmc_book.proofs.accounts.Accounts.renew.Goals.{After-renew_seat}
use Rattle.dmc_book.proofs.accounts.Accounts.renew.Goals as goal

-- one seat is renewed
written : {S : Type 0} (seats : List (Seat S)) (place events : ℕ) (x new : Seat S) → place < length seats → x ≡ get_or seats place x → worker_side new ≡ renewed_worker events (worker_side x)
    → map worker_side (slice_set seats place new) ≡ slice_set (map worker_side seats) place (renewed_worker events (slice_index_or (map worker_side seats) place no_worker))
written seats place events x new within is same =
    let here = get_or-map worker_side seats place x no_worker within in
    map-set worker_side seats place new
    ∙ ap (slice_set (map worker_side seats) place) (same ∙ ap (λ (s : Seat _). renewed_worker events (worker_side s)) is ∙ ap (renewed_worker events) (sym here))

-- ---- what the paths share

enrolled : (g : Over) (c : After-renew_seat g) → c.args.pass.now.place < length (map worker_side c.self.inside.workers.items)
enrolled g c = rw (← c.self.view_is) at c.requires.enrolled.within

now : (g : Over) (c : After-renew_seat g) → map worker_side (slice_set c.self.inside.workers.items c.args.pass.now.place c.renew_seat.new.seat)
    ≡ slice_set (map worker_side c.self.inside.workers.items) c.args.pass.now.place
    (renewed_worker c.len-events.result (slice_index_or (map worker_side c.self.inside.workers.items) c.args.pass.now.place no_worker))
now g c =
    let place = c.args.pass.now.place in
    let seats : List (Seat g.row.S.Denot) = c.self.inside.workers.items in
    let within : place < length seats = subst (λ n. place < n) (length-map seats worker_side) (enrolled g c) in
    let is : c.index_mut.result.now ≡ get_or seats place c.index_mut.result.now = search rules in
    written seats place c.len-events.result c.index_mut.result.now c.renew_seat.new.seat within is c.renew_seat.ensures.seat

-- ---- the goals

pub invariant_of-self : goal.invariant_of-self
invariant_of-self g c =
    let p = (goal.at.invariant_of-self g c).After-renew_seat in
    let here = c.self.inside in
    let a : AccountsState g.row.T.Denot = accounts_of here.server.0 here.history (map worker_side here.workers.items) (map client_side here.desks.items) in
    rw (now g p, c.len-events.ensures.value) (consistent_renewed a c.args.pass.now.place (enrolled g p) (rw (← c.self.view_is) at c.requires.enrolled.still) c.self.invariant.0, c.self.invariant.1, c.self.invariant.2)

pub returns-clause-accounts : goal.returns-clause-accounts
returns-clause-accounts g c = rw (← c.self.view_is, now g (goal.at.returns-clause-accounts g c).After-renew_seat, c.len-events.ensures.value) refl
