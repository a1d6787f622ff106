use Rattle.std.proofs.Common.{◌≡◌, ◌∙◌, List, ap, length, map, drop, sym, subst, slice_index_or, arith}
use Rattle.std.proofs.lemmas.List.{length-map}
use Rattle.dmc_ledger.specs.Bundles.{ClientSide, client_side, grant_holdings}
use Rattle.dmc_ledger.specs.declared.desk.ClientDesk.{ClientDesk}
use Rattle.dmc_lemmas.proofs.Lists.{lent_back}
use Rattle.dmc_book.specs.BookState.{AccountsState, accounts_of, no_desk, pass_state, worker_side}
use Rattle.dmc_book.specs.Joining.{desks_from, reach_at, with_reach}
use Rattle.dmc_book.specs.Moves.{IsEnrolled}
use Rattle.dmc_book.specs.internal.Opening.{HaveRoom}
use Rattle.dmc_book.specs.declared.seat.Seat.{Seat}
use Rattle.dmc_book.proofs.ExtendingLemmas.{apart_by_number, as_many_from, consistent_extended, names_from, reach_within, room_behind}
use Rattle.dmc_book.proofs.accounts.Accounts.extend.Goals as goal

pub make_more_room-requires : goal.make_more_room-requires
make_more_room-requires g c = record { apart = rw (c.deref-2.ensures.value) (apart_by_number (map client_side c.self.inside.desks.items) c.self.invariant.0.clients_apart) }

pub open_rest-requires-clause-reach : goal.open_rest-requires-clause-reach
open_rest-requires-clause-reach g c =
    let here = c.self.inside in
    let p = pass_state c.args.pass.now in
    let a : AccountsState g.row.T.Denot = accounts_of here.server.0 here.history (map worker_side here.workers.items) (map client_side here.desks.items) in
    let its = subst (λ (seats : List (Seat g.row.S.Denot)). IsEnrolled (map worker_side seats) p × (length p.units ≡ reach_at p.place (map worker_side seats))) c.deref.ensures.value (c.has_reach.ensures.0 c.if-not-has_reach.false) in
    let most = reach_within a p.place its.0.within c.self.invariant.0 in
    let kept = ap length c.in-Ok.ensures.kept in
    let all = ap length c.deref_mut.ensures.value in
    omega (arith, its.1, most, kept, all, length-map c.args.pass.now.units.items (grant_holdings {S = g.row.S.Denot}), length-map here.desks.items (client_side {S = g.row.S.Denot}))

pub open_rest-requires-clause-some_left : goal.open_rest-requires-clause-some_left
open_rest-requires-clause-some_left g c = λ k past inside. (
    let here = c.self.inside in
    let p = pass_state c.args.pass.now in
    let a : AccountsState g.row.T.Denot = accounts_of here.server.0 here.history (map worker_side here.workers.items) (map client_side here.desks.items) in
    let its = subst (λ (seats : List (Seat g.row.S.Denot)). IsEnrolled (map worker_side seats) p × (length p.units ≡ reach_at p.place (map worker_side seats))) c.deref.ensures.value (c.has_reach.ensures.0 c.if-not-has_reach.false) in
    let kept = ap length c.in-Ok.ensures.kept in
    let all = ap length c.deref_mut.ensures.value in
    let room = room_behind a p.place its.0.within c.self.invariant.0 k (omega (arith, past, its.1, kept, length-map c.args.pass.now.units.items (grant_holdings {S = g.row.S.Denot}))) (omega (arith, inside, all, length-map here.desks.items (client_side {S = g.row.S.Denot}))) in
    subst (λ (ds : List (ClientDesk g.row.S.Denot)). HaveRoom (slice_index_or (map client_side ds) k no_desk).books) (sym c.deref_mut.ensures.value) room)

pub invariant_of-self : goal.invariant_of-self
invariant_of-self g c =
    let here = c.self.inside in
    let f : ClientDesk g.row.S.Denot → ClientSide = client_side in
    let p = pass_state c.args.pass.now in
    let items = here.desks.items in
    let seats = map (worker_side {S = g.row.S.Denot}) here.workers.items in
    let a : AccountsState g.row.T.Denot = accounts_of here.server.0 here.history seats (map f items) in
    let its = subst (λ (seats : List (Seat g.row.S.Denot)). IsEnrolled (map worker_side seats) p × (length p.units ≡ reach_at p.place (map worker_side seats))) c.deref.ensures.value (c.has_reach.ensures.0 c.if-not-has_reach.false) in
    let same : c.deref_mut.result.now ≡ items = c.deref_mut.ensures.value in
    let from : length c.make_more_room.new.units.items ≡ reach_at p.place seats = ap length c.in-Ok.ensures.kept ∙ sym (length-map c.args.pass.now.units.items (grant_holdings {S = g.row.S.Denot})) ∙ its.1 in
    let new = c.open_rest.new.desks in
    let opened : map f new ≡ desks_from (reach_at p.place seats) (map f items) =
    c.open_rest.ensures.desks ∙ ap (λ n. desks_from n (map f c.deref_mut.result.now)) from ∙ ap (λ (ds : List (ClientDesk g.row.S.Denot)). desks_from (reach_at p.place seats) (map f ds)) same in
    let reached : map worker_side c.open_rest.new.workers.items ≡ with_reach p.place (length (map f items)) seats =
    c.open_rest.ensures.workers ∙ ap (λ n. with_reach p.place n seats) (ap length same ∙ sym (length-map items f)) in
    let as_many : length new ≡ length items = sym (length-map new f) ∙ ap length opened ∙ as_many_from (reach_at p.place seats) (map f items) ∙ length-map items f in
    let back = lent_back new (drop (length new) items) here.desks.len (as_many ∙ sym here.desks.ok.0) in
    rw (back, opened, reached) (consistent_extended a p.place its.0.within c.self.invariant.0 its.0.still, c.self.invariant.1 ∙ sym (names_from (reach_at p.place seats) new items opened), c.self.invariant.2)
