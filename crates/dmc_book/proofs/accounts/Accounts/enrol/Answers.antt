use Rattle.std.proofs.Common.{◌≡◌, ◌∙◌, List, [], ◌∷◌, ◌++◌, ap, drop, length, map, refl, sym, subst, slice_index_or, arith}
use Rattle.std.proofs.lemmas.List.{length-map}
use Rattle.dmc_ledger.specs.Bundles.{ClientSide, client_side}
use Rattle.dmc_ledger.specs.declared.desk.ClientDesk.{ClientDesk}
use Rattle.dmc_lemmas.proofs.Lists.{lent_back}
use Rattle.dmc_book.specs.BookState.{AccountsState, WorkerSide, accounts_of, no_desk, worker_side}
use Rattle.dmc_book.specs.internal.Enrolling.{IsAgainstWorker}
use Rattle.dmc_book.specs.Opening.{desk_with_tills, new_pass, new_worker}
use Rattle.dmc_book.specs.internal.Opening.{HaveRoom}
use Rattle.dmc_book.specs.declared.fault.EnrolFault.TheVariants.{Memory}
use Rattle.dmc_book.specs.declared.seat.Seat.{Seat}
use Rattle.dmc_book.proofs.EnrollingLemmas.{consistent_enrolled, room_for_one_more}
use Rattle.dmc_book.proofs.ExtendingLemmas.{apart_by_number}
use Rattle.dmc_book.proofs.OpeningLemmas.{as_many_desks, names_by_sides, names_stay}
use Rattle.dmc_book.proofs.accounts.Accounts.enrol.Goals as goal

pub make_seat_room-requires : goal.make_seat_room-requires
make_seat_room-requires g c = record { apart = rw (c.deref-2.ensures.value) (apart_by_number (map client_side c.self.inside.desks.items) c.self.invariant.0.clients_apart) }

pub open_seat-requires-clause-some_left : goal.open_seat-requires-clause-some_left
open_seat-requires-clause-some_left g c = λ k inside. (
    let here = c.self.inside in
    let items = here.desks.items in
    let a : AccountsState g.row.T.Denot = accounts_of here.server.0 here.history (map worker_side here.workers.items) (map client_side items) in
    let may = subst (λ (seats : List (Seat g.row.S.Denot)). IsAgainstWorker (map worker_side seats) c.left.result c.args.worker Memory) c.deref.ensures.value (c.in_default.ensures.others refl) in
    let all = ap length c.deref_mut.ensures.value in
    let room = room_for_one_more a c.self.invariant.0 may.1.few k (omega (arith, inside, all, length-map items (client_side {S = g.row.S.Denot}))) in
    subst (λ (ds : List (ClientDesk g.row.S.Denot)). HaveRoom (slice_index_or (map client_side ds) k no_desk).books) (sym c.deref_mut.ensures.value) room)

pub invariant_of-self-2 : goal.invariant_of-self-2
invariant_of-self-2 g c =
    let here = c.self.inside in
    let f : ClientDesk g.row.S.Denot → ClientSide = client_side in
    let items = here.desks.items in
    let seats : List WorkerSide = map worker_side here.workers.items in
    let a : AccountsState g.row.T.Denot = accounts_of here.server.0 here.history seats (map f items) in
    let may = subst (λ (seats : List (Seat g.row.S.Denot)). IsAgainstWorker (map worker_side seats) c.left.result c.args.worker Memory) c.deref.ensures.value (c.in_default.ensures.others refl) in
    let n = c.args.mint.now.opened in
    let same : c.deref_mut.result.now ≡ items = c.deref_mut.ensures.value in
    let new = c.open_seat.new.desks in
    let opened : map f new ≡ map (desk_with_tills 1) (map f items) = c.open_seat.ensures.desks ∙ ap (λ (ds : List (ClientDesk g.row.S.Denot)). map (desk_with_tills 1) (map f ds)) same in
    let seated : map worker_side c.open_seat.new.workers.items ≡ seats ++ new_worker (length (map f items)) n c.args.worker ∷ [] =
    c.open_seat.ensures.workers ∙ ap (λ (ss : List (Seat g.row.S.Denot)). map worker_side ss ++ new_worker (length c.deref_mut.result.now) n c.args.worker ∷ []) c.in-Ok.ensures.kept
    ∙ ap (λ r. seats ++ new_worker r n c.args.worker ∷ []) (ap length same ∙ sym (length-map items f)) in
    let back = lent_back new (drop (length new) items) here.desks.len (as_many_desks 1 new items opened ∙ sym here.desks.ok.0) in
    rw (back, opened, seated) (consistent_enrolled a c.self.invariant.0 may.1.few n c.args.worker may.0, c.self.invariant.1 ∙ sym (names_stay 1 new items opened), c.self.invariant.2)

pub returns-clause-pass : goal.returns-clause-pass
returns-clause-pass g c =
    let here = c.self.inside in
    let f : ClientDesk g.row.S.Denot → ClientSide = client_side in
    let items = here.desks.items in
    let n = c.args.mint.now.opened in
    let w = c.args.worker in
    let seats : List WorkerSide = map worker_side here.workers.items in
    let place : length c.make_seat_room.new.workers.items ≡ length seats = ap length c.in-Ok.ensures.kept ∙ sym (length-map here.workers.items (worker_side {S = g.row.S.Denot})) in
    rw (← c.self.view_is)
    (c.open_seat.ensures.pass
    ∙ ap (λ m. new_pass m n (map (λ d. d.client) c.deref_mut.result.now) (map f c.deref_mut.result.now) w) place
    ∙ ap (λ (ds : List (ClientDesk g.row.S.Denot)). new_pass (length seats) n (map (λ d. d.client) ds) (map f ds) w) c.deref_mut.ensures.value
    ∙ ap (λ ids. new_pass (length seats) n ids (map f items) w) (names_by_sides items))
