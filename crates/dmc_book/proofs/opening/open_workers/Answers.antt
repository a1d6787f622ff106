use Rattle.std.proofs.Common.{◌≡◌, ◌+◌, ◌*◌, ◌<◌, List, [], ◌∷◌, ◌++◌, length, map, get_or, sym, ap, ◌∙◌, arith, rules}
use Rattle.std.proofs.lemmas.List.{get_or_default, length-append, length-map, map-append, take_all}
use Rattle.std.specs.Arc.{arc_value}
use Rattle.dmc_types.specs.declared.ids.ClientId.{ClientId}
use Rattle.dmc_types.specs.declared.ids.WorkerId.{WorkerId}
use Rattle.dmc_ledger.specs.Bundles.{ClientSide, client_side}
use Rattle.dmc_ledger.specs.declared.desk.ClientDesk.{ClientDesk}
use Rattle.dmc_book.specs.BookState.{pass_state, worker_side}
use Rattle.dmc_book.specs.Opening.{desk_with_tills, new_pass, new_passes, new_worker, new_workers}
use Rattle.dmc_book.specs.PerCount.{books_per_worker}
use Rattle.dmc_book.specs.internal.Rooms.{IsRoom}
use Rattle.dmc_book.proofs.OpeningLemmas.{all_popped, as_many_desks, desks_more, desks_none, pass_as, passes_next, room_for_one, workers_next}
use Rattle.dmc_book.proofs.opening.open_workers.Goals as goal

pub loop-place-init : goal.loop-place-init
loop-place-init g c = record {
  rooms = c.requires.rooms;
  rooms_left = omega (arith, c.requires.as_many);
  seats_room = c.requires.seats.1;
  passes_room = c.requires.passes.1;
  a_seat_each = ap length c.requires.seats.0;
  a_pass_each = ap length c.requires.passes.0;
  seats = ap (map worker_side) c.requires.seats.0;
  passes = ap (map pass_state) c.requires.passes.0;
  desks = sym (desks_none (map client_side c.args.desks.now));
  opened = omega arith;
  left = omega arith;
}

pub loop-place-preserved : goal.loop-place-preserved
loop-place-preserved g c =
    let i = c.loop-place.place in
    let ws = c.args.workers.now in
    let names = map (λ d. d.client) c.args.desks.now in
    let start : List ClientSide = map client_side c.args.desks.now in
    let inv = c.loop-place.invariant in
    let r = length start in
    let all : length c.loop-place.desks ≡ r = as_many_desks i c.loop-place.desks c.args.desks.now inv.desks ∙ sym (length-map c.args.desks.now (client_side {S = g.row.S.Denot})) in
    let within : i < length ws = omega arith in
    let w : WorkerId = get_or ws i (record { 0 = 0 }) in
    let w_is = get_or_default ws i (record { 0 = 0 }) w within in
    let popped : c.loop-place.rooms.items ≡ c.pop.new.self.items ++ c.in-Some.room ∷ [] = c.in-Some.ensures.items in
    let left = all_popped (IsRoom names) c.pop.new.self.items c.in-Some.room (rw popped at inv.rooms) in
    let fewer : length c.loop-place.rooms.items ≡ length c.pop.new.self.items + 1 = rw popped (length-append c.pop.new.self.items (c.in-Some.room ∷ [])) in
    let seated : c.push.new.self.items ≡ c.loop-place.seats.items ++ c.open_one-seat.result.0 ∷ [] = search rules in
    let passed : c.push-in-loop-place.new.self.items ≡ c.loop-place.passes.items ++ c.open_one-seat.result.1 ∷ [] = search rules in
    let seat : worker_side c.open_one-seat.result.0 ≡ new_worker r (c.args.mint.now.opened + books_per_worker * i) w =
    c.open_one-seat.ensures.seat ∙ ap (λ n. new_worker (length c.loop-place.desks) n w) inv.opened ∙ ap (λ n. new_worker n (c.args.mint.now.opened + books_per_worker * i) w) all in
    let pass : pass_state c.open_one-seat.result.1 ≡ new_pass i (c.args.mint.now.opened + books_per_worker * i) names start w =
    c.open_one-seat.ensures.pass ∙ ap (λ n. new_pass i n (arc_value c.in-Some.room.clients).keys (map client_side c.loop-place.desks) w) inv.opened
    ∙ pass_as i (c.args.mint.now.opened + books_per_worker * i) i (arc_value c.in-Some.room.clients).keys names (map client_side c.loop-place.desks) start w left.1.named inv.desks in
    record {
      rooms = left.0;
      rooms_left = omega (arith, fewer, inv.rooms_left);
      seats_room = search rules;
      passes_room = search rules;
      a_seat_each = search rules;
      a_pass_each = search rules;
      seats = ap (map worker_side) seated ∙ map-append worker_side c.loop-place.seats.items (c.open_one-seat.result.0 ∷ [])
          ∙ workers_next ws i w within w_is c.args.mint.now.opened r _ _ inv.seats seat;
      passes = ap (map pass_state) passed ∙ map-append pass_state c.loop-place.passes.items (c.open_one-seat.result.1 ∷ [])
          ∙ passes_next ws i w within w_is c.args.mint.now.opened names start _ _ inv.passes pass;
      desks = c.open_one-seat.ensures.desks ∙ ap (map (desk_with_tills 1)) inv.desks ∙ desks_more i start;
      opened = rw c.open_one-seat.ensures.mint (omega (arith, inv.opened));
      left = rw c.open_one-seat.ensures.mint (omega (arith, inv.left, c.requires.left));
    }

pub open_one-seat-requires-clause-some_left : goal.open_one-seat-requires-clause-some_left
open_one-seat-requires-clause-some_left g c =
    let i = c.loop-place.place in
    let start : List ClientSide = map client_side c.args.desks.now in
    let inv = c.loop-place.invariant in
    let as_many = as_many_desks i c.loop-place.desks c.args.desks.now inv.desks in
    λ k within.
    rw inv.desks (room_for_one c.requires.new.0 i start c.requires.new.1 (omega arith) k (omega (arith, within, as_many, length-map c.args.desks.now (client_side {S = g.row.S.Denot}))))

pub open_one-seat-requires-clause-empty : goal.open_one-seat-requires-clause-empty
open_one-seat-requires-clause-empty g c =
    let names = map (λ d. d.client) c.args.desks.now in
    let popped : c.loop-place.rooms.items ≡ c.pop.new.self.items ++ c.in-Some.room ∷ [] = c.in-Some.ensures.items in
    let left = all_popped (IsRoom names) c.pop.new.self.items c.in-Some.room (rw popped at c.loop-place.invariant.rooms) in
    ap length left.1.empty

pub open_one-seat-requires-clause-room : goal.open_one-seat-requires-clause-room
open_one-seat-requires-clause-room g c =
    let names : List ClientId = map (λ d. d.client) c.args.desks.now in
    let popped : c.loop-place.rooms.items ≡ c.pop.new.self.items ++ c.in-Some.room ∷ [] = c.in-Some.ensures.items in
    let left = all_popped (IsRoom names) c.pop.new.self.items c.in-Some.room (rw popped at c.loop-place.invariant.rooms) in
    let as_many = as_many_desks c.loop-place.place c.loop-place.desks c.args.desks.now c.loop-place.invariant.desks in
    omega (arith, left.1.fits, as_many, length-map c.args.desks.now (λ (d : ClientDesk g.row.S.Denot). d.client))

pub returns-clause-seats : goal.returns-clause-seats
returns-clause-seats g c =
    let all = take_all c.loop-place.place c.args.workers.now (omega arith) in
    c.loop-place.invariant.seats ∙ ap (new_workers (length (map (client_side {S = g.row.S.Denot}) c.args.desks.now)) c.args.mint.now.opened) all

pub returns-clause-passes : goal.returns-clause-passes
returns-clause-passes g c =
    let all = take_all c.loop-place.place c.args.workers.now (omega arith) in
    c.loop-place.invariant.passes ∙ ap (new_passes 0 c.args.mint.now.opened (map (λ d. d.client) c.args.desks.now) (map client_side c.args.desks.now)) all
