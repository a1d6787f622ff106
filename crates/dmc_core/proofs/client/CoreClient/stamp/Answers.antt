use Rattle.std.proofs.Common.{◌≡◌, ◌<◌, ◌++◌, ◌∷◌, [], length, map, refl, set, ap, ◌∙◌, arith}
use Rattle.std.proofs.lemmas.List.{length-map}
use Rattle.dmc_core.specs.Core.{Held}
use Rattle.dmc_core.specs.Run.{Pair, pair_at, with_flight, with_pair}
use Rattle.dmc_core.specs.declared.event.Message.{Message}
use Rattle.dmc_core.specs.declared.pair.Pairing.{Pairing}
use Rattle.dmc_core.specs.internal.Parts.{pair_of, room_of}
use Rattle.dmc_core.proofs.Pairs.{pair_seen, pair_changed, pair_same, flight_keeps_grants, same_keeps_grants, rooms_kept, more_room, sent_room}
use Rattle.dmc_core.proofs.Clients.{stamp-flight_full, stamp-refused, stamp-memory, stamp-sent}
use Rattle.dmc_core.proofs.client.CoreClient.stamp.Given.{Over}
use Rattle.dmc_core.proofs.client.CoreClient.stamp.Goals as goal
use Rattle.dmc_core.proofs.client.CoreClient.stamp.Goals.{After-index_mut-pair, After-send}
use Rattle.dmc_lemmas.proofs.Options.{err_is}

-- ---- what the paths share: the pair that is looked up

abbrev held : (g : Over) → After-index_mut-pair g → Held
held g c = record { id = c.self.inside.id; tracker = c.self.inside.tracker; pairs = map pair_of c.self.inside.pairs.items; rooms = map room_of c.self.inside.pairs.items }

there : (g : Over) (c : After-index_mut-pair g) → c.args.server.0 < length (map pair_of c.self.inside.pairs.items)
there g c = rw (← c.self.view_is) at c.requires

seen : (g : Over) (c : After-index_mut-pair g) → pair_at c.args.server (map pair_of c.self.inside.pairs.items) ≡ pair_of c.index_mut-pair.result.now
seen g c = pair_seen c.self.inside.pairs.items c.args.server c.index_mut-pair.result.now (there g c) c.index_mut-pair.ensures.value

stays : (g : Over) (c : After-index_mut-pair g) (pair : Pairing) → pair_of pair ≡ pair_of c.index_mut-pair.result.now
    → map pair_of (set c.self.inside.pairs.items c.args.server.0 pair) ≡ map pair_of c.self.inside.pairs.items
stays g c pair same = pair_same c.self.inside.pairs.items c.args.server c.index_mut-pair.result.now (there g c) c.index_mut-pair.ensures.value pair same

-- the message is in flight
sends : (g : Over) (c : After-send g)
    → map pair_of (set c.self.inside.pairs.items c.args.server.0 c.send.new.self)
    ≡ with_pair c.args.server (with_flight ((pair_at c.args.server (map pair_of c.self.inside.pairs.items)).flight ++ record { token = c.args.token; params = c.stamp_checked-params.result } ∷ []) (pair_at c.args.server (map pair_of c.self.inside.pairs.items))) (map pair_of c.self.inside.pairs.items)
sends g c =
    let message : Message = record { token = c.args.token; params = c.stamp_checked-params.result } in
    let adds = λ (pair : Pair). with_flight (pair.flight ++ message ∷ []) pair in
    let within : c.args.server.0 < length (map pair_of c.self.inside.pairs.items) = rw (← c.self.view_is) at c.requires in
    pair_changed c.self.inside.pairs.items c.args.server c.index_mut-pair.result.now within c.index_mut-pair.ensures.value c.send.new.self adds (c.send.ensures.pair ∙ ap adds c.reserve.ensures.same)

pub index_mut-pair-requires : goal.index_mut-pair-requires
index_mut-pair-requires g c = let within = simp length-map at (rw (← c.self.view_is) at c.requires) in omega arith

pub send-requires : goal.send-requires
send-requires g c = c.in_ok-reserve.ensures.room

pub returns-clause-id : goal.returns-clause-id
returns-clause-id g c = rw (← c.self.view_is) refl

-- ---- the grants stay

pub returns-then-is_flight_full-clause-grants : goal.returns-then-is_flight_full-clause-grants
returns-then-is_flight_full-clause-grants g c =
    let p = (goal.at.returns-then-is_flight_full-clause-grants g c).After-index_mut-pair in
    rw (← c.self.view_is) (same_keeps_grants _ _ (stays g p c.index_mut-pair.result.now refl))

pub returns-in_err-can_stamp-clause-grants : goal.returns-in_err-can_stamp-clause-grants
returns-in_err-can_stamp-clause-grants g c =
    let p = (goal.at.returns-in_err-can_stamp-clause-grants g c).After-index_mut-pair in
    rw (← c.self.view_is) (same_keeps_grants _ _ (stays g p c.index_mut-pair.result.now refl))

pub returns-in_err-reserve-clause-grants : goal.returns-in_err-reserve-clause-grants
returns-in_err-reserve-clause-grants g c =
    let p = (goal.at.returns-in_err-reserve-clause-grants g c).After-index_mut-pair in
    rw (← c.self.view_is) (same_keeps_grants _ _ (stays g p c.reserve.new.self c.reserve.ensures.same))

pub returns-clause-grants : goal.returns-clause-grants
returns-clause-grants g c =
    rw (← c.self.view_is, sends g (goal.at.returns-clause-grants g c).After-send) (flight_keeps_grants (map pair_of c.self.inside.pairs.items) c.args.server _)

-- ---- there is room as before

pub returns-then-is_flight_full-clause-rooms : goal.returns-then-is_flight_full-clause-rooms
returns-then-is_flight_full-clause-rooms g c =
    let x = c.index_mut-pair.result.now in
    rw (← c.self.view_is) (rooms_kept c.self.inside.pairs.items c.args.server x x c.index_mut-pair.ensures.value (more_room _ _ _ _ refl refl (λ phase. omega arith)))

pub returns-in_err-can_stamp-clause-rooms : goal.returns-in_err-can_stamp-clause-rooms
returns-in_err-can_stamp-clause-rooms g c =
    let x = c.index_mut-pair.result.now in
    rw (← c.self.view_is) (rooms_kept c.self.inside.pairs.items c.args.server x x c.index_mut-pair.ensures.value (more_room _ _ _ _ refl refl (λ phase. omega arith)))

pub returns-in_err-reserve-clause-rooms : goal.returns-in_err-reserve-clause-rooms
returns-in_err-reserve-clause-rooms g c =
    let x = c.index_mut-pair.result.now in
    rw (← c.self.view_is) (rooms_kept c.self.inside.pairs.items c.args.server x c.reserve.new.self c.index_mut-pair.ensures.value (more_room _ _ _ _ c.reserve.ensures.same c.reserve.ensures.waiting c.reserve.ensures.as_much))

pub returns-clause-rooms : goal.returns-clause-rooms
returns-clause-rooms g c =
    let x = c.index_mut-pair.result.now in
    rw (← c.self.view_is) (rooms_kept c.self.inside.pairs.items c.args.server x c.send.new.self c.index_mut-pair.ensures.value
    (sent_room (pair_of x) (pair_of c.reserve.new.self) (pair_of c.send.new.self) (room_of x) (room_of c.reserve.new.self) (room_of c.send.new.self) (record { token = c.args.token; params = c.stamp_checked-params.result })
    c.reserve.ensures.same c.reserve.ensures.waiting c.in_ok-reserve.ensures.room.grants c.send.ensures.pair c.send.ensures.room))

-- ---- the rule of a stamp

pub returns-then-is_flight_full-clause-follows : goal.returns-then-is_flight_full-clause-follows
returns-then-is_flight_full-clause-follows g c =
    let p = (goal.at.returns-then-is_flight_full-clause-follows g c).After-index_mut-pair in
    rw (← c.self.view_is, stays g p c.index_mut-pair.result.now refl)
    (stamp-flight_full g.row.T.Denot (held g p) c.args.server c.args.token c.args.cost _ (rw (seen g p, ← c.is_flight_full.ensures) c.if-is_flight_full.true))

pub returns-in_err-can_stamp-clause-follows : goal.returns-in_err-can_stamp-clause-follows
returns-in_err-can_stamp-clause-follows g c =
    let p = (goal.at.returns-in_err-can_stamp-clause-follows g c).After-index_mut-pair in
    rw (← c.self.view_is, err_is _ _ c.from_residual.ensures.1, stays g p c.index_mut-pair.result.now refl)
    (stamp-refused g.row.T.Denot (held g p) c.args.server c.args.token c.args.cost _ (rw (seen g p, ← c.is_flight_full.ensures) c.if-is_flight_full.false)
    c.in_err-can_stamp.field-0.0 c.can_stamp.result c.in_err-can_stamp.was (there g p) c.can_stamp.ensures.no_server c.can_stamp.ensures.full_by_list)

pub returns-in_err-reserve-clause-follows : goal.returns-in_err-reserve-clause-follows
returns-in_err-reserve-clause-follows g c =
    let p = (goal.at.returns-in_err-reserve-clause-follows g c).After-index_mut-pair in
    rw (← c.self.view_is, err_is _ _ c.from_residual-in_err-reserve.ensures.1, stays g p c.reserve.new.self c.reserve.ensures.same)
    (stamp-memory g.row.T.Denot (held g p) c.args.server c.args.token c.args.cost _ (rw (seen g p, ← c.is_flight_full.ensures) c.if-is_flight_full.false)
    c.can_stamp.result c.in_ok-can_stamp.was (there g p) c.can_stamp.ensures.full_by_list)

pub returns-clause-follows : goal.returns-clause-follows
returns-clause-follows g c =
    let p = (goal.at.returns-clause-follows g c).After-index_mut-pair in
    rw (← c.self.view_is)
    (stamp-sent g.row.T.Denot (held g p) c.args.server c.args.token c.args.cost _ (rw (seen g p, ← c.is_flight_full.ensures) c.if-is_flight_full.false)
    c.can_stamp.result c.in_ok-can_stamp.was (there g p) c.can_stamp.ensures.full_by_list
    c.stamp_checked-params.result c.stamp_checked-params.new.self _
    c.stamp_checked-params.ensures.represents c.stamp_checked-params.ensures.kept
    (sends g (goal.at.returns-clause-follows g c).After-send))
