use Rattle.std.proofs.Common.{◌≡◌, ℕ, ◌<◌, ◌==◌, List, length, map, refl, set, sym, ap, ◌∙◌, arith, Option, Some, None, Result, Ok, Err}
use Rattle.std.specs.Prelude.{position}
use Rattle.std.specs.Option.{ok_or}
use Rattle.std.proofs.lemmas.List.{length-map}
use Rattle.dmc_core.specs.Core.{Held}
use Rattle.dmc_core.specs.Run.{Pair, grants, pair_at, with_grants, with_pair, without_first}
use Rattle.dmc_core.specs.declared.event.CoreFault.{CoreFault}
use Rattle.dmc_core.specs.declared.event.CoreFault.TheVariants.{NoGrant}
use Rattle.dmc_core.specs.internal.Parts.{pair_of, room_of}
use Rattle.dmc_core.proofs.Lists.{removed, none_any}
use Rattle.dmc_core.proofs.Pairs.{pair_seen, pair_changed, pair_same, rooms_kept, fewer_grants}
use Rattle.dmc_core.proofs.Clients.{response-none, response-refused, response-counted}
use Rattle.dmc_core.proofs.client.CoreClient.respond.Given.{Over}
use Rattle.dmc_core.proofs.client.CoreClient.respond.Goals as goal
use Rattle.dmc_core.proofs.client.CoreClient.respond.Goals.{After-index_mut-pair, After-end_grant}
use Rattle.dmc_lemmas.proofs.Options.{err_is}

no_grant : (o : Option ℕ) (fault : CoreFault) → ok_or o NoGrant ≡ Err fault → (o ≡ None) × (fault ≡ NoGrant)
no_grant None fault e = (refl, cc)
no_grant (Some i) fault e = cc

a_grant : (o : Option ℕ) (i : ℕ) → ok_or o NoGrant ≡ Ok i → o ≡ Some i
a_grant None i e = cc
a_grant (Some j) i e = cc

-- ---- what the paths share: the pair that is looked up

abbrev held : (g : Over) → After-index_mut-pair g → Held
held g c = record { id = c.self.inside.id; tracker = c.self.inside.tracker; pairs = map pair_of c.self.inside.pairs.items; rooms = map room_of c.self.inside.pairs.items }

there : (g : Over) (c : After-index_mut-pair g) → c.args.server.0 < length (map pair_of c.self.inside.pairs.items)
there g c = rw (← c.self.view_is) at c.requires

seen : (g : Over) (c : After-index_mut-pair g) → pair_at c.args.server (map pair_of c.self.inside.pairs.items) ≡ pair_of c.index_mut-pair.result.now
seen g c = pair_seen c.self.inside.pairs.items c.args.server c.index_mut-pair.result.now (there g c) c.index_mut-pair.ensures.value

-- the grant that is found
place_is : (cost : ℕ) (ks : List ℕ) (found : Option ℕ) (answer : Result ℕ CoreFault) (i : ℕ) → found ≡ position (λ k. k == cost) ks → answer ≡ ok_or found NoGrant → answer ≡ Ok i → position (λ k. k == cost) ks ≡ Some i
place_is cost ks found answer i is answer_is was = sym is ∙ a_grant found i (sym answer_is ∙ was)

-- it no longer waits
ended : (g : Over) (c : After-end_grant g) → pair_of c.end_grant.new.self ≡ with_grants c.args.phase (without_first c.args.cost (grants c.args.phase (pair_of c.index_mut-pair.result.now))) (pair_of c.index_mut-pair.result.now)
ended g c =
    let x = c.index_mut-pair.result.now in
    let is = place_is c.args.cost (grants c.args.phase (pair_of x)) c.grant_of.result c.ok_or.result c.in_ok-place.place c.grant_of.ensures c.ok_or.ensures.value c.in_ok-place.was in
    c.end_grant.ensures.pair ∙ ap (λ (ks : List ℕ). with_grants c.args.phase ks (pair_of x)) (removed c.args.cost (grants c.args.phase (pair_of x)) c.in_ok-place.place is).0

counted : (g : Over) (c : After-end_grant g)
    → map pair_of (set c.self.inside.pairs.items c.args.server.0 c.end_grant.new.self)
    ≡ with_pair c.args.server (with_grants c.args.phase (without_first c.args.cost (grants c.args.phase (pair_at c.args.server (map pair_of c.self.inside.pairs.items)))) (pair_at c.args.server (map pair_of c.self.inside.pairs.items))) (map pair_of c.self.inside.pairs.items)
counted g c =
    let phase = c.args.phase in
    let x = c.index_mut-pair.result.now in
    let within : c.args.server.0 < length (map pair_of c.self.inside.pairs.items) = rw (← c.self.view_is) at c.requires in
    pair_changed c.self.inside.pairs.items c.args.server x within c.index_mut-pair.ensures.value c.end_grant.new.self (λ (pair : Pair). with_grants phase (without_first c.args.cost (grants phase pair)) pair)
    (ended g c)

pub index_mut-pair-requires : goal.index_mut-pair-requires
index_mut-pair-requires g c = let within = simp length-map at (rw (← c.self.view_is) at c.requires) in omega arith

pub returns-in_err-place-clause-follows : goal.returns-in_err-place-clause-follows
returns-in_err-place-clause-follows g c =
    let p = (goal.at.returns-in_err-place-clause-follows g c).After-index_mut-pair in
    let x = c.index_mut-pair.result.now in
    let none = no_grant c.grant_of.result c.in_err-place.field-0.0 (sym c.ok_or.ensures.value ∙ c.in_err-place.was) in
    rw (← c.self.view_is, err_is _ _ c.from_residual.ensures.1, none.1, pair_same c.self.inside.pairs.items c.args.server x (there g p) c.index_mut-pair.ensures.value x refl)
    (response-none g.row.T.Denot (held g p) c.args.server c.args.phase c.args.cost _ (rw (seen g p) (none_any c.args.cost _ (sym c.grant_of.ensures ∙ none.0))))

pub returns-in_err-track_resp-clause-follows : goal.returns-in_err-track_resp-clause-follows
returns-in_err-track_resp-clause-follows g c =
    let p = (goal.at.returns-in_err-track_resp-clause-follows g c).After-index_mut-pair in
    let x = c.index_mut-pair.result.now in
    rw (← c.self.view_is, err_is _ _ c.from_residual-in_err-track_resp.ensures.1, c.in_err-track_resp.ensures.err, pair_same c.self.inside.pairs.items c.args.server x (there g p) c.index_mut-pair.ensures.value x refl)
    (response-refused g.row.T.Denot (held g p) c.args.server c.args.phase c.args.cost _ (rw (seen g p) (removed c.args.cost _ _ (place_is c.args.cost (grants c.args.phase (pair_of c.index_mut-pair.result.now)) c.grant_of.result c.ok_or.result c.in_ok-place.place c.grant_of.ensures c.ok_or.ensures.value c.in_ok-place.was)).1)
    c.in_err-track_resp.field-0.0 c.track_resp.result c.in_err-track_resp.was (there g p) c.track_resp.ensures.no_server c.track_resp.ensures.full_by_list)

pub returns-clause-pairs : goal.returns-clause-pairs
returns-clause-pairs g c = rw (← c.self.view_is) (counted g (goal.at.returns-clause-pairs g c).After-end_grant)

pub returns-clause-rooms : goal.returns-clause-rooms
returns-clause-rooms g c =
    let x = c.index_mut-pair.result.now in
    rw (← c.self.view_is) (rooms_kept c.self.inside.pairs.items c.args.server x c.end_grant.new.self c.index_mut-pair.ensures.value
    (fewer_grants c.args.phase _ (pair_of x) (pair_of c.end_grant.new.self) (room_of x) (room_of c.end_grant.new.self) (ended g (goal.at.returns-clause-rooms g c).After-end_grant)
    (let l = (removed c.args.cost (grants c.args.phase (pair_of x)) c.in_ok-place.place (place_is c.args.cost (grants c.args.phase (pair_of c.index_mut-pair.result.now)) c.grant_of.result c.ok_or.result c.in_ok-place.place c.grant_of.ensures c.ok_or.ensures.value c.in_ok-place.was)).2 in omega arith) c.end_grant.ensures.room))

pub returns-clause-some : goal.returns-clause-some
returns-clause-some g c =
    rw (← c.self.view_is, seen g (goal.at.returns-clause-some g c).After-index_mut-pair) (removed c.args.cost _ _ (place_is c.args.cost (grants c.args.phase (pair_of c.index_mut-pair.result.now)) c.grant_of.result c.ok_or.result c.in_ok-place.place c.grant_of.ensures c.ok_or.ensures.value c.in_ok-place.was)).1

pub returns-clause-follows : goal.returns-clause-follows
returns-clause-follows g c =
    let p = (goal.at.returns-clause-follows g c).After-index_mut-pair in
    rw (← c.self.view_is)
    (response-counted g.row.T.Denot (held g p) c.args.server c.args.phase c.args.cost _
    (rw (seen g p) (removed c.args.cost _ _ (place_is c.args.cost (grants c.args.phase (pair_of c.index_mut-pair.result.now)) c.grant_of.result c.ok_or.result c.in_ok-place.place c.grant_of.ensures c.ok_or.ensures.value c.in_ok-place.was)).1)
    c.track_resp.result c.in_ok-track_resp.was (there g p) c.track_resp.ensures.full_by_list
    c.track_resp.new.self _
    c.in_ok-track_resp.ensures.represents c.track_resp.ensures.kept
    (counted g (goal.at.returns-clause-follows g c).After-end_grant))
