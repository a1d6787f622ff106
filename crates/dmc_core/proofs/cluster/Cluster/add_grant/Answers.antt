use Rattle.std.proofs.Common.{◌≡◌, ℕ, ◌+◌, ◌<◌, length, set, Some, sym, ap, ◌∙◌, refl, arith}
use Rattle.std.specs.Prelude.{slice_get, position}
use Rattle.std.proofs.Math.Seq.{map-set_same}
use Rattle.std.proofs.lemmas.List.{length-map, get_or-set_same}
use Rattle.std.proofs.lemmas.Option.{same_Some, slice_get_read}
use Rattle.dmc_tag.specs.State.{is_client}
use Rattle.dmc_core.specs.Core.{Held, room_at, room_for}
use Rattle.dmc_core.specs.internal.Parts.{IsGranted, one_if_full, full_counts}
use Rattle.dmc_core.specs.Run.{pair_at, grants}
use Rattle.dmc_core.specs.declared.server.CoreServer.{CoreServer}
use Rattle.dmc_core.proofs.Counts.{full_counts-part, one_if_full-part}
use Rattle.dmc_core.proofs.Kept.{known, grant_kept, grant_fills}
use Rattle.dmc_core.proofs.Runs.{found_place}
use Rattle.dmc_core.proofs.cluster.Cluster.add_grant.Given.{Over}
use Rattle.dmc_core.proofs.cluster.Cluster.add_grant.Goals as goal
use Rattle.dmc_core.proofs.cluster.Cluster.add_grant.Goals.{After-index_mut, After-add_grant, After-index_mut-then-grant_count-eq-MAX_GRANTS}

-- ---- what the goals share

within : (g : Over) (c : After-index_mut g) → c.args.server.0 < length c.self.inside.servers.items
within g c = simp length-map at (rw (← c.self.view_is) at c.requires.within)

inside : (g : Over) (c : After-index_mut g) → c.in-Ok.place < length c.self.inside.clients.items
inside g c = rw (← c.self.view_is) at c.in-Ok.ensures.within

there : (g : Over) (c : After-index_mut g) → slice_get c.self.inside.clients.items c.in-Ok.place ≡ Some c.index_mut.result.now
there g c =
    let hs = c.self.inside.clients.items in
    slice_get_read hs (length hs) c.in-Ok.place c.index_mut.result.now refl (inside g c) c.index_mut.ensures.value

none_full : (g : Over) (c : After-index_mut g) → full_counts c.args.server c.self.inside.clients.items ≡ 0
none_full g c = rw (← c.self.view_is) at c.requires.room

-- the list that grows is not full
not_full : (g : Over) (c : After-index_mut g) → one_if_full (length (grants c.args.phase (pair_at c.args.server c.index_mut.result.now.pairs))) ≡ 0
not_full g c =
    let h = c.index_mut.result.now in
    omega (arith, none_full g c, full_counts-part c.args.server c.self.inside.clients.items c.in-Ok.place h (there g c), one_if_full-part c.args.phase (pair_at c.args.server h.pairs))

server_not_full : (g : Over) (c : After-index_mut-then-grant_count-eq-MAX_GRANTS g) → c.index_mut-then-grant_count-eq-MAX_GRANTS.result.now.full ≡ 0
server_not_full g c =
    let p = (goal.at.overflow_add-index_mut g c).After-index_mut in
    let servers = c.self.inside.servers.items in
    let x = c.index_mut-then-grant_count-eq-MAX_GRANTS.result.now in
    known c.self.inside.ids c.self.inside.clients.items servers c.self.invariant c.args.server x
    (slice_get_read servers (length servers) c.args.server.0 x refl (within g p) c.index_mut-then-grant_count-eq-MAX_GRANTS.ensures.value)
    ∙ none_full g p

-- the one that is granted a request is the first with this id
granted : (g : Over) (c : After-add_grant g) (place : ℕ) (h : Held) → position (λ x. is_client c.args.client x.id) c.self.inside.clients.items ≡ Some place → slice_get c.self.inside.clients.items place ≡ Some h
    → length (grants c.args.phase (pair_at c.args.server h.pairs)) < room_for c.args.phase (room_at c.args.server h.rooms)
    → IsGranted c.args.server c.args.phase c.args.cost place h c.self.inside.clients.items (set c.self.inside.clients.items c.in-Ok.place c.add_grant.new.self)
granted g c place h first at low =
    let hs = c.self.inside.clients.items in
    let i = c.in-Ok.place in
    let x = c.index_mut.result.now in
    let inside : i < length hs = rw (← c.self.view_is) at c.in-Ok.ensures.within in
    let placed : position (λ x. is_client c.args.client x.id) hs ≡ Some i = rw (← c.self.view_is) at (found_place c.args.client c.args.server c.args.self.now i (sym c.place.ensures.value ∙ c.in-Ok.is)) in
    let place_is : i ≡ place = same_Some i place (sym placed ∙ first) in
    let x_at : slice_get hs i ≡ Some x = slice_get_read hs (length hs) i x refl inside c.index_mut.ensures.value in
    let x_is : x ≡ h = same_Some x h (sym x_at ∙ ap (slice_get hs) place_is ∙ at) in
    let given = c.add_grant.ensures.granted (rw x_is low) in
    rw (← place_is, ← x_is) (record {
      granted = c.add_grant.new.self;
      clients = refl;
      id = c.add_grant.ensures.id;
      tracker = c.add_grant.ensures.tracker;
      paired = (rw (← c.self.view_is) at c.in-Ok.ensures.paired) x x_at;
      pairs = given.0;
      waiting = given.1;
      as_much = c.add_grant.ensures.as_much;
      elsewhere = c.add_grant.ensures.elsewhere;
    })

pub invariant_of-self : goal.invariant_of-self
invariant_of-self g c =
    let p = (goal.at.invariant_of-self g c).After-index_mut in
    let hs = c.self.inside.clients.items in
    let x = c.index_mut-then-grant_count-eq-MAX_GRANTS.result.now in
    let server = server_not_full g (goal.at.invariant_of-self g c).After-index_mut-then-grant_count-eq-MAX_GRANTS in
    let same : c.index.result.now ≡ c.add_grant.new.self = c.index.ensures ∙ get_or-set_same hs c.in-Ok.place c.add_grant.new.self c.index.result.now (inside g p) in
    let most = ap (λ (z : Held). length (grants c.args.phase (pair_at c.args.server z.pairs))) (sym same) ∙ sym c.grant_count.ensures ∙ c.if-grant_count-eq-MAX_GRANTS.true in
    grant_fills c.self.inside.ids hs c.self.inside.servers.items c.self.invariant c.in-Ok.place c.index_mut.result.now c.add_grant.new.self (there g p) c.add_grant.ensures.id c.args.server c.args.phase c.args.cost
    (within g p) (not_full g p) c.add_grant.ensures.either most (record x { full = x.full + 1 }) (omega (arith, none_full g p, server))

pub invariant_of-self-else-grant_count-eq-MAX_GRANTS : goal.invariant_of-self-else-grant_count-eq-MAX_GRANTS
invariant_of-self-else-grant_count-eq-MAX_GRANTS g c =
    let p = (goal.at.invariant_of-self-else-grant_count-eq-MAX_GRANTS g c).After-index_mut in
    let hs = c.self.inside.clients.items in
    let same : c.index.result.now ≡ c.add_grant.new.self = c.index.ensures ∙ get_or-set_same hs c.in-Ok.place c.add_grant.new.self c.index.result.now (inside g p) in
    let count : c.grant_count.result ≡ length (grants c.args.phase (pair_at c.args.server c.add_grant.new.self.pairs)) = c.grant_count.ensures ∙ ap (λ (z : Held). length (grants c.args.phase (pair_at c.args.server z.pairs))) same in
    grant_kept c.self.inside.ids hs c.self.inside.servers.items c.self.invariant c.in-Ok.place c.index_mut.result.now c.add_grant.new.self (there g p) c.add_grant.ensures.id c.args.server c.args.phase c.args.cost
    (within g p) (not_full g p) c.add_grant.ensures.either (λ e. c.if-grant_count-eq-MAX_GRANTS.false (count ∙ e))

pub returns-then-grant_count-eq-MAX_GRANTS-clause-servers : goal.returns-then-grant_count-eq-MAX_GRANTS-clause-servers
returns-then-grant_count-eq-MAX_GRANTS-clause-servers g c =
    let servers = c.self.inside.servers.items in
    let queue = λ (z : CoreServer g.row.Q.Denot). z.queue in
    let x = c.index_mut-then-grant_count-eq-MAX_GRANTS.result.now in
    let y : CoreServer g.row.Q.Denot = record x { full = x.full + 1 } in
    rw (← c.self.view_is) (map-set_same queue servers c.args.server.0 y x (ap queue c.index_mut-then-grant_count-eq-MAX_GRANTS.ensures.value))

pub returns-then-grant_count-eq-MAX_GRANTS-clause-granted : goal.returns-then-grant_count-eq-MAX_GRANTS-clause-granted
returns-then-grant_count-eq-MAX_GRANTS-clause-granted g c = rw (← c.self.view_is) (granted g (goal.at.returns-then-grant_count-eq-MAX_GRANTS-clause-granted g c).After-add_grant)

pub returns-else-grant_count-eq-MAX_GRANTS-clause-granted : goal.returns-else-grant_count-eq-MAX_GRANTS-clause-granted
returns-else-grant_count-eq-MAX_GRANTS-clause-granted g c = rw (← c.self.view_is) (granted g (goal.at.returns-else-grant_count-eq-MAX_GRANTS-clause-granted g c).After-add_grant)

pub overflow_add-index_mut : goal.overflow_add-index_mut
overflow_add-index_mut g c = omega (arith, server_not_full g c)
