use Rattle.std.proofs.Common.{◌≡◌, ◌-◌, ◌<◌, length, map, Ok, sym, ap, ◌∙◌, refl, subst, arith}
use Rattle.std.proofs.lemmas.List.{length-map}
use Rattle.std.proofs.Math.Seq.{map-set_same}
use Rattle.std.proofs.lemmas.Option.{get_or_from_slice_get, slice_get_read}
use Rattle.dmc_tag.proofs.Ids.{all_there}
use Rattle.dmc_core.specs.Core.{Held, ClientFollows}
use Rattle.dmc_core.specs.Events.{response}
use Rattle.dmc_core.specs.internal.Parts.{one_if_full, HasFewGrants, KeepsRooms}
use Rattle.dmc_core.specs.Run.{pair_at, grants, max_grants, without_first}
use Rattle.dmc_core.specs.declared.event.CoreEvent.TheVariants as events
use Rattle.dmc_core.specs.declared.server.CoreServer.{CoreServer}
use Rattle.dmc_core.proofs.Kept.{client_kept, known, count_kept, count_changed, full_gone, full_not}
use Rattle.dmc_core.proofs.Lists.{removed_any}
use Rattle.dmc_core.proofs.Counts.{full_counts-part, one_if_full-part}
use Rattle.dmc_core.proofs.Runs.{client_no_names, client_follows, refusal_keeps}
use Rattle.dmc_core.proofs.Pairs.{same_keeps_grants}
use Rattle.dmc_core.proofs.cluster.Cluster.respond.Goals as goal
use Rattle.dmc_core.proofs.cluster.Cluster.respond.Goals.{then-is_full, else-is_full}
use Rattle.dmc_lemmas.proofs.Options.{err_is}

pub returns-in_err-place : goal.returns-in_err-place
returns-in_err-place g c =
    rw (err_is _ _ c.from_residual.ensures.1)
    (client_no_names g.T.Tag.ops g.Q.Scheduler.state (events.Respond c.args.client c.args.server c.args.phase c.args.cost) c.args.self.now c.args.client c.args.server
    (λ counting client. response c.args.server c.args.phase c.args.cost client) (λ run. refl) c.in_err-place.field-0.0 (sym c.place.ensures.value ∙ c.in_err-place.was))

pub returns-in_err-reply : goal.returns-in_err-reply
returns-in_err-reply g c =
    let hs = c.self.inside.clients.items in
    let h = c.index_mut.result.now in
    let placed = rw (← c.self.view_is) at (sym c.place.ensures.value ∙ c.in_ok-place.was) in
    let server = rw (← c.self.view_is) at c.in_ok-place.ensures.server in
    let same_answer : c.respond.result ≡ c.from_residual-in_err-reply.result = c.in_err-reply.was ∙ sym (err_is _ _ c.from_residual-in_err-reply.ensures.1) in
    rw (← c.self.view_is)
    (client_follows g.T.Tag.ops g.Q.Scheduler.state (events.Respond c.args.client c.args.server c.args.phase c.args.cost) _ c.args.client c.args.server
    (λ counting client. response c.args.server c.args.phase c.args.cost client) (λ run. refl) c.in_ok-place.place placed server c.respond.new.self c.from_residual-in_err-reply.result
    (λ x at. subst (λ (y : Held). (c.respond.new.self.id ≡ y.id) × KeepsRooms y c.respond.new.self) (c.index_mut.ensures.value ∙ get_or_from_slice_get hs c.in_ok-place.place x h at) (c.respond.ensures.id, c.respond.ensures.rooms))
    (λ x at. subst (λ (y : Held). ClientFollows (λ counting client. response c.args.server c.args.phase c.args.cost client) y c.respond.new.self c.from_residual-in_err-reply.result)
    (c.index_mut.ensures.value ∙ get_or_from_slice_get hs c.in_ok-place.place x h at) (rw (← same_answer) c.respond.ensures.follows))
    (λ e. absurd (c.respond.ensures.no_growth (same_answer ∙ e))))

pub overflow_sub-index_mut : goal.overflow_sub-index_mut
overflow_sub-index_mut g c =
    let hs = c.self.inside.clients.items in
    let servers = c.self.inside.servers.items in
    let s = c.args.server in
    let x = c.index_mut-then-is_full.result.now in
    let h = c.index.result.now in
    let i = c.in_ok-place.place in
    let within : s.0 < length servers = simp length-map at (rw (← c.self.view_is) at c.in_ok-place.ensures.server) in
    let inside : i < length hs = rw (← c.self.view_is) at c.in_ok-place.ensures.within in
    let knows = known c.self.inside.ids hs servers c.self.invariant s x (slice_get_read servers (length servers) s.0 x refl within c.index_mut-then-is_full.ensures.value) in
    let part = full_counts-part s hs i h (slice_get_read hs (length hs) i h refl inside c.index.ensures) in
    let one = one_if_full-part c.args.phase (pair_at s h.pairs) in
    let full : one_if_full (length (grants c.args.phase (pair_at s h.pairs))) ≡ 1 = ap one_if_full (sym c.grant_count-is_full.ensures ∙ c.if-is_full.true) in
    omega arith

pub invariant_of-self-then-is_full : goal.invariant_of-self-then-is_full
invariant_of-self-then-is_full g c =
    let hs = c.self.inside.clients.items in
    let servers = c.self.inside.servers.items in
    let s = c.args.server in
    let phase = c.args.phase in
    let x = c.index_mut-then-is_full.result.now in
    let h = c.index_mut.result.now in
    let i = c.in_ok-place.place in
    let y : CoreServer g.row.Q.Denot = record x { full = x.full - 1 } in
    let within : s.0 < length servers = simp length-map at (rw (← c.self.view_is) at c.in_ok-place.ensures.server) in
    let inside : i < length hs = rw (← c.self.view_is) at c.in_ok-place.ensures.within in
    let knows = known c.self.inside.ids hs servers c.self.invariant s x (slice_get_read servers (length servers) s.0 x refl within c.index_mut-then-is_full.ensures.value) in
    let same : c.index.result.now ≡ h = c.index.ensures ∙ get_or_from_slice_get hs i h c.index.result.now (slice_get_read hs (length hs) i h refl inside c.index_mut.ensures.value) in
    let count : length (grants phase (pair_at s h.pairs)) ≡ max_grants = ap (λ (z : Held). length (grants phase (pair_at s z.pairs))) (sym same) ∙ sym c.grant_count-is_full.ensures ∙ c.if-is_full.true in
    let full : one_if_full (length (grants phase (pair_at s h.pairs))) ≡ 1 = ap one_if_full count in
    let shorter = removed_any c.args.cost (grants phase (pair_at s h.pairs)) c.in_ok-reply.ensures.some in
    let less = full_gone (length (grants phase (pair_at s h.pairs))) (length (without_first c.args.cost (grants phase (pair_at s h.pairs)))) shorter (omega arith) in
    let at = slice_get_read hs (length hs) i h refl inside c.index_mut.ensures.value in
    let part = full_counts-part s hs i h at in
    let one = one_if_full-part phase (pair_at s h.pairs) in
    count_changed c.self.inside.ids hs servers c.self.invariant i h c.respond.new.self at c.respond.ensures.id s phase (without_first c.args.cost (grants phase (pair_at s h.pairs)))
    c.in_ok-reply.ensures.pairs within (omega (arith, shorter)) y (omega arith)

pub invariant_of-self-else-is_full : goal.invariant_of-self-else-is_full
invariant_of-self-else-is_full g c =
    let hs = c.self.inside.clients.items in
    let servers = c.self.inside.servers.items in
    let s = c.args.server in
    let phase = c.args.phase in
    let h = c.index_mut.result.now in
    let i = c.in_ok-place.place in
    let within : s.0 < length servers = simp length-map at (rw (← c.self.view_is) at c.in_ok-place.ensures.server) in
    let inside : i < length hs = rw (← c.self.view_is) at c.in_ok-place.ensures.within in
    let same : c.index.result.now ≡ h = c.index.ensures ∙ get_or_from_slice_get hs i h c.index.result.now (slice_get_read hs (length hs) i h refl inside c.index_mut.ensures.value) in
    let count : c.grant_count-is_full.result ≡ length (grants phase (pair_at s h.pairs)) = c.grant_count-is_full.ensures ∙ ap (λ (z : Held). length (grants phase (pair_at s z.pairs))) same in
    let not_full = full_not (length (grants phase (pair_at s h.pairs))) (λ e. c.if-is_full.false (count ∙ e)) in
    let few = all_there HasFewGrants hs i h c.self.invariant.few (slice_get_read hs (length hs) i h refl inside c.index_mut.ensures.value) in
    let shorter = removed_any c.args.cost (grants phase (pair_at s h.pairs)) c.in_ok-reply.ensures.some in
    let less = full_gone (length (grants phase (pair_at s h.pairs))) (length (without_first c.args.cost (grants phase (pair_at s h.pairs)))) shorter (few s phase) in
    count_kept c.self.inside.ids hs servers c.self.invariant i h c.respond.new.self (slice_get_read hs (length hs) i h refl inside c.index_mut.ensures.value) c.respond.ensures.id s phase (without_first c.args.cost (grants phase (pair_at s h.pairs)))
    c.in_ok-reply.ensures.pairs within (omega (arith, shorter, few s phase)) (not_full ∙ sym less)

pub returns : goal.returns
returns g c =
    let hs = c.self.inside.clients.items in
    let servers = c.self.inside.servers.items in
    let queue = λ (z : CoreServer g.row.Q.Denot). z.queue in
    let h = c.index_mut.result.now in
    let placed = rw (← c.self.view_is) at (sym c.place.ensures.value ∙ c.in_ok-place.was) in
    let server = rw (← c.self.view_is) at c.in_ok-place.ensures.server in
    let follows : ClientFollows (λ counting client. response c.args.server c.args.phase c.args.cost client) h c.respond.new.self (Ok c.in_ok-reply.reply) = rw c.in_ok-reply.was at c.respond.ensures.follows in
    let done = client_follows g.T.Tag.ops g.Q.Scheduler.state (events.Respond c.args.client c.args.server c.args.phase c.args.cost) (record { servers = map queue servers; clients = hs }) c.args.client c.args.server
    (λ counting client. response c.args.server c.args.phase c.args.cost client) (λ run. refl) c.in_ok-place.place placed server c.respond.new.self (Ok c.in_ok-reply.reply)
    (λ x at. subst (λ (y : Held). (c.respond.new.self.id ≡ y.id) × KeepsRooms y c.respond.new.self) (c.index_mut.ensures.value ∙ get_or_from_slice_get hs c.in_ok-place.place x h at) (c.respond.ensures.id, c.respond.ensures.rooms))
    (λ x at. subst (λ (y : Held). ClientFollows (λ counting client. response c.args.server c.args.phase c.args.cost client) y c.respond.new.self (Ok c.in_ok-reply.reply))
    (c.index_mut.ensures.value ∙ get_or_from_slice_get hs c.in_ok-place.place x h at) follows)
    (λ e. cc) in
    elim c.if-is_full.branch [
      | then-is_full w ↦
          let y : CoreServer g.row.Q.Denot = record (w.index_mut-then-is_full.result.now) { full = w.index_mut-then-is_full.result.now.full - 1 } in
          rw (w.self-is, ← c.self.view_is, map-set_same queue servers c.args.server.0 y w.index_mut-then-is_full.result.now (ap queue w.index_mut-then-is_full.ensures.value)) done
      | else-is_full w ↦ rw (w.self-is, ← c.self.view_is) done
    ]

pub index-requires : goal.index-requires
index-requires g c = let within = rw (← c.self.view_is) at c.in_ok-place.ensures.within in omega arith

pub index_mut-requires : goal.index_mut-requires
index_mut-requires g c = let within = rw (← c.self.view_is) at c.in_ok-place.ensures.within in omega arith

pub index_mut-requires-then-is_full : goal.index_mut-requires-then-is_full
index_mut-requires-then-is_full g c = let within = simp length-map at (rw (← c.self.view_is) at c.in_ok-place.ensures.server) in omega arith

pub grant_count-is_full-requires : goal.grant_count-is_full-requires
grant_count-is_full-requires g c =
    let clients = c.self.inside.clients.items in
    let within : c.in_ok-place.place < length clients = rw (← c.self.view_is) at c.in_ok-place.ensures.within in
    (rw (← c.self.view_is) at c.in_ok-place.ensures.paired) c.index.result.now (slice_get_read clients (length clients) c.in_ok-place.place c.index.result.now refl within c.index.ensures)

pub respond-requires : goal.respond-requires
respond-requires g c =
    let clients = c.self.inside.clients.items in
    let within : c.in_ok-place.place < length clients = rw (← c.self.view_is) at c.in_ok-place.ensures.within in
    (rw (← c.self.view_is) at c.in_ok-place.ensures.paired) c.index_mut.result.now (slice_get_read clients (length clients) c.in_ok-place.place c.index_mut.result.now refl within c.index_mut.ensures.value)

pub invariant_of-self : goal.invariant_of-self
invariant_of-self g c =
    let hs = c.self.inside.clients.items in
    let h = c.index_mut.result.now in
    let i = c.in_ok-place.place in
    let inside : i < length hs = rw (← c.self.view_is) at c.in_ok-place.ensures.within in
    let same = refusal_keeps (λ counting client. response c.args.server c.args.phase c.args.cost client) h c.respond.new.self c.respond.result c.in_err-reply.field-0.0 c.in_err-reply.was c.respond.ensures.follows in
    client_kept c.self.inside.ids hs c.self.inside.servers.items c.self.invariant i h c.respond.new.self (slice_get_read hs (length hs) i h refl inside c.index_mut.ensures.value)
    c.respond.ensures.id (same_keeps_grants h.pairs c.respond.new.self.pairs (ap (λ (y : Held). y.pairs) same))
