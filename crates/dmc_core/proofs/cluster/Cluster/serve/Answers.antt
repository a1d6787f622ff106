use Rattle.std.proofs.Common.{Some, ap, ◌≡◌, ◌<◌, length, map, set, sym, ◌∙◌, refl, arith}
use Rattle.std.proofs.lemmas.List.{length-map, map-set}
use Rattle.std.proofs.lemmas.Option.{get_or_from_slice_get, slice_get_read}
use Rattle.dmc_core.specs.declared.server.CoreServer.{CoreServer}
use Rattle.dmc_core.specs.internal.Parts.{IsKept}
use Rattle.dmc_core.proofs.Pairs.{seen_map}
use Rattle.dmc_core.proofs.Kept.{server_kept}
use Rattle.dmc_core.proofs.Runs.{server_no_name, server_follows, served_is, served_takes_none}
use Rattle.dmc_core.proofs.cluster.Cluster.serve.Given.{Over}
use Rattle.dmc_core.proofs.cluster.Cluster.serve.Goals.{After-serve}
use Rattle.dmc_core.proofs.cluster.Cluster.serve.Goals as goal
use Rattle.dmc_lemmas.proofs.Options.{err_is}
use Rattle.dmc_tag.specs.Steps.{Steps}
use Rattle.dmc_core.proofs.Rooms.{has_room_state, served_rooms}

pub returns-in_err-index : goal.returns-in_err-index
returns-in_err-index g c event served =
    rw (err_is _ _ c.from_residual.ensures.1, c.in_err-index.ensures.err.0)
    (server_no_name g.T.Tag.ops g.Q.Scheduler.state event c.args.self.now c.args.server c.args.command.now
    (served_is g.T.Tag.ops c.args.server c.args.command.now event served) c.in_err-index.ensures.err.1)

-- after the server's turn all is kept, however that ended
kept : (g : Over) (c : After-serve g)
    → IsKept c.self.inside.ids c.self.inside.clients.items (set c.self.inside.servers.items c.in_ok-index.index c.serve.new.self)
kept g c =
    let servers = c.self.inside.servers.items in
    let x = c.index_mut.result.now in
    let within : c.in_ok-index.index < length servers = simp length-map at (rw (← c.self.view_is) at c.in_ok-index.ensures.ok.1) in
    server_kept c.self.inside.ids c.self.inside.clients.items servers c.self.invariant c.in_ok-index.index x c.serve.new.self
    (slice_get_read servers (length servers) c.in_ok-index.index x refl within c.index_mut.ensures.value) c.serve.ensures.full

pub invariant_of-self : goal.invariant_of-self
invariant_of-self g c = kept g (goal.at.invariant_of-self g c).After-serve

pub invariant_of-self-2 : goal.invariant_of-self-2
invariant_of-self-2 g c = kept g (goal.at.invariant_of-self-2 g c).After-serve

pub returns-in_err-reply : goal.returns-in_err-reply
returns-in_err-reply g c event served =
    absurd (served_takes_none c.args.server c.args.command.now event served (rw c.in_err-reply.was at c.serve.ensures.steps).0)

pub returns : goal.returns
returns g c event served =
    let servers = c.self.inside.servers.items in
    let queue = λ (z : CoreServer g.row.Q.Denot). z.queue in
    let x = c.index_mut.result.now in
    let i = c.in_ok-index.index in
    let place : i ≡ c.args.server.0 = c.in_ok-index.ensures.ok.0 in
    let within : i < length (map queue servers) = rw (← c.self.view_is) at c.in_ok-index.ensures.ok.1 in
    rw (← c.self.view_is, map-set queue servers i c.serve.new.self, place)
    (server_follows g.T.Tag.ops g.Q.Scheduler.state event _ c.args.server c.args.command.now
    (served_is g.T.Tag.ops c.args.server c.args.command.now event served) (rw (← place) within) c.serve.new.self.queue c.in_ok-reply.reply
    (λ q at. let same : x.queue ≡ q = sym (seen_map queue servers i q x (simp length-map at within) c.index_mut.ensures.value) ∙ get_or_from_slice_get (map queue servers) i q q (rw place at) in
    rw (← same) (rw c.in_ok-reply.was at c.serve.ensures.steps))
    (λ q at all.
    let same : x.queue ≡ q = sym (seen_map queue servers i q x (simp length-map at within) c.index_mut.ensures.value) ∙ get_or_from_slice_get (map queue servers) i q q (rw place at) in
    let stepped : Steps g.T.Tag.ops (g.Q.Scheduler.state x.queue) (g.Q.Scheduler.state c.serve.new.self.queue) c.args.command.now (Some c.in_ok-reply.reply) = rw c.in_ok-reply.was at c.serve.ensures.steps in
    rw (ap (λ p. p.0) stepped)
    (has_room_state c.args.server (g.Q.Scheduler.state x.queue) _ (served_rooms g.T.Tag.ops c.args.server c.args.command.now event served (g.Q.Scheduler.state x.queue)) c.self.inside.clients.items
    (rw same all))))

pub index_mut-requires : goal.index_mut-requires
index_mut-requires g c = let within = simp length-map at (rw (← c.self.view_is) at c.in_ok-index.ensures.ok.1) in omega arith
