use Rattle.std.proofs.Common.{◌≡◌, ◌<◌, length, map, set, slice_get, drop, Some, None, sym, ap, ◌∙◌, refl, subst, arith}
use Rattle.std.proofs.lemmas.List.{length-map, map-set}
use Rattle.std.proofs.lemmas.Option.{get_or_from_slice_get, slice_get_read}
use Rattle.dmc_types.specs.declared.command.Command.TheVariants as commands
use Rattle.dmc_tag.specs.Steps.{Steps}
use Rattle.dmc_core.specs.Core.{Held, CoreValue}
use Rattle.dmc_core.specs.Run.{pair_at, with_pair, with_flight}
use Rattle.dmc_core.specs.declared.server.CoreServer.{CoreServer}
use Rattle.dmc_core.proofs.Pairs.{seen_map, flight_keeps_grants}
use Rattle.dmc_core.proofs.Kept.{client_kept, server_kept, others_apart}
use Rattle.dmc_core.proofs.Arrivals.{arrival_no_names, arrival_no_flight, arrival_memory, arrival_tagged, arrival_refused}
use Rattle.dmc_core.proofs.Runs.{found_place}
use Rattle.dmc_core.proofs.cluster.Cluster.arrive.Goals as goal
use Rattle.dmc_core.proofs.cluster.Cluster.arrive.Goals.{in-Tagged, in_default-reply}
use Rattle.dmc_lemmas.proofs.Options.{err_is}

pub returns-in_err-place : goal.returns-in_err-place
returns-in_err-place g c =
    rw (err_is _ _ c.from_residual.ensures.1)
    (arrival_no_names g.T.Tag.ops g.Q.Scheduler.state c.args.self.now c.args.client c.args.server c.args.at c.in_err-place.field-0.0 (sym c.place.ensures.value ∙ c.in_err-place.was))

pub returns-in_default : goal.returns-in_default
returns-in_default g c =
    let hs = c.self.inside.clients.items in
    let h = c.index.result.now in
    let placed = rw (← c.self.view_is) at (sym c.place.ensures.value ∙ c.in_ok-place.was) in
    let server = rw (← c.self.view_is) at c.in_ok-place.ensures.server in
    rw (← c.self.view_is)
    (arrival_no_flight g.T.Tag.ops g.Q.Scheduler.state _ c.args.client c.args.server c.args.at c.in_ok-place.place placed server
    (λ x at. subst (λ (y : Held). slice_get (pair_at c.args.server y.pairs).flight 0 ≡ None)
    (c.index.ensures ∙ get_or_from_slice_get hs c.in_ok-place.place x h at) (sym c.oldest.ensures ∙ c.in_default.is)))

pub invariant_of-self : goal.invariant_of-self
invariant_of-self g c =
    let servers = c.self.inside.servers.items in
    let x = c.index_mut.result.now in
    let within : c.args.server.0 < length servers = simp length-map at (rw (← c.self.view_is) at c.in_ok-place.ensures.server) in
    server_kept c.self.inside.ids c.self.inside.clients.items servers c.self.invariant c.args.server.0 x c.add.new.self
    (slice_get_read servers (length servers) c.args.server.0 x refl within c.index_mut.ensures.value) c.add.ensures.full

pub returns-in_err-reply : goal.returns-in_err-reply
returns-in_err-reply g c =
    let hs = c.self.inside.clients.items in
    let servers = c.self.inside.servers.items in
    let queue = λ (z : CoreServer g.row.Q.Denot). z.queue in
    let s = c.args.server in
    let x = c.index_mut.result.now in
    let h = c.index.result.now in
    let placed = rw (← c.self.view_is) at (sym c.place.ensures.value ∙ c.in_ok-place.was) in
    let within : s.0 < length (map queue servers) = rw (← c.self.view_is) at c.in_ok-place.ensures.server in
    rw (← c.self.view_is, err_is _ _ c.from_residual-in_err-reply.ensures.1, map-set queue servers s.0 c.add.new.self)
    (arrival_memory g.T.Tag.ops g.Q.Scheduler.state _ c.args.client s c.args.at c.in_ok-place.place placed within c.in-Some.message
    (λ y at. subst (λ (z : Held). slice_get (pair_at s z.pairs).flight 0 ≡ Some c.in-Some.message)
    (c.index.ensures ∙ get_or_from_slice_get hs c.in_ok-place.place y h at) (sym c.oldest.ensures ∙ c.in-Some.is))
    c.add.new.self.queue
    (λ q at. let same : x.queue ≡ q = sym (seen_map queue servers s.0 q x (simp length-map at within) c.index_mut.ensures.value) ∙ get_or_from_slice_get (map queue servers) s.0 q q at in
    rw (← same) c.in_err-reply.ensures.steps))

pub invariant_of-self-in-Tagged : goal.invariant_of-self-in-Tagged
invariant_of-self-in-Tagged g c =
    let hs = c.self.inside.clients.items in
    let servers = c.self.inside.servers.items in
    let x = c.index_mut.result.now in
    let h = c.index_mut-in-Tagged.result.now in
    let within : c.args.server.0 < length servers = simp length-map at (rw (← c.self.view_is) at c.in_ok-place.ensures.server) in
    let inside : c.in_ok-place.place < length hs = rw (← c.self.view_is) at c.in_ok-place.ensures.within in
    let kept = server_kept c.self.inside.ids hs servers c.self.invariant c.args.server.0 x c.add.new.self
    (slice_get_read servers (length servers) c.args.server.0 x refl within c.index_mut.ensures.value) c.add.ensures.full in
    client_kept c.self.inside.ids hs _ kept c.in_ok-place.place h c.take_oldest.new.self
    (slice_get_read hs (length hs) c.in_ok-place.place h refl inside c.index_mut-in-Tagged.ensures.value)
    (ap (λ (y : Held). y.id) c.take_oldest.ensures) (rw c.take_oldest.ensures (flight_keeps_grants h.pairs c.args.server _))

pub invariant_of-self-in_default-reply : goal.invariant_of-self-in_default-reply
invariant_of-self-in_default-reply g c =
    let servers = c.self.inside.servers.items in
    let x = c.index_mut.result.now in
    let within : c.args.server.0 < length servers = simp length-map at (rw (← c.self.view_is) at c.in_ok-place.ensures.server) in
    server_kept c.self.inside.ids c.self.inside.clients.items servers c.self.invariant c.args.server.0 x c.add.new.self
    (slice_get_read servers (length servers) c.args.server.0 x refl within c.index_mut.ensures.value) c.add.ensures.full

pub returns : goal.returns
returns g c =
    let hs = c.self.inside.clients.items in
    let servers = c.self.inside.servers.items in
    let queue = λ (z : CoreServer g.row.Q.Denot). z.queue in
    let s = c.args.server in
    let i = c.in_ok-place.place in
    let x = c.index_mut.result.now in
    let h = c.index.result.now in
    let core : CoreValue g.row.Q.Denot = record { servers = map queue servers; clients = hs } in
    let placed = rw (← c.self.view_is) at (sym c.place.ensures.value ∙ c.in_ok-place.was) in
    let within : s.0 < length (map queue servers) = rw (← c.self.view_is) at c.in_ok-place.ensures.server in
    let oldest : (y : Held) → slice_get hs i ≡ Some y → slice_get (pair_at s y.pairs).flight 0 ≡ Some c.in-Some.message = λ y at.
    subst (λ (z : Held). slice_get (pair_at s z.pairs).flight 0 ≡ Some c.in-Some.message) (c.index.ensures ∙ get_or_from_slice_get hs i y h at) (sym c.oldest.ensures ∙ c.in-Some.is) in
    let steps : (q : g.row.Q.Denot) → slice_get (map queue servers) s.0 ≡ Some q → Steps g.T.Tag.ops (g.Q.Scheduler.state q) (g.Q.Scheduler.state c.add.new.self.queue) (commands.Add c.args.client c.in-Some.message.token c.in-Some.message.params c.args.at) (Some c.in_ok-reply.reply) = λ q at.
    let same : x.queue ≡ q = sym (seen_map queue servers s.0 q x (simp length-map at within) c.index_mut.ensures.value) ∙ get_or_from_slice_get (map queue servers) s.0 q q at in
    rw (← same) c.in_ok-reply.ensures.steps in
    let position_is = found_place c.args.client s core i placed in
    let apart = others_apart c.self.inside.ids hs servers c.self.invariant c.args.client i position_is in
    let paired : (y : Held) → slice_get hs i ≡ Some y → s.0 < length y.pairs = rw (← c.self.view_is) at c.in_ok-place.ensures.paired in
    elim c.match-reply.branch [
      | in-Tagged w ↦ rw (w.self-is, ← c.self.view_is, map-set queue servers s.0 c.add.new.self)
          (arrival_tagged g.T.Tag.ops g.Q.Scheduler.state core c.args.client s c.args.at i placed within c.in-Some.message oldest c.add.new.self.queue c.in_ok-reply.reply steps
          w.in-Tagged.field-0 w.in-Tagged.is paired apart (set hs i w.take_oldest.new.self)
          (λ y at. let same : w.index_mut-in-Tagged.result.now ≡ y = w.index_mut-in-Tagged.ensures.value ∙ get_or_from_slice_get hs i y w.index_mut-in-Tagged.result.now at in
          ap (λ (z : Held). set hs i z) (w.take_oldest.ensures ∙ ap (λ (z : Held). record z { pairs = with_pair s (with_flight (drop 1 (pair_at s z.pairs).flight) (pair_at s z.pairs)) z.pairs }) same)))
      | in_default-reply w ↦ rw (w.self-is, ← c.self.view_is, map-set queue servers s.0 c.add.new.self)
          (arrival_refused g.T.Tag.ops g.Q.Scheduler.state core c.args.client s c.args.at i placed within c.in-Some.message oldest c.add.new.self.queue c.in_ok-reply.reply steps
          w.in_default-reply.not-Tagged)
    ]

pub index-requires : goal.index-requires
index-requires g c = let within = rw (← c.self.view_is) at c.in_ok-place.ensures.within in omega arith

pub index_mut-requires-in-Tagged : goal.index_mut-requires-in-Tagged
index_mut-requires-in-Tagged g c = let within = rw (← c.self.view_is) at c.in_ok-place.ensures.within in omega arith

pub index_mut-requires : goal.index_mut-requires
index_mut-requires g c = let within = simp length-map at (rw (← c.self.view_is) at c.in_ok-place.ensures.server) in omega arith

pub oldest-requires : goal.oldest-requires
oldest-requires g c =
    let clients = c.self.inside.clients.items in
    let within : c.in_ok-place.place < length clients = rw (← c.self.view_is) at c.in_ok-place.ensures.within in
    (rw (← c.self.view_is) at c.in_ok-place.ensures.paired) c.index.result.now (slice_get_read clients (length clients) c.in_ok-place.place c.index.result.now refl within c.index.ensures)

pub take_oldest-requires : goal.take_oldest-requires
take_oldest-requires g c =
    let clients = c.self.inside.clients.items in
    let within : c.in_ok-place.place < length clients = rw (← c.self.view_is) at c.in_ok-place.ensures.within in
    (rw (← c.self.view_is) at c.in_ok-place.ensures.paired) c.index_mut-in-Tagged.result.now (slice_get_read clients (length clients) c.in_ok-place.place c.index_mut-in-Tagged.result.now refl within c.index_mut-in-Tagged.ensures.value)
