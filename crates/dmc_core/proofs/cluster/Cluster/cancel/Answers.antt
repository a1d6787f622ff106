use Rattle.std.proofs.Common.{◌≡◌, ◌<◌, length, map, set, slice_get, Some, sym, ap, ◌∙◌, refl, arith}
use Rattle.std.proofs.lemmas.List.{length-map, map-set}
use Rattle.std.proofs.lemmas.Option.{get_or_from_slice_get, slice_get_read}
use Rattle.dmc_types.specs.declared.config.Counting.{Counting}
use Rattle.dmc_types.specs.declared.command.Command.TheVariants as commands
use Rattle.dmc_tag.specs.Steps.{Steps}
use Rattle.dmc_core.specs.Core.{Held, CoreValue}
use Rattle.dmc_core.specs.declared.event.CoreEvent.TheVariants as events
use Rattle.dmc_core.specs.declared.server.CoreServer.{CoreServer}
use Rattle.dmc_core.proofs.Pairs.{seen_map, same_keeps_grants}
use Rattle.dmc_core.proofs.Kept.{client_kept, server_kept}
use Rattle.dmc_core.proofs.Removals.{cancel_is, cancel_no_names, cancel_takes_out, forgotten, taken_out_alone, taken_out_of}
use Rattle.dmc_core.proofs.Runs.{found_place}
use Rattle.dmc_core.proofs.cluster.Cluster.cancel.Goals as goal
use Rattle.dmc_core.proofs.cluster.Cluster.cancel.Goals.{in-Removed, in_default}
use Rattle.dmc_lemmas.proofs.Options.{err_is}

pub returns-in_err-place : goal.returns-in_err-place
returns-in_err-place g c =
    rw (err_is _ _ c.from_residual.ensures.1)
    (cancel_no_names g.T.Tag.ops g.Q.Scheduler.state c.args.self.now c.args.client c.args.server c.args.token c.in_err-place.field-0.0 (sym c.place.ensures.value ∙ c.in_err-place.was))

pub invariant_of-self-in-Removed : goal.invariant_of-self-in-Removed
invariant_of-self-in-Removed g c =
    let hs = c.self.inside.clients.items in
    let servers = c.self.inside.servers.items in
    let x = c.index_mut.result.now in
    let h = c.index_mut-in-Removed.result.now in
    let within : c.args.server.0 < length servers = simp length-map at (rw (← c.self.view_is) at c.in_ok-place.ensures.server) in
    let inside : c.in_ok-place.place < length hs = rw (← c.self.view_is) at c.in_ok-place.ensures.within in
    let kept = server_kept c.self.inside.ids hs servers c.self.invariant c.args.server.0 x c.serve.new.self
    (slice_get_read servers (length servers) c.args.server.0 x refl within c.index_mut.ensures.value) c.serve.ensures.full in
    client_kept c.self.inside.ids hs _ kept c.in_ok-place.place h c.forget.new.self
    (slice_get_read hs (length hs) c.in_ok-place.place h refl inside c.index_mut-in-Removed.ensures.value)
    (ap (λ (y : Held). y.id) c.forget.ensures) (same_keeps_grants h.pairs c.forget.new.self.pairs (ap (λ (y : Held). y.pairs) c.forget.ensures))

pub invariant_of-self-in_default : goal.invariant_of-self-in_default
invariant_of-self-in_default g c =
    let servers = c.self.inside.servers.items in
    let x = c.index_mut.result.now in
    let within : c.args.server.0 < length servers = simp length-map at (rw (← c.self.view_is) at c.in_ok-place.ensures.server) in
    server_kept c.self.inside.ids c.self.inside.clients.items servers c.self.invariant c.args.server.0 x c.serve.new.self
    (slice_get_read servers (length servers) c.args.server.0 x refl within c.index_mut.ensures.value) c.serve.ensures.full

pub returns : goal.returns
returns g c =
    let ops = g.T.Tag.ops in
    let state = g.Q.Scheduler.state in
    let hs = c.self.inside.clients.items in
    let servers = c.self.inside.servers.items in
    let queue = λ (z : CoreServer g.row.Q.Denot). z.queue in
    let s = c.args.server in
    let id = c.args.client in
    let i = c.in_ok-place.place in
    let counting : Counting = c.counting.result in
    let event = events.Cancel s id c.args.token in
    let command = commands.Cancel id c.args.token counting in
    let x = c.index_mut.result.now in
    let core : CoreValue g.row.Q.Denot = record { servers = map queue servers; clients = hs } in
    let placed = rw (← c.self.view_is) at (sym c.place.ensures.value ∙ c.in_ok-place.was) in
    let within : s.0 < length (map queue servers) = rw (← c.self.view_is) at c.in_ok-place.ensures.server in
    let form : (y : Held) → slice_get hs i ≡ Some y → counting ≡ y.tracker.counting = λ y at.
    c.counting.ensures ∙ ap (λ (z : Held). z.tracker.counting) (c.index.ensures ∙ get_or_from_slice_get hs i y c.index.result.now at) in
    let steps : (q : g.row.Q.Denot) → slice_get (map queue servers) s.0 ≡ Some q → Steps ops (state q) (state c.serve.new.self.queue) command (Some c.in_ok-reply.reply) = λ q at.
    let same : x.queue ≡ q = sym (seen_map queue servers s.0 q x (simp length-map at within) c.index_mut.ensures.value) ∙ get_or_from_slice_get (map queue servers) s.0 q q at in
    rw (← same) c.in_ok-reply.ensures.steps in
    let event_is = cancel_is ops state core id s c.args.token i placed counting form in
    elim c.match-reply.branch [
      | in-Removed w ↦ rw (w.self-is, w.reply-is, ← w.in-Removed.is, ← c.self.view_is, map-set queue servers s.0 c.serve.new.self)
          (taken_out_of ops state core event id s command event_is (cancel_takes_out ops id c.args.token counting) within c.serve.new.self.queue c.in_ok-reply.reply steps
          w.in-Removed.count w.in-Removed.is i (found_place id s core i placed) (set hs i w.forget.new.self)
          (λ y at. let same : w.index_mut-in-Removed.result.now ≡ y = w.index_mut-in-Removed.ensures.value ∙ get_or_from_slice_get hs i y w.index_mut-in-Removed.result.now at in
          ap (λ (z : Held). set hs i z) (w.forget.ensures ∙ ap (λ (z : Held). forgotten s w.in-Removed.count z) same)))
      | in_default w ↦ rw (w.self-is, w.reply-is, ← c.self.view_is, map-set queue servers s.0 c.serve.new.self)
          (taken_out_alone ops state core event id s command event_is (cancel_takes_out ops id c.args.token counting) within c.serve.new.self.queue c.in_ok-reply.reply steps)
    ]

pub index-requires : goal.index-requires
index-requires g c = let within = rw (← c.self.view_is) at c.in_ok-place.ensures.within in omega arith

pub index_mut-requires-in-Removed : goal.index_mut-requires-in-Removed
index_mut-requires-in-Removed g c = let within = rw (← c.self.view_is) at c.in_ok-place.ensures.within in omega arith

pub index_mut-requires : goal.index_mut-requires
index_mut-requires g c = let within = simp length-map at (rw (← c.self.view_is) at c.in_ok-place.ensures.server) in omega arith

pub forget-requires : goal.forget-requires
forget-requires g c =
    let clients = c.self.inside.clients.items in
    let within : c.in_ok-place.place < length clients = rw (← c.self.view_is) at c.in_ok-place.ensures.within in
    record {
      within = (rw (← c.self.view_is) at c.in_ok-place.ensures.paired) c.index_mut-in-Removed.result.now
          (slice_get_read clients (length clients) c.in_ok-place.place c.index_mut-in-Removed.result.now refl within c.index_mut-in-Removed.ensures.value);
    }
