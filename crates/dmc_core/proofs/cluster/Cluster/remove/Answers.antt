use Rattle.std.proofs.Common.{◌≡◌, ◌<◌, length, map, set, slice_get, List, Some, sym, ap, ◌∙◌, refl}
use Rattle.std.proofs.lemmas.List.{length-map, map-set}
use Rattle.std.proofs.lemmas.Option.{get_or_from_slice_get, slice_get_read}
use Rattle.dmc_core.specs.Core.{CoreValue}
use Rattle.dmc_core.specs.declared.server.CoreServer.{CoreServer}
use Rattle.dmc_core.specs.declared.event.CoreEvent.TheVariants as events
use Rattle.dmc_types.specs.declared.command.Command.TheVariants as commands
use Rattle.dmc_core.proofs.Pairs.{seen_map}
use Rattle.dmc_core.proofs.Kept.{server_kept}
use Rattle.dmc_core.proofs.Runs.{server_no_name}
use Rattle.dmc_core.proofs.Removals.{remove_takes_out, taken_out, taken_out_alone}
use Rattle.dmc_core.proofs.cluster.Cluster.remove.Goals as goal
use Rattle.dmc_core.proofs.cluster.Cluster.remove.Goals.{in-Removed, in_default}
use Rattle.dmc_lemmas.proofs.Options.{err_is}

pub returns-in_err-index : goal.returns-in_err-index
returns-in_err-index g c =
    rw (err_is _ _ c.from_residual.ensures.1, c.in_err-index.ensures.err.0)
    (server_no_name g.T.Tag.ops g.Q.Scheduler.state (events.Remove c.args.server c.args.client) c.args.self.now c.args.server (commands.Remove c.args.client) (λ run. refl) c.in_err-index.ensures.err.1)

pub invariant_of-self-in-Removed : goal.invariant_of-self-in-Removed
invariant_of-self-in-Removed g c =
    let servers = c.self.inside.servers.items in
    let x = c.index_mut.result.now in
    let within : c.in_ok-index.index < length servers = simp length-map at (rw (← c.self.view_is) at c.in_ok-index.ensures.ok.1) in
    server_kept c.self.inside.ids c.self.inside.clients.items servers c.self.invariant c.in_ok-index.index x c.serve.new.self
    (slice_get_read servers (length servers) c.in_ok-index.index x refl within c.index_mut.ensures.value) c.serve.ensures.full

pub invariant_of-self-in_default : goal.invariant_of-self-in_default
invariant_of-self-in_default g c =
    let servers = c.self.inside.servers.items in
    let x = c.index_mut.result.now in
    let within : c.in_ok-index.index < length servers = simp length-map at (rw (← c.self.view_is) at c.in_ok-index.ensures.ok.1) in
    server_kept c.self.inside.ids c.self.inside.clients.items servers c.self.invariant c.in_ok-index.index x c.serve.new.self
    (slice_get_read servers (length servers) c.in_ok-index.index x refl within c.index_mut.ensures.value) c.serve.ensures.full

pub returns : goal.returns
returns g c =
    let hs = c.self.inside.clients.items in
    let servers = c.self.inside.servers.items in
    let queue = λ (z : CoreServer g.row.Q.Denot). z.queue in
    let s = c.args.server in
    let event = events.Remove s c.args.client in
    let command = commands.Remove c.args.client in
    let x = c.index_mut.result.now in
    let i = c.in_ok-index.index in
    let place : i ≡ s.0 = c.in_ok-index.ensures.ok.0 in
    let within : s.0 < length (map queue servers) = rw (place, ← c.self.view_is) at c.in_ok-index.ensures.ok.1 in
    let core : CoreValue g.row.Q.Denot = record { servers = map queue servers; clients = hs } in
    let seen : (q : g.row.Q.Denot) → slice_get (map queue servers) s.0 ≡ Some q → x.queue ≡ q = λ q at.
    sym (seen_map queue servers s.0 q x (simp length-map at within) (rw place at c.index_mut.ensures.value)) ∙ get_or_from_slice_get (map queue servers) s.0 q q at in
    let changed = map-set queue servers i c.serve.new.self ∙ ap (λ n. set (map queue servers) n c.serve.new.self.queue) place in
    elim c.match-reply.branch [
      | in-Removed w ↦
          let whole : w.forget.new.self ≡ record { servers = set (map queue servers) s.0 c.serve.new.self.queue; clients = w.forget.new.self.clients } =
          ap (λ (qs : List g.row.Q.Denot). let v : CoreValue g.row.Q.Denot = record { servers = qs; clients = w.forget.new.self.clients } in v) (w.forget.ensures.servers ∙ changed) in
          rw (w.self-is, whole, w.reply-is, ← w.in-Removed.is, ← c.self.view_is)
          (taken_out g.T.Tag.ops g.Q.Scheduler.state core event c.args.client s command (λ run r. refl) (remove_takes_out g.T.Tag.ops c.args.client) within c.serve.new.self.queue c.in_ok-reply.reply (λ q at. rw (← seen q at) c.in_ok-reply.ensures.steps)
          w.in-Removed.count w.in-Removed.is w.forget.new.self.clients w.forget.ensures.nobody w.forget.ensures.forgotten)
      | in_default w ↦ rw (w.self-is, w.reply-is, ← c.self.view_is, changed)
          (taken_out_alone g.T.Tag.ops g.Q.Scheduler.state core event c.args.client s command (λ run r. refl) (remove_takes_out g.T.Tag.ops c.args.client) within c.serve.new.self.queue c.in_ok-reply.reply (λ q at. rw (← seen q at) c.in_ok-reply.ensures.steps))
    ]
