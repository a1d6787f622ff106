use Rattle.std.proofs.Common.{◌≡◌, ◌<◌, length, map, set, slice_get, List, Some, sym, ap, ◌∙◌, refl, arith}
use Rattle.std.proofs.lemmas.List.{length-map, length-set, map-set}
use Rattle.std.proofs.lemmas.Option.{get_or_from_slice_get, slice_get_read}
use Rattle.dmc_core.specs.Core.{CoreValue}
use Rattle.dmc_core.specs.internal.Parts.{full_counts}
use Rattle.dmc_core.specs.declared.server.CoreServer.{CoreServer}
use Rattle.dmc_core.proofs.Pairs.{seen_map}
use Rattle.dmc_core.proofs.Kept.{known, server_kept}
use Rattle.dmc_core.proofs.Pulls.{pull_no_name, pull_full, pull_granted, pull_not_granted}
use Rattle.dmc_tag.proofs.ForCallers.{tag_order}
use Rattle.dmc_core.proofs.cluster.Cluster.pull.Goals as goal
use Rattle.dmc_core.proofs.cluster.Cluster.pull.Goals.{in-Granted, in_default}
use Rattle.dmc_lemmas.proofs.Options.{err_is}

pub returns-in_err-index : goal.returns-in_err-index
returns-in_err-index g c =
    rw (err_is _ _ c.from_residual.ensures.1, c.in_err-index.ensures.err.0)
    (pull_no_name g.T.Tag.ops g.Q.Scheduler.state c.args.self.now c.args.server c.args.at c.in_err-index.ensures.err.1)

pub returns-then-index-gt0 : goal.returns-then-index-gt0
returns-then-index-gt0 g c =
    let servers = c.self.inside.servers.items in
    let x = c.index.result.now in
    let place : c.in_ok-index.index ≡ c.args.server.0 = c.in_ok-index.ensures.ok.0 in
    let within : c.args.server.0 < length (map (λ (z : CoreServer g.row.Q.Denot). z.queue) servers) = rw (place, ← c.self.view_is) at c.in_ok-index.ensures.ok.1 in
    let knows = known c.self.inside.ids c.self.inside.clients.items servers c.self.invariant c.args.server x
    (slice_get_read servers (length servers) c.args.server.0 x refl (simp length-map at within) (rw place at c.index.ensures)) in
    rw (← c.self.view_is)
    (pull_full g.T.Tag.ops g.Q.Scheduler.state _ c.args.server c.args.at within (omega arith))

pub invariant_of-self : goal.invariant_of-self
invariant_of-self g c =
    let servers = c.self.inside.servers.items in
    let x = c.index_mut.result.now in
    let within : c.in_ok-index.index < length servers = simp length-map at (rw (← c.self.view_is) at c.in_ok-index.ensures.ok.1) in
    server_kept c.self.inside.ids c.self.inside.clients.items servers c.self.invariant c.in_ok-index.index x c.pull-reply.new.self
    (slice_get_read servers (length servers) c.in_ok-index.index x refl within c.index_mut.ensures.value) c.pull-reply.ensures.full

pub invariant_of-self-in_default : goal.invariant_of-self-in_default
invariant_of-self-in_default g c =
    let servers = c.self.inside.servers.items in
    let x = c.index_mut.result.now in
    let within : c.in_ok-index.index < length servers = simp length-map at (rw (← c.self.view_is) at c.in_ok-index.ensures.ok.1) in
    server_kept c.self.inside.ids c.self.inside.clients.items servers c.self.invariant c.in_ok-index.index x c.pull-reply.new.self
    (slice_get_read servers (length servers) c.in_ok-index.index x refl within c.index_mut.ensures.value) c.pull-reply.ensures.full

pub returns : goal.returns
returns g c =
    let hs = c.self.inside.clients.items in
    let servers = c.self.inside.servers.items in
    let queue = λ (z : CoreServer g.row.Q.Denot). z.queue in
    let s = c.args.server in
    let x = c.index_mut.result.now in
    let i = c.in_ok-index.index in
    let place : i ≡ s.0 = c.in_ok-index.ensures.ok.0 in
    let within : s.0 < length (map queue servers) = rw (place, ← c.self.view_is) at c.in_ok-index.ensures.ok.1 in
    let core : CoreValue g.row.Q.Denot = record { servers = map queue servers; clients = hs } in
    let knows = known c.self.inside.ids hs servers c.self.invariant s c.index.result.now
    (slice_get_read servers (length servers) s.0 c.index.result.now refl (simp length-map at within) (rw place at c.index.ensures)) in
    let none : full_counts s hs ≡ 0 = omega arith in
    let seen : (q : g.row.Q.Denot) → slice_get (map queue servers) s.0 ≡ Some q → x.queue ≡ q = λ q at.
    sym (seen_map queue servers s.0 q x (simp length-map at within) (rw place at c.index_mut.ensures.value)) ∙ get_or_from_slice_get (map queue servers) s.0 q q at in
    let changed = map-set queue servers i c.pull-reply.new.self ∙ ap (λ n. set (map queue servers) n c.pull-reply.new.self.queue) place in
    let order = tag_order g.T.Ord.cmp g.T.Tag.ops.compare g.met.T.Ord.total g.met.T.Tag.compares in
    elim c.match-reply.branch [
      | in-Granted w ↦
          let whole : w.add_grant.new.self ≡ record { servers = set (map queue servers) s.0 c.pull-reply.new.self.queue; clients = w.add_grant.new.self.clients } =
          ap (λ (qs : List g.row.Q.Denot). let v : CoreValue g.row.Q.Denot = record { servers = qs; clients = w.add_grant.new.self.clients } in v) (w.add_grant.ensures.servers ∙ changed) in
          rw (w.self-is, whole, w.reply-is, ← c.self.view_is)
          (pull_granted g.T.Tag.ops g.Q.Scheduler.state core s c.args.at within none c.pull-reply.new.self.queue _ (λ q at. rw (← seen q at) w.in-Granted.ensures.steps) g.T.Tag.fraction g.T.Tag.is_value g.met.T.Tag.exact order
          w.in-Granted.client _ w.in-Granted.phase _ w.in-Granted.cost refl w.add_grant.new.self.clients w.add_grant.ensures.nobody w.add_grant.ensures.granted)
      | in_default w ↦ rw (w.self-is, w.reply-is, ← c.self.view_is, changed)
          (pull_not_granted g.T.Tag.ops g.Q.Scheduler.state core s c.args.at within none c.pull-reply.new.self.queue c.pull-reply.result (λ q at. rw (← seen q at) c.pull-reply.ensures.steps) g.T.Tag.fraction g.T.Tag.is_value g.met.T.Tag.exact order
          w.in_default.not-Granted)
    ]

pub index-requires : goal.index-requires
index-requires g c = let within = simp length-map at (rw (← c.self.view_is) at c.in_ok-index.ensures.ok.1) in omega arith

pub index_mut-requires : goal.index_mut-requires
index_mut-requires g c = let within = simp length-map at (rw (← c.self.view_is) at c.in_ok-index.ensures.ok.1) in omega arith

pub add_grant-requires-clause-within : goal.add_grant-requires-clause-within
add_grant-requires-clause-within g c =
    let place : c.in_ok-index.index ≡ c.args.server.0 = c.in_ok-index.ensures.ok.0 in
    let within = rw place at (simp length-map at (rw (← c.self.view_is) at c.in_ok-index.ensures.ok.1)) in
    simp (length-map, length-set) within

pub add_grant-requires-clause-room : goal.add_grant-requires-clause-room
add_grant-requires-clause-room g c =
    let servers = c.self.inside.servers.items in
    let x = c.index.result.now in
    let place : c.in_ok-index.index ≡ c.args.server.0 = c.in_ok-index.ensures.ok.0 in
    let within : c.args.server.0 < length servers = rw place at (simp length-map at (rw (← c.self.view_is) at c.in_ok-index.ensures.ok.1)) in
    let knows = known c.self.inside.ids c.self.inside.clients.items servers c.self.invariant c.args.server x (slice_get_read servers (length servers) c.args.server.0 x refl within (rw place at c.index.ensures)) in
    omega arith
