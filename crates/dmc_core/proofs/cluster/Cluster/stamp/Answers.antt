use Rattle.std.proofs.Common.{◌≡◌, ◌<◌, length, sym, ◌∙◌, refl, subst, arith}
use Rattle.std.proofs.lemmas.Option.{get_or_from_slice_get, slice_get_read}
use Rattle.dmc_core.specs.Core.{Held, ClientFollows}
use Rattle.dmc_core.specs.Events.{stamp}
use Rattle.dmc_core.specs.internal.Parts.{KeepsRooms}
use Rattle.dmc_core.specs.declared.event.CoreEvent.TheVariants as events
use Rattle.dmc_core.proofs.Kept.{client_kept}
use Rattle.dmc_core.proofs.Runs.{client_no_names, client_follows}
use Rattle.dmc_core.proofs.cluster.Cluster.stamp.Goals as goal
use Rattle.dmc_lemmas.proofs.Options.{err_is}

pub returns-in_err-place : goal.returns-in_err-place
returns-in_err-place g c =
    rw (err_is _ _ c.from_residual.ensures.1)
    (client_no_names g.T.Tag.ops g.Q.Scheduler.state (events.Stamp c.args.client c.args.server c.args.token c.args.cost) c.args.self.now c.args.client c.args.server
    (λ counting client. stamp counting c.args.server c.args.token c.args.cost client) (λ run. refl) c.in_err-place.field-0.0 (sym c.place.ensures.value ∙ c.in_err-place.was))

pub invariant_of-self : goal.invariant_of-self
invariant_of-self g c =
    let hs = c.self.inside.clients.items in
    let h = c.index_mut.result.now in
    let within : c.in_ok-place.place < length hs = rw (← c.self.view_is) at c.in_ok-place.ensures.within in
    client_kept c.self.inside.ids hs c.self.inside.servers.items c.self.invariant c.in_ok-place.place h c.stamp.new.self
    (slice_get_read hs (length hs) c.in_ok-place.place h refl within c.index_mut.ensures.value) c.stamp.ensures.id c.stamp.ensures.grants

pub returns : goal.returns
returns g c =
    let hs = c.self.inside.clients.items in
    let h = c.index_mut.result.now in
    let placed = rw (← c.self.view_is) at (sym c.place.ensures.value ∙ c.in_ok-place.was) in
    let server = rw (← c.self.view_is) at c.in_ok-place.ensures.server in
    rw (← c.self.view_is)
    (client_follows g.T.Tag.ops g.Q.Scheduler.state (events.Stamp c.args.client c.args.server c.args.token c.args.cost) _ c.args.client c.args.server
    (λ counting client. stamp counting c.args.server c.args.token c.args.cost client) (λ run. refl) c.in_ok-place.place placed server c.stamp.new.self c.stamp.result
    (λ x at. subst (λ (y : Held). (c.stamp.new.self.id ≡ y.id) × KeepsRooms y c.stamp.new.self) (c.index_mut.ensures.value ∙ get_or_from_slice_get hs c.in_ok-place.place x h at) (c.stamp.ensures.id, c.stamp.ensures.rooms))
    (λ x at. subst (λ (y : Held). ClientFollows (λ counting client. stamp counting c.args.server c.args.token c.args.cost client) y c.stamp.new.self c.stamp.result)
    (c.index_mut.ensures.value ∙ get_or_from_slice_get hs c.in_ok-place.place x h at) c.stamp.ensures.follows)
    (λ e. refl))

pub index_mut-requires : goal.index_mut-requires
index_mut-requires g c = let within = rw (← c.self.view_is) at c.in_ok-place.ensures.within in omega arith

pub stamp-requires : goal.stamp-requires
stamp-requires g c =
    let clients = c.self.inside.clients.items in
    let within : c.in_ok-place.place < length clients = rw (← c.self.view_is) at c.in_ok-place.ensures.within in
    (rw (← c.self.view_is) at c.in_ok-place.ensures.paired) c.index_mut.result.now (slice_get_read clients (length clients) c.in_ok-place.place c.index_mut.result.now refl within c.index_mut.ensures.value)
