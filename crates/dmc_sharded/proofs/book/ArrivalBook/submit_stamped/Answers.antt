use Rattle.std.proofs.Common.{◌≡◌, ◌+◌, ◌<◌, ◌≤◌, length, map, sym, ap, ◌∙◌, subst, arith}
use Rattle.std.proofs.lemmas.List.{map-set, length-map}
use Rattle.dmc_types.specs.Values.{Params}
use Rattle.dmc_shards.specs.ShardNumbers.{next_params, IsFullAt}
use Rattle.dmc_sharded.specs.BookState.{BookState, DeskState, desk_at, desk_state, IsConsistent}
use Rattle.dmc_sharded.specs.declared.desk.ShardDesk.{ShardDesk}
use Rattle.dmc_sharded.specs.Arriving.{taken, IsDeskAfterRefusal, IsStampFull}
use Rattle.dmc_sharded.proofs.ConsistentLemmas.{arrival_seen, consistent_after_arrival, consistent_after_refusal, desk_found, next_fits, refusal_seen}
use Rattle.dmc_sharded.proofs.book.ArrivalBook.submit_stamped.Goals as goal

pub returns-in-Ok-arrive-clause-arrived : goal.returns-in-Ok-arrive-clause-arrived
returns-in-Ok-arrive-clause-arrived g c =
    let here = c.self.inside in
    let f : ShardDesk g.row.S.Denot → DeskState = desk_state in
    let there : c.args.shard.0 < length (map f here.desks.items) = subst (λ (x : BookState). c.args.shard.0 < length x.desks) (sym c.self.view_is) c.requires.within in
    let within : c.args.shard.0 < length here.desks.items = omega (arith, there, length-map here.desks.items f) in
    let at = desk_found here.desks.items c.args.shard.0 c.index_mut-desk.result.now within c.index_mut-desk.ensures.value in
    let next : c.args.stamped ≡ next_params here.tracker c.args.shard c.args.params =
    c.requires.stamped ∙ ap (λ (x : BookState). next_params x.tracker c.args.shard c.args.params) (sym c.self.view_is) in
    rw (← c.self.view_is, map-set f here.desks.items c.args.shard.0 c.submit.new.self) (
    arrival_seen (record { client = here.client.0; tracker = here.tracker; desks = map f here.desks.items }) c.args.shard c.args.params
    (f c.index_mut-desk.result.now) (f c.submit.new.self) c.arrive.new.self at
    (c.in-Ok.ensures.taken ∙ ap (λ (p : Params). taken p (f c.index_mut-desk.result.now)) next) c.in-Ok-arrive.ensures.after)

pub invariant_of-self : goal.invariant_of-self
invariant_of-self g c =
    let here = c.self.inside in
    let f : ShardDesk g.row.S.Denot → DeskState = desk_state in
    let b : BookState = record { client = here.client.0; tracker = here.tracker; desks = map f here.desks.items } in
    let within : c.args.shard.0 < length b.desks = subst (λ (x : BookState). c.args.shard.0 < length x.desks) (sym c.self.view_is) c.requires.within in
    let counted : b.tracker.came.delta + c.args.params.delta ≤ b.tracker.most =
    subst (λ (x : BookState). x.tracker.came.delta + c.args.params.delta ≤ x.tracker.most) (sym c.self.view_is) c.requires.counted in
    subst IsConsistent (sym (returns-in-Ok-arrive-clause-arrived g c))
    (rw (← c.self.view_is) (consistent_after_arrival b c.args.shard c.args.params within c.self.invariant c.rho_is_part.ensures counted))

pub returns-in-Err-clause-refused : goal.returns-in-Err-clause-refused
returns-in-Err-clause-refused g c =
    let here = c.self.inside in
    let f : ShardDesk g.row.S.Denot → DeskState = desk_state in
    let there : c.args.shard.0 < length (map f here.desks.items) = subst (λ (x : BookState). c.args.shard.0 < length x.desks) (sym c.self.view_is) c.requires.within in
    let within : c.args.shard.0 < length here.desks.items = omega (arith, there, length-map here.desks.items f) in
    let at = desk_found here.desks.items c.args.shard.0 c.index_mut-desk.result.now within c.index_mut-desk.ensures.value in
    let next : c.args.stamped ≡ next_params here.tracker c.args.shard c.args.params =
    c.requires.stamped ∙ ap (λ (x : BookState). next_params x.tracker c.args.shard c.args.params) (sym c.self.view_is) in
    rw (← c.self.view_is, map-set f here.desks.items c.args.shard.0 c.submit.new.self) (
    refusal_seen (record { client = here.client.0; tracker = here.tracker; desks = map f here.desks.items }) c.args.shard c.args.params
    (f c.index_mut-desk.result.now) (f c.submit.new.self) c.in-Err.fault at
    (subst (λ (p : Params). IsDeskAfterRefusal p (f c.index_mut-desk.result.now) (f c.submit.new.self) c.in-Err.fault) next c.in-Err.ensures.refused))

pub invariant_of-self-in-Err : goal.invariant_of-self-in-Err
invariant_of-self-in-Err g c =
    let here = c.self.inside in
    let f : ShardDesk g.row.S.Denot → DeskState = desk_state in
    let b : BookState = record { client = here.client.0; tracker = here.tracker; desks = map f here.desks.items } in
    let there : c.args.shard.0 < length (map f here.desks.items) = subst (λ (x : BookState). c.args.shard.0 < length x.desks) (sym c.self.view_is) c.requires.within in
    let within : c.args.shard.0 < length here.desks.items = omega (arith, there, length-map here.desks.items f) in
    let at = desk_found here.desks.items c.args.shard.0 c.index_mut-desk.result.now within c.index_mut-desk.ensures.value in
    let next : c.args.stamped ≡ next_params here.tracker c.args.shard c.args.params =
    c.requires.stamped ∙ ap (λ (x : BookState). next_params x.tracker c.args.shard c.args.params) (sym c.self.view_is) in
    let delta = next_fits here.tracker c.args.shard c.args.params (omega (arith, there, c.self.invariant.shards))
    (subst (λ (x : BookState). IsFullAt x.tracker c.args.shard c.args.params → ⊥) (sym c.self.view_is) c.requires.fits) in
    let rho : (next_params here.tracker c.args.shard c.args.params).rho ≤ (next_params here.tracker c.args.shard c.args.params).delta =
    subst (λ (p : Params). p.rho ≤ p.delta) next c.rho_is_part-2.ensures in
    rw (map-set f here.desks.items c.args.shard.0 c.submit.new.self) (
    consistent_after_refusal b c.args.shard c.args.params there c.self.invariant
    (f c.index_mut-desk.result.now) (f c.submit.new.self) c.in-Err.fault at delta (omega (arith, delta, rho))
    (subst (λ (p : Params). IsDeskAfterRefusal p (f c.index_mut-desk.result.now) (f c.submit.new.self) c.in-Err.fault) next c.in-Err.ensures.refused))

pub returns-in-Err-clause-full : goal.returns-in-Err-clause-full
returns-in-Err-clause-full g c =
    let here = c.self.inside in
    let f : ShardDesk g.row.S.Denot → DeskState = desk_state in
    let there : c.args.shard.0 < length (map f here.desks.items) = subst (λ (x : BookState). c.args.shard.0 < length x.desks) (sym c.self.view_is) c.requires.within in
    let within : c.args.shard.0 < length here.desks.items = omega (arith, there, length-map here.desks.items f) in
    let at = desk_found here.desks.items c.args.shard.0 c.index_mut-desk.result.now within c.index_mut-desk.ensures.value in
    let seen : f c.index_mut-desk.result.now ≡ desk_at c.args.self.now.desks c.args.shard.0 = sym at ∙ ap (λ (x : BookState). desk_at x.desks c.args.shard.0) c.self.view_is in
    (λ e. subst IsStampFull seen (c.in-Err.ensures.full.0 e), λ full. c.in-Err.ensures.full.1 (subst IsStampFull (sym seen) full))
