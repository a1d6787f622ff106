use Rattle.std.proofs.Common.{◌<◌, ◌++◌, ◌∷◌, [], length, map}
use Rattle.dmc_core.specs.Run.{Pair, grants, with_grants}
use Rattle.dmc_core.specs.internal.Parts.{pair_of}
use Rattle.dmc_core.proofs.Pairs.{pair_seen, pair_changed, pair_either, room_seen, room_changed, room_elsewhere}
use Rattle.dmc_core.proofs.client.CoreClient.add_grant.Goals as goal

pub returns-clause-either : goal.returns-clause-either
returns-clause-either c =
    let items = c.self.inside.pairs.items in
    let x = c.index_mut.result.now in
    let within : c.args.server.0 < length (map pair_of items) = rw (← c.self.view_is) at c.requires.within in
    rw (← c.self.view_is) (pair_either items c.args.server x within c.index_mut.ensures.value c.add_grant.new.self (λ (pair : Pair). with_grants c.args.phase (grants c.args.phase pair ++ c.args.cost ∷ []) pair) c.add_grant.ensures.either)

pub returns-clause-granted : goal.returns-clause-granted
returns-clause-granted c =
    let items = c.self.inside.pairs.items in
    let s = c.args.server in
    let x = c.index_mut.result.now in
    let value = c.index_mut.ensures.value in
    let within : s.0 < length (map pair_of items) = rw (← c.self.view_is) at c.requires.within in
    rw (← c.self.view_is)
    (λ low.
    let granted = c.add_grant.ensures.granted (rw (pair_seen items s x within value, room_seen items s x within value) at low) in (
      pair_changed items s x within value c.add_grant.new.self (λ (pair : Pair). with_grants c.args.phase (grants c.args.phase pair ++ c.args.cost ∷ []) pair) granted.0,
      rw (room_changed items s x within value c.add_grant.new.self, room_seen items s x within value) granted.1,
    ))

pub returns-clause-as_much : goal.returns-clause-as_much
returns-clause-as_much c =
    let items = c.self.inside.pairs.items in
    let s = c.args.server in
    let x = c.index_mut.result.now in
    let value = c.index_mut.ensures.value in
    let within : s.0 < length (map pair_of items) = rw (← c.self.view_is) at c.requires.within in
    rw (← c.self.view_is, room_changed items s x within value c.add_grant.new.self, room_seen items s x within value) c.add_grant.ensures.as_much

pub returns-clause-elsewhere : goal.returns-clause-elsewhere
returns-clause-elsewhere c =
    let items = c.self.inside.pairs.items in
    let x = c.index_mut.result.now in
    let within : c.args.server.0 < length (map pair_of items) = rw (← c.self.view_is) at c.requires.within in
    rw (← c.self.view_is) (room_elsewhere items c.args.server x within c.index_mut.ensures.value c.add_grant.new.self)
