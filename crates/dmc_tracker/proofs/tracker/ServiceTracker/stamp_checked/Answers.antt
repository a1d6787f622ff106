use Rattle.std.proofs.Common.{arith}
use Rattle.dmc_tracker.proofs.Steps.{as_many, keeps_all, own_part, mark_part, params_fit, sent_fits, stamp_kept, stamp_seen, narrow_stamp, ordered_stamp, handed_out, represents_after}
use Rattle.dmc_tracker.proofs.tracker.ServiceTracker.stamp_checked.Goals as goal

pub index-requires : goal.index-requires
index-requires c =
    omega (arith, c.requires.within, as_many c.self.invariant c.self.view_is, c.self.inside.servers.ok)

pub index_mut-requires : goal.index_mut-requires
index_mut-requires c =
    omega (arith, c.requires.within, as_many c.self.invariant c.self.view_is, c.self.inside.servers.ok)

pub counted-counted-requires : goal.counted-counted-requires
counted-counted-requires c =
    own_part c.self.invariant c.self.view_is c.requires.within c.index.ensures

pub minus-requires-clause-delta : goal.minus-requires-clause-delta
minus-requires-clause-delta c =
    (mark_part c.self.invariant c.self.view_is c.requires.within c.index.ensures c.counted-counted.ensures).delta

pub minus-requires-clause-rho : goal.minus-requires-clause-rho
minus-requires-clause-rho c =
    (mark_part c.self.invariant c.self.view_is c.requires.within c.index.ensures c.counted-counted.ensures).rho

pub plus-next-requires-clause-delta : goal.plus-next-requires-clause-delta
plus-next-requires-clause-delta c =
    (params_fit c.self.invariant c.self.view_is c.requires.within c.index.ensures c.counted-counted.ensures c.minus.ensures c.own_share.ensures (omega arith)).0

pub plus-next-requires-clause-rho : goal.plus-next-requires-clause-rho
plus-next-requires-clause-rho c =
    (params_fit c.self.invariant c.self.view_is c.requires.within c.index.ensures c.counted-counted.ensures c.minus.ensures c.own_share.ensures (omega arith)).1

pub plus-requires-clause-delta : goal.plus-requires-clause-delta
plus-requires-clause-delta c =
    (sent_fits c.self.invariant c.self.view_is c.requires.within c.index.ensures c.counted-counted.ensures c.minus.ensures c.own_share.ensures (omega arith) c.plus-next.ensures c.requires.not_full).0

pub plus-requires-clause-rho : goal.plus-requires-clause-rho
plus-requires-clause-rho c =
    (sent_fits c.self.invariant c.self.view_is c.requires.within c.index.ensures c.counted-counted.ensures c.minus.ensures c.own_share.ensures (omega arith) c.plus-next.ensures c.requires.not_full).1

pub invariant_of-self : goal.invariant_of-self
invariant_of-self c =
    stamp_kept c.self.invariant c.self.view_is c.requires.within c.index.ensures c.counted-counted.ensures c.minus.ensures c.own_share.ensures (omega arith) c.plus-next.ensures c.requires.not_full c.plus.ensures

pub returns-clause-after : goal.returns-clause-after
returns-clause-after c =
    stamp_seen c.self.invariant c.self.view_is c.requires.within c.index.ensures c.counted-counted.ensures c.minus.ensures c.own_share.ensures (omega arith) c.plus-next.ensures c.requires.not_full c.plus.ensures

pub returns-clause-kept : goal.returns-clause-kept
returns-clause-kept c =
    keeps_all c.self.invariant c.self.view_is _ _ _

pub stamp-requires-clause-delta : goal.stamp-requires-clause-delta
stamp-requires-clause-delta c =
    narrow_stamp c.self.invariant c.self.view_is c.requires.within c.index.ensures c.counted-counted.ensures c.minus.ensures c.own_share.ensures (omega arith) c.plus-next.ensures c.requires.not_full

pub stamp-requires-clause-rho : goal.stamp-requires-clause-rho
stamp-requires-clause-rho c =
    ordered_stamp c.self.invariant c.self.view_is c.requires.within c.index.ensures c.counted-counted.ensures c.minus.ensures c.own_share.ensures (omega arith) c.plus-next.ensures c.requires.not_full

pub returns-clause-params : goal.returns-clause-params
returns-clause-params c =
    handed_out c.self.invariant c.self.view_is c.requires.within c.index.ensures c.counted-counted.ensures c.minus.ensures c.own_share.ensures (omega arith) c.plus-next.ensures c.requires.not_full c.stamp.ensures

pub returns-clause-represents : goal.returns-clause-represents
returns-clause-represents c =
    represents_after c.requires.within (returns-clause-after c) (returns-clause-params c)
