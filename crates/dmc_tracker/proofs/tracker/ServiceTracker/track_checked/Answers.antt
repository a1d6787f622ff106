use Rattle.std.proofs.Common.{arith}
use Rattle.dmc_tracker.proofs.Steps.{as_many, keeps_all, own_fits, response_kept, response_seen, represents_after_response}
use Rattle.dmc_tracker.proofs.tracker.ServiceTracker.track_checked.Goals as goal

pub index-counts-requires : goal.index-counts-requires
index-counts-requires c =
    omega (arith, c.requires.within, as_many c.self.invariant c.self.view_is, c.self.inside.servers.ok)

pub index_mut-requires : goal.index_mut-requires
index_mut-requires c =
    omega (arith, c.requires.within, as_many c.self.invariant c.self.view_is, c.self.inside.servers.ok)

pub plus-requires-clause-delta : goal.plus-requires-clause-delta
plus-requires-clause-delta c =
    (own_fits c.self.invariant c.self.view_is c.requires.within c.index-counts.ensures c.args.phase c.args.cost c.of_response-response.ensures c.requires.not_full).0

pub plus-requires-clause-rho : goal.plus-requires-clause-rho
plus-requires-clause-rho c =
    (own_fits c.self.invariant c.self.view_is c.requires.within c.index-counts.ensures c.args.phase c.args.cost c.of_response-response.ensures c.requires.not_full).1

pub invariant_of-self : goal.invariant_of-self
invariant_of-self c =
    response_kept c.self.invariant c.self.view_is c.requires.within c.index-counts.ensures c.args.phase c.args.cost c.of_response-response.ensures c.requires.not_full c.plus-self-inside.ensures c.plus.ensures

pub returns-clause-after : goal.returns-clause-after
returns-clause-after c =
    response_seen c.self.invariant c.self.view_is c.requires.within c.index-counts.ensures c.args.phase c.args.cost c.of_response-response.ensures c.requires.not_full c.plus-self-inside.ensures c.plus.ensures

pub returns-clause-represents : goal.returns-clause-represents
returns-clause-represents c =
    represents_after_response c.args.server c.args.phase c.args.cost (returns-clause-after c)

pub returns-clause-kept : goal.returns-clause-kept
returns-clause-kept c =
    keeps_all c.self.invariant c.self.view_is _ _ _
