use Rattle.std.proofs.Common.{◌≡◌, ◌<◌, ◌≤◌, length, get_or, ap, subst, arith}
use Rattle.dmc_tracker.proofs.Steps.{as_many, none_pending, own_part, mark_part, pending_there}
use Rattle.dmc_tracker.proofs.tracker.ServiceTracker.pending.Goals as goal

pub returns-in_err-counts : goal.returns-in_err-counts
returns-in_err-counts c =
    let past = c.in_err-counts.ensures.lookup.3 in
    none_pending c.self.invariant c.self.view_is (subst (λ xs. length xs ≤ c.args.server.0) c.deref.ensures.value past) c.from_residual.ensures

pub counted-counted-requires : goal.counted-counted-requires
counted-counted-requires c =
    let at = c.in_ok-counts.ensures.lookup in
    let within : c.args.server.0 < length c.args.self.now.servers = omega (arith, at.3.0, ap length c.deref.ensures.value, as_many c.self.invariant c.self.view_is) in
    let item = subst (λ xs. c.in_ok-counts.counts.now ≡ get_or xs c.args.server.0 c.in_ok-counts.counts.now) c.deref.ensures.value at.1 in
    own_part c.self.invariant c.self.view_is within item

pub minus-pending-requires-clause-delta : goal.minus-pending-requires-clause-delta
minus-pending-requires-clause-delta c =
    let at = c.in_ok-counts.ensures.lookup in
    let within : c.args.server.0 < length c.args.self.now.servers = omega (arith, at.3.0, ap length c.deref.ensures.value, as_many c.self.invariant c.self.view_is) in
    let item = subst (λ xs. c.in_ok-counts.counts.now ≡ get_or xs c.args.server.0 c.in_ok-counts.counts.now) c.deref.ensures.value at.1 in
    (mark_part c.self.invariant c.self.view_is within item c.counted-counted.ensures).delta

pub minus-pending-requires-clause-rho : goal.minus-pending-requires-clause-rho
minus-pending-requires-clause-rho c =
    let at = c.in_ok-counts.ensures.lookup in
    let within : c.args.server.0 < length c.args.self.now.servers = omega (arith, at.3.0, ap length c.deref.ensures.value, as_many c.self.invariant c.self.view_is) in
    let item = subst (λ xs. c.in_ok-counts.counts.now ≡ get_or xs c.args.server.0 c.in_ok-counts.counts.now) c.deref.ensures.value at.1 in
    (mark_part c.self.invariant c.self.view_is within item c.counted-counted.ensures).rho

pub returns : goal.returns
returns c =
    let at = c.in_ok-counts.ensures.lookup in
    let within : c.args.server.0 < length c.args.self.now.servers = omega (arith, at.3.0, ap length c.deref.ensures.value, as_many c.self.invariant c.self.view_is) in
    let item = subst (λ xs. c.in_ok-counts.counts.now ≡ get_or xs c.args.server.0 c.in_ok-counts.counts.now) c.deref.ensures.value at.1 in
    pending_there c.self.invariant c.self.view_is within item c.counted-counted.ensures c.minus-pending.ensures c.pending.view_is
