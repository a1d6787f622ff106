use Rattle.std.proofs.Common.{arith, ◌<◌, length, sym, subst, rules}
use Rattle.std.proofs.lemmas.Grind.{common_steps}
use Rattle.dmc_ledger.specs.Bundles.{ServerSide, stamp_holdings}
use Rattle.dmc_ledger.specs.Moves.{AreWithin}
use Rattle.dmc_tlock.specs.internal.Status.{IsReadable, IsReadOff}
use Rattle.dmc_tlock.proofs.DeskLemmas.{found}
use Rattle.dmc_tlock.proofs.StatusLemmas.{readable, IsStatusOf-read, IsWithin-read, AreSums-status}
use Rattle.dmc_tlock.proofs.book.TrackerBook.status.Goals as goal

pub read_status-requires : goal.read_status-requires
read_status-requires g c =
    let here = c.self.inside in
    let within : c.in_ok-index.index < length here.desks.items = search rules in
    let at = found here.desks.items c.args.server c.in_ok-index.index c.index-desk.result.now
    c.in_ok-index.ensures.place within c.index-desk.ensures in
    subst (λ (d : ServerSide). IsReadable here.tracker d c.args.server) at.seen
    (readable _ c.args.server at.within c.self.invariant.0)

pub returns-clause-status : goal.returns-clause-status
returns-clause-status g c =
    let here = c.self.inside in
    let within : c.in_ok-index.index < length here.desks.items = search rules in
    let at = found here.desks.items c.args.server c.in_ok-index.index c.index-desk.result.now
    c.in_ok-index.ensures.place within c.index-desk.ensures in
    let read = subst (λ (d : ServerSide). IsReadOff here.tracker d c.args.server c.read_status.result) (sym at.seen) c.read_status.ensures in
    rw (← c.self.view_is) (IsStatusOf-read _ c.args.server at.within c.self.invariant.0 c.read_status.result read)

pub returns-clause-sent : goal.returns-clause-sent
returns-clause-sent g c =
    let here = c.self.inside in
    let within : c.in_ok-index.index < length here.desks.items = search rules in
    let at = found here.desks.items c.args.server c.in_ok-index.index c.index-desk.result.now
    c.in_ok-index.ensures.place within c.index-desk.ensures in
    let read = subst (λ (d : ServerSide). IsReadOff here.tracker d c.args.server c.read_status.result) (sym at.seen) c.read_status.ensures in
    let few = subst (λ (d : ServerSide). AreWithin (stamp_holdings c.args.tills.now) d.books) (sym at.seen) c.audit_tills.ensures in
    IsWithin-read _ c.args.server at.within c.self.invariant.0 (stamp_holdings c.args.tills.now) c.read_status.result read few

pub returns-clause-sums : goal.returns-clause-sums
returns-clause-sums g c =
    let here = c.self.inside in
    let within : c.in_ok-index.index < length here.desks.items = search rules in
    let at = found here.desks.items c.args.server c.in_ok-index.index c.index-desk.result.now
    c.in_ok-index.ensures.place within c.index-desk.ensures in
    let read = subst (λ (d : ServerSide). IsReadOff here.tracker d c.args.server c.read_status.result) (sym at.seen) c.read_status.ensures in
    AreSums-status _ c.args.server at.within c.self.invariant.0 c.read_status.result
    (IsStatusOf-read _ c.args.server at.within c.self.invariant.0 c.read_status.result read)

pub returns-in_err-index-clause-no_server : goal.returns-in_err-index-clause-no_server
returns-in_err-index-clause-no_server g c = grind (arith, common_steps)

pub returns-in_err-index-clause-stranger : goal.returns-in_err-index-clause-stranger
returns-in_err-index-clause-stranger g c = grind (arith, common_steps)

pub returns-clause-no_server : goal.returns-clause-no_server
returns-clause-no_server g c = grind (arith, common_steps)
