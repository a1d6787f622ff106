-- The two are beginnings of one list, and the numbers are compared.
use Rattle.std.proofs.Common.{◌≡◌, ◌+◌, length, rules}
use Rattle.dmc_shared.proofs.SegmentLemmas.{is_next}
use Rattle.dmc_shared.proofs.segment.ListSegment.follows.Goals as goal

pub returns-then-next-self-clause-before : goal.returns-then-next-self-clause-before
returns-then-next-self-clause-before g c same =
    let one = c.self.inside in
    let two = c.next.inside in
    let log = g.L.KeptList.log in
    let behind : two.first ≡ one.first + length (log one.kept).events = search rules in
    rw (← c.self.view_is, ← c.next.view_is) (is_next log one.whole.list two.whole.list one.kept two.kept one.first two.first c.self.invariant.1 c.next.invariant.1 c.compare.ensures behind)
