use Rattle.std.proofs.Common.{◌+◌, length, refl, arith}
use Rattle.dmc_heap.proofs.OrderLemmas.{lowest_one, lowest_join}
use Rattle.dmc_heap.proofs.indexed_heap.lowest_of_few.Goals as goal

pub returns-then-third-heap : goal.returns-then-third-heap
returns-then-third-heap g c =
    let heap = c.args.heap.now in
    let first = c.args.first in
    let one = lowest_one g.R.Rank.cmp g.met.R.Rank.total heap in
    let join = lowest_join g.R.Rank.cmp g.met.R.Rank.total heap in
    let end = length heap in
    let two = join first (first + 1) (first + 2) first (first + 1) c.lower_of-left.result
    (one first (first + 1) refl c.requires.some) (one (first + 1) (first + 2) (omega arith) (omega (arith, c.if-third-heap.true))) c.lower_of-left.ensures in
    join first (first + 2) end c.lower_of-left.result (first + 2) c.lower_of.result two (one (first + 2) end (omega (arith, c.requires.few, c.if-third-heap.true)) c.if-third-heap.true) c.lower_of.ensures
