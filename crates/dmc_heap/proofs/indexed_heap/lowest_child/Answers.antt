use Rattle.std.proofs.Common.{◌+◌, ◌*◌, length, refl, arith, inl, inr}
use Rattle.dmc_heap.specs.declared.indexed_heap.TheConstants.{CHILDREN}
use Rattle.dmc_heap.proofs.OrderLemmas.{lowest_one, lowest_join, IsLowestChild-range}
use Rattle.dmc_heap.proofs.indexed_heap.lowest_child.Goals as goal

pub returns-then-last-heap : goal.returns-then-last-heap
returns-then-last-heap g c =
    let heap = c.args.heap.now in
    let first = CHILDREN * c.args.at + 1 in
    let one = lowest_one g.R.Rank.cmp g.met.R.Rank.total heap in
    let join = lowest_join g.R.Rank.cmp g.met.R.Rank.total heap in
    let left = join first (first + 1) (first + 2) first (first + 1) c.lower_of-left.result
    (one first (first + 1) refl c.requires) (one (first + 1) (first + 2) (omega arith) (omega (arith, c.if-last-heap.true))) c.lower_of-left.ensures in
    let right = join (first + 2) (first + 3) (first + 4) (first + 2) (first + 3) c.lower_of-right.result
    (one (first + 2) (first + 3) (omega arith) (omega (arith, c.if-last-heap.true))) (one (first + 3) (first + 4) (omega arith) c.if-last-heap.true) c.lower_of-right.ensures in
    let all = join first (first + 2) (first + 4) c.lower_of-left.result c.lower_of-right.result c.lower_of.result left right c.lower_of.ensures in
    IsLowestChild-range g.R.Rank.cmp g.met.R.Rank.total heap c.args.at (first + 4) c.lower_of.result (inl refl) all

pub returns : goal.returns
returns g c =
    let heap = c.args.heap.now in
    IsLowestChild-range g.R.Rank.cmp g.met.R.Rank.total heap c.args.at (length heap) c.lowest_of_few.result (inr (omega arith, omega (arith, c.if-last-heap.false))) c.lowest_of_few.ensures
