use Rattle.dmc_heap.proofs.OrderLemmas.{first_is_lower, second_is_lower}
use Rattle.dmc_heap.proofs.indexed_heap.lower_of.Goals as goal

pub returns-then-is_below : goal.returns-then-is_below
returns-then-is_below g c =
    second_is_lower g.R.Rank.cmp g.met.R.Rank.total c.args.heap.now c.args.a c.args.b c.index-heap-a.result c.index-heap-b.result c.is_below.result c.requires.a c.requires.b c.index-heap-a.is c.index-heap-b.is c.is_below.ensures c.if-is_below.true

pub returns : goal.returns
returns g c =
    first_is_lower g.R.Rank.cmp g.met.R.Rank.total c.args.heap.now c.args.a c.args.b c.index-heap-a.result c.index-heap-b.result c.is_below.result c.requires.a c.requires.b c.index-heap-a.is c.index-heap-b.is c.is_below.ensures c.if-is_below.false
