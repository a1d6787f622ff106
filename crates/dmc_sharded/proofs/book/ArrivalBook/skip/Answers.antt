use Rattle.std.proofs.Common.{length}
use Rattle.dmc_sharded.proofs.ConsistentLemmas.{consistent_after_skip}
use Rattle.dmc_sharded.proofs.book.ArrivalBook.skip.Goals as goal

pub invariant_of-self : goal.invariant_of-self
invariant_of-self g c =
    consistent_after_skip _ c.args.shard c.skip.result c.skip.new.self c.skip.ensures.after c.skip.ensures.err c.skip.ensures.ok.0 c.self.invariant
