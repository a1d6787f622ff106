use Rattle.std.proofs.Common.{◌≡◌, replicate, rules}
use Rattle.dmc_shards.proofs.RepresentsLemmas.{RepresentsCalls-new}
use Rattle.dmc_shards.proofs.Steps.{view-new}
use Rattle.dmc_shards.proofs.tracker.ShardTracker.new.Goals as goal

pub returns-clause-ok : goal.returns-clause-ok
returns-clause-ok c =
    let items : c.in_ok-counts.counts.items ≡ replicate c.args.shards c.none.result = search rules in
    rw (c.none-2.ensures, items) (view-new c.args.most c.args.shards c.none.ensures)

pub returns-clause-represents : goal.returns-clause-represents
returns-clause-represents c = rw (returns-clause-ok c) (RepresentsCalls-new c.args.most c.args.shards)
