-- The ranks rise, so those below this one are a front.
use Rattle.std.proofs.Common.{rules}
use Rattle.std.specs.Ordering.{is_lt}
use Rattle.std.proofs.lemmas.List.Sorted.{IsPartitionPoint-from_clause}
use Rattle.dmc_index.proofs.EntryLemmas.{IsPartitionedBy-rising, less_if_lt, not_less_if_not_lt}
use Rattle.dmc_index.proofs.list_index.place_for.Goals as goal

pub returns-clause-parts : goal.returns-clause-parts
returns-clause-parts g c =
    let found = IsPartitionPoint-from_clause (λ e. is_lt (g.R.Rank.cmp e.rank c.args.rank)) c.args.entries.now c.partition_point.result c.partition_point.ensures.partitioned (IsPartitionedBy-rising g.met.R.Rank.total c.args.entries.now c.args.rank c.requires) (λ a r f' k. search rules) in
    (λ k d l m. less_if_lt _ (found.0 k d l m), λ k d l m. not_less_if_not_lt _ (found.1 k d l m))
