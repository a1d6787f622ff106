use Rattle.std.proofs.Common.{drop}
use Rattle.dmc_tag.specs.Best.{is_below}
use Rattle.dmc_plain.specs.internal.Sets.{members, tag_of}
use Rattle.dmc_plain.proofs.Found.{Found}
use Rattle.dmc_plain.proofs.best.best_index.Given as goal

-- what is found is the best of those from i on
abbrev pub invariant-loop-i : goal.invariant-loop-i
invariant-loop-i g l =
    let ops = g.T.Tag.ops in
    Found (is_below ops (tag_of l.set)) (members ops l.set) (drop l.i l.requests) l.i l.found
