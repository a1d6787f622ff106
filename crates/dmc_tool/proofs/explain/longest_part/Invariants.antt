-- No longer part asks for something.
use Rattle.std.proofs.Common.{◌≡◌, ◌<◌, ◌≤◌, ℕ, None, length, map, take}
use Rattle.dmc_tool.specs.Words.{asked_by_words}
use Rattle.dmc_tool.specs.declared.words.TheConstants.{WRITTEN}
use Rattle.dmc_tool.proofs.explain.longest_part.Given as goal

abbrev pub invariant-loop-count : goal.invariant-loop-count
invariant-loop-count g l = record {
  within : l.count ≤ length l.words;
  longer : (n : ℕ) → l.count ≤ n → n < length l.words → asked_by_words WRITTEN (take n (map g.S.AsStr.text l.words)) ≡ None;
}

abbrev pub decreases-loop-count : goal.decreases-loop-count
decreases-loop-count g l = l.count
