-- The longest part, or no longer one.
use Rattle.std.proofs.Common.{rules, ◌≡◌, ◌-◌, ◌<◌, None, Some, arith, map, take}
use Rattle.dmc_tool.specs.Words.{asked, asked_by_words}
use Rattle.dmc_tool.specs.declared.words.TheConstants.{WRITTEN}
use Rattle.dmc_tool.proofs.ExplainLemmas.{found_part, no_part}
use Rattle.dmc_tool.proofs.explain.longest_part.Goals as goal

pub returns-in-Ok : goal.returns-in-Ok
returns-in-Ok g c =
    let words = c.args.words.now in
    let count = c.loop-count.count in
    let some : 1 < count = search rules in
    let found : asked_by_words WRITTEN (map g.S.AsStr.text (take (count - 1) words)) ≡ Some (asked c.in-Ok.field-0) = search rules in
    found_part g.S.AsStr.text WRITTEN words count (asked c.in-Ok.field-0) some found c.loop-count.invariant.longer

pub loop-count-preserved : goal.loop-count-preserved
loop-count-preserved g c =
    let words = c.args.words.now in
    let count = c.loop-count.count in
    let some : 1 < count = search rules in
    let none : asked_by_words WRITTEN (map g.S.AsStr.text (take (count - 1) words)) ≡ None = search rules in
    record {
      within = omega (arith, c.loop-count.invariant.within);
      longer = no_part g.S.AsStr.text WRITTEN words count some none c.loop-count.invariant.longer;
    }
