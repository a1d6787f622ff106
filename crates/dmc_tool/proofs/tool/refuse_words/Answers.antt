-- The usage fault, or that of a failed allocation.
use Rattle.std.proofs.Common.{rules, ◌≡◌, codes, false, true, inl, inr, refl}
use Rattle.std.specs.List.{list_any}
use Rattle.std.specs.Str.{bytes_eq}
use Rattle.dmc_tool.specs.declared.fault.Fault.TheVariants.{Memory, Usage}
use Rattle.dmc_tool.specs.declared.words.TheConstants.{WRITTEN}
use Rattle.dmc_tool.proofs.ExplainLemmas.{explained, unexplained}
use Rattle.dmc_tool.proofs.tool.refuse_words.Goals as goal

pub returns-then-not-has_explain : goal.returns-then-not-has_explain
returns-then-not-has_explain g c =
    let has : list_any (λ word. bytes_eq (g.S.AsStr.text word) (codes "--explain")) c.args.words.now ≡ false = search rules in
    (Usage, inl refl, unexplained g.S.AsStr.text WRITTEN c.args.words.now g.E.Write.contents c.args.fault_writer.now c.write_fault.new.fault_writer has c.write_fault.ensures.text, c.write_fault.ensures.status)

pub returns-in-Ok : goal.returns-in-Ok
returns-in-Ok g c =
    let has : list_any (λ word. bytes_eq (g.S.AsStr.text word) (codes "--explain")) c.args.words.now ≡ true = search rules in (
      Usage,
      inl refl,
      explained g.S.AsStr.text WRITTEN c.args.words.now g.E.Write.contents c.args.fault_writer.now c.write_usage.new.fault_writer c.in-Ok.count _ has c.in-Ok.ensures c.word_at.ensures
          c.write_usage.ensures.text,
      c.write_usage.ensures.status,
    )

pub returns-in-Err : goal.returns-in-Err
returns-in-Err g c = (Memory, inr refl, c.write_fault-in-Err.ensures.text, c.write_fault-in-Err.ensures.status)
