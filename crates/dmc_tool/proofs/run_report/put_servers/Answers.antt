use Rattle.std.proofs.Common.{rules, ◌≡◌, ◌++◌, take, get_or, ◌∙◌, ap, sym}
use Rattle.std.specs.Prelude.{string_bytes}
use Rattle.std.proofs.lemmas.List.{append_assoc}
use Rattle.dmc_check.specs.declared.check.Verdict.TheVariants.{Replays}
use Rattle.dmc_tool.specs.ReportTexts.{server_line, server_lines}
use Rattle.dmc_tool.proofs.VerdictRows.{lines_more}
use Rattle.dmc_tool.proofs.run_report.put_servers.Goals as goal

pub loop-i-preserved : goal.loop-i-preserved
loop-i-preserved g c =
    let more = lines_more c.args.rows.now c.args.verdicts.now c.loop-i.i c.index-rows-i.result Replays (search rules) (search rules) in
    let fn = string_bytes c.args.text.now in
    let before = server_lines (take c.loop-i.i c.args.rows.now) (take c.loop-i.i c.args.verdicts.now) in
    let line = server_line (get_or c.args.rows.now c.loop-i.i c.index-rows-i.result) (get_or c.args.verdicts.now c.loop-i.i Replays) in
    let now : string_bytes c.put_server.new.text ≡ string_bytes c.loop-i.text ++ line = search rules in
    now ∙ ap (λ t. t ++ line) c.loop-i.invariant ∙ append_assoc fn before line ∙ ap (λ t. fn ++ t) (sym more)
