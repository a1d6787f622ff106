use Rattle.std.proofs.Common.{◌≡◌, ◌++◌, ◌∷◌, [], ◌∙◌, append_assoc, subst}
use Rattle.std.specs.Prelude.{OnOk, string_bytes}
use Rattle.dmc_sim.specs.Texts.{cost_words}
use Rattle.dmc_tool.specs.ReportTexts.{client_numbers}
use Rattle.dmc_tool.proofs.run_report.put_client.Goals as goal

pub returns : goal.returns
returns c =
    let old = string_bytes c.args.text.now in
    let numbers = client_numbers c.args.row.now in
    let cost = cost_words c.args.with_costs c.args.row.now.cost in
    subst (λ text. OnOk c.writeln.result (string_bytes c.writeln.new.self ≡ text))
    (append_assoc (old ++ numbers) cost (10 ∷ []) ∙ append_assoc old numbers (cost ++ 10 ∷ []))
    (rw (c.in_ok-put_cost.ensures, c.in_ok-put_numbers.ensures) at c.writeln.ensures.bytes)
