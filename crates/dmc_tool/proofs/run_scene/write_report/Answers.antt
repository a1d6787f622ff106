use Rattle.std.proofs.Common.{rules, ◌∙◌, ap, length, refl}
use Rattle.dmc_tool.specs.ReportTexts.{report_text}
use Rattle.dmc_tool.proofs.VerdictRows.{as_many}
use Rattle.dmc_tool.proofs.run_scene.write_report.Goals as goal

pub report_text-requires : goal.report_text-requires
report_text-requires g c =
    ap length c.deref-2.ensures.value ∙ as_many g.T.Tag.ops c.config.result c.args.report.now.servers.items c.in_ok-verdicts.verdicts.items (search rules)

pub returns-then-not-send-clause-bytes : goal.returns-then-not-send-clause-bytes
returns-then-not-send-clause-bytes g c =
    let text = report_text c.has_costs.result c.args.report.now c.in_ok-verdicts.verdicts.items in (
      text,
      record { verdicts = c.in_ok-verdicts.verdicts.items; theirs = rw (← c.config.ensures) (search rules); text_is = rw (← c.has_costs.ensures) refl },
      search rules,
    )

pub returns-clause-bytes : goal.returns-clause-bytes
returns-clause-bytes g c =
    let text = report_text c.has_costs.result c.args.report.now c.in_ok-verdicts.verdicts.items in (
      text,
      record { verdicts = c.in_ok-verdicts.verdicts.items; theirs = rw (← c.config.ensures) (search rules); text_is = rw (← c.has_costs.ensures) refl },
      search rules,
    )
