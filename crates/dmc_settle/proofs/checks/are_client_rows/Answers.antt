use Rattle.std.proofs.Common.{◌<◌, length, sym, ap, ◌∙◌, rules}
use Rattle.dmc_settle.specs.declared.report.ClientReport.{ClientReport}
use Rattle.dmc_scene.specs.SceneValue.{ClientValue}
use Rattle.dmc_settle.proofs.Lists.{alike_at, differ}
use Rattle.dmc_settle.proofs.checks.are_client_rows.Goals as goal

pub returns-then-ne : goal.returns-then-ne
returns-then-ne c =
    let i = c.loop-i.i in
    let within : i < length c.args.clients.now = search rules in (
      (λ e. cc),
      (λ same. absurd (differ _ _ (sym c.ne.ensures ∙ c.if-ne.true)
          (ap (λ x. x.0) (alike_at (λ (r : ClientReport). r.client) (λ (x : ClientValue). x.id) c.args.rows.now c.args.clients.now i _ c.index-clients-i.result c.loop-i-test.true within same
          ∙ ap (λ (x : ClientValue). x.id) (sym c.index-clients-i.is) ∙ sym c.id.ensures)))),
    )
