use Rattle.std.proofs.Common.{◌≡◌, ◌<◌, length, refl, sym, ap, ◌∙◌, rules}
use Rattle.std.proofs.lemmas.Simd.{map-map}
use Rattle.dmc_ledger.specs.Bundles.{ClientSide, client_side}
use Rattle.dmc_ledger.specs.declared.desk.ClientDesk.{ClientDesk}
use Rattle.dmc_scene.specs.SceneValue.{ClientValue}
use Rattle.dmc_settle.proofs.Lists.{alike_at, alike_all, differ}
use Rattle.dmc_settle.proofs.checks.are_desks_of.Goals as goal

pub returns-then-ne : goal.returns-then-ne
returns-then-ne g c =
    let i = c.loop-i.i in
    let f : ClientDesk g.row.S.Denot → ClientSide = client_side in
    let within : i < length c.args.clients.now = search rules in (
      (λ e. cc),
      (λ same. absurd (differ _ _ (sym c.ne.ensures ∙ c.if-ne.true)
          (alike_at (λ (d : ClientDesk g.row.S.Denot). d.client.0) (λ (x : ClientValue). x.id.0) c.args.desks.now c.args.clients.now i c.index-desks-i.result c.index-clients-i.result c.loop-i-test.true within
          (sym (map-map (λ (d : ClientSide). d.client) f c.args.desks.now) ∙ same)
          ∙ ap (λ (x : ClientValue). x.id.0) (sym c.index-clients-i.is) ∙ ap (λ x. x.0) (sym c.id.ensures)))),
    )

pub returns : goal.returns
returns g c =
    let f : ClientDesk g.row.S.Denot → ClientSide = client_side in
    let long : length c.args.desks.now ≡ c.loop-i.i = search rules in
    let long_too : length c.args.clients.now ≡ c.loop-i.i = search rules in (
      (λ e. map-map (λ (d : ClientSide). d.client) f c.args.desks.now
          ∙ alike_all (λ (d : ClientDesk g.row.S.Denot). d.client.0) (λ (x : ClientValue). x.id.0) c.args.desks.now c.args.clients.now c.loop-i.i long long_too c.loop-i.invariant),
      (λ same. refl),
    )
