use Rattle.std.proofs.Common.{eqb, map, take, sym, ap, ◌∙◌}
use Rattle.indexmap.specs.IndexSet.{insert_key}
use Rattle.dmc_types.specs.declared.ids.ClientId.{ClientId}
use Rattle.dmc_scene.specs.SceneValue.{ClientValue}
use Rattle.dmc_core.proofs.Opened.{fresh, key_more, take_one_more}
use Rattle.dmc_core.proofs.ids.ids_of.Goals as goal

pub loop-client-preserved : goal.loop-client-preserved
loop-client-preserved c =
    let cs = c.args.clients.now in
    let i = c.loop-client.client-index in
    let x = c.client-item.result in
    let others = fresh cs i x c.requires c.loop-client-test.true c.client-item.is in
    c.in_ok-insert.ensures.keys
    ∙ ap (insert_key (λ (a b : ClientId). eqb a.0 b.0) c.loop-client.ids.keys) c.id.ensures
    ∙ key_more (map (λ (k : ClientValue). k.id) (take i cs)) c.loop-client.ids.keys x.id others c.loop-client.invariant
    ∙ sym (take_one_more (λ (k : ClientValue). k.id) cs i x c.loop-client-test.true c.client-item.is)
