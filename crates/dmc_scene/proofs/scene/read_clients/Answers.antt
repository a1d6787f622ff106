use Rattle.std.proofs.Common.{◌≡◌, ◌∷◌, [], ◌++◌, Some, None, sym, ◌∙◌, rules}
use Rattle.toml.specs.Data.{as_table}
use Rattle.toml.specs.View.{view, table_view}
use Rattle.dmc_lemmas.proofs.Options.{err_is}
use Rattle.dmc_scene.proofs.TableLemmas.{tables_in-drop, read_more, read_none, client_fault, read_to_end}
use Rattle.dmc_scene.proofs.scene.read_clients.Goals as goal
use Rattle.dmc_scene.proofs.scene.read_clients.Goals.{in-Some+in_ok-client, in_default}

pub loop-value-preserved : goal.loop-value-preserved
loop-value-preserved c =
    let all = c.args.values.now in
    let index = c.loop-value.value-index in
    let clients = c.loop-value.clients in
    let next = tables_in-drop all index c.value-item.result c.loop-value-test.true c.value-item.is in
    elim c.match-as_table.branch [
      | in-Some+in_ok-client w ↦
          let added : w.push.new.self.items ≡ clients.items ++ w.in_ok-client.client ∷ [] = search rules in
          let found : as_table (view c.value-item.result) ≡ Some (table_view w.in-Some.table.now) = sym w.in-Some.ensures in
          let read = rw w.as_slice.ensures.value at w.in_ok-client.ensures.value in
          let fresh = rw w.as_slice.ensures.value at w.in_ok-client.ensures.fresh in
          rw (w.clients-is, added)
          (read_more c.args.tags c.args.hz all index clients.items _ _ w.in_ok-client.client (table_view w.in-Some.table.now)
          c.loop-value.invariant w.push.ensures.capacity c.loop-value-test.true (next ∙ rw found) (sym read) fresh w.in_ok-client.ensures.spaced)
      | in_default w ↦
          let found : as_table (view c.value-item.result) ≡ None = sym w.in_default.ensures in
          rw w.clients-is (read_none c.args.tags c.args.hz all index clients.items _ c.loop-value.invariant c.loop-value-test.true (next ∙ rw found))
    ]

pub returns-in_err-client-clause-fault : goal.returns-in_err-client-clause-fault
returns-in_err-client-clause-fault c =
    let all = c.args.values.now in
    let index = c.loop-value.value-index in
    let table = table_view c.in-Some.table.now in
    let found : as_table (view c.value-item.result) ≡ Some table = sym c.in-Some.ensures in
    let next = tables_in-drop all index c.value-item.result c.loop-value-test.true c.value-item.is ∙ rw found in
    let read = rw c.as_slice.ensures.value at c.in_err-client.ensures.value in
    rw (err_is _ _ c.from_residual-in_err-client.ensures.1)
    (λ other. client_fault c.args.tags c.args.hz all index c.loop-value.clients.items _ table _ c.loop-value.invariant next (sym read))

pub returns-clause-ok : goal.returns-clause-ok
returns-clause-ok c = (read_to_end _ _ _ _ _ _ c.loop-value.invariant c.loop-value-test.false).0

pub returns-clause-len : goal.returns-clause-len
returns-clause-len c = (read_to_end _ _ _ _ _ _ c.loop-value.invariant c.loop-value-test.false).1
