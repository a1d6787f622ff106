use Rattle.std.proofs.Common.{◌≡◌, true, false, true≢false, map, refl, sym, subst, arith, rules}
use Rattle.std.specs.Prelude.{◌==◌}
use Rattle.std.specs.List.{list_any}
use Rattle.std.proofs.lemmas.List.{take_all}
use Rattle.dmc_types.specs.declared.ids.ClientId.{ClientId}
use Rattle.dmc_ledger.specs.Bundles.{ClientSide, client_side}
use Rattle.dmc_ledger.specs.declared.desk.ClientDesk.{ClientDesk}
use Rattle.std.specs.Prelude.{List}
use Rattle.dmc_book.specs.Opening.{AreApart}
use Rattle.dmc_book.proofs.OpeningLemmas.{client_more, client_twice}
use Rattle.dmc_book.proofs.opening.name_clients.Goals as goal

pub loop-desk-preserved : goal.loop-desk-preserved
loop-desk-preserved g c =
    let x = c.desk-item.result in
    let keys = c.loop-desk.names.keys in
    let none : list_any (λ (k : ClientId). x.client.0 == k.0) keys ≡ false = search rules in
    let more = client_more c.args.desks.now c.loop-desk.desk-index x c.loop-desk-test.true c.desk-item.is keys c.loop-desk.invariant.named _ c.loop-desk.invariant.apart none c.in_ok-insert.ensures.keys in
    record { named = more.0; apart = more.1 }

pub returns-then-not-branch-clause-apart : goal.returns-then-not-branch-clause-apart
returns-then-not-branch-clause-apart g c =
    let x = c.desk-item.result in
    let keys = c.loop-desk.names.keys in
    let some : list_any (λ (k : ClientId). x.client.0 == k.0) keys ≡ true = search rules in
    ((λ e. absurd (true≢false (sym e))), λ apart. absurd (client_twice c.args.desks.now c.loop-desk.desk-index x c.loop-desk-test.true c.desk-item.is keys c.loop-desk.invariant.named some apart))

pub returns-clause-apart : goal.returns-clause-apart
returns-clause-apart g c =
    let all = take_all c.loop-desk.desk-index c.args.desks.now (omega arith) in
    ((λ e. subst (λ (ds : List (ClientDesk g.row.S.Denot)). AreApart (λ (d : ClientSide). d.client) (map client_side ds)) all c.loop-desk.invariant.apart), λ a. refl)
