use Rattle.std.proofs.Common.{◌+◌, ◌*◌, sym, ap, ◌∙◌, subst, arith}
use Rattle.std.proofs.lemmas.List.{get_or-map}
use Rattle.dmc_ledger.specs.Bundles.{ClientSide, client_side}
use Rattle.dmc_ledger.specs.declared.desk.ClientDesk.{ClientDesk}
use Rattle.dmc_book.specs.BookState.{no_desk}
use Rattle.dmc_settle.specs.internal.Filled.{AreFewGrants, AreWithin, with_desk}
use Rattle.dmc_settle.specs.declared.servers.Granted.{Granted}
use Rattle.dmc_settle.proofs.Granting.{granted_next, within_next, within_far}
use Rattle.dmc_settle.proofs.servers.sum_grants.Goals as goal

pub add_desk-granted-requires-clause-few : goal.add_desk-granted-requires-clause-few
add_desk-granted-requires-clause-few g c =
    let f : ClientDesk g.row.S.Denot → ClientSide = client_side in
    let d = c.desk-item.result in
    subst AreFewGrants (get_or-map f c.args.desks.now c.loop-desk.desk-index d no_desk c.loop-desk-test.true ∙ ap f (sym c.desk-item.is))
    (c.requires.few_grants c.loop-desk.desk-index c.loop-desk-test.true)

pub add_desk-granted-requires-clause-fits : goal.add_desk-granted-requires-clause-fits
add_desk-granted-requires-clause-fits g c = within_far c.loop-desk.desk-index c.loop-desk.granted (omega (arith, c.loop-desk-test.true, c.requires.few)) c.loop-desk.invariant.fits

pub loop-desk-preserved : goal.loop-desk-preserved
loop-desk-preserved g c =
    let f : ClientDesk g.row.S.Denot → ClientSide = client_side in
    let d = c.desk-item.result in
    let few = subst AreFewGrants (get_or-map f c.args.desks.now c.loop-desk.desk-index d no_desk c.loop-desk-test.true ∙ ap f (sym c.desk-item.is))
    (c.requires.few_grants c.loop-desk.desk-index c.loop-desk-test.true) in
    record {
      sums = c.add_desk-granted.ensures ∙ ap (λ (x : Granted). with_desk x (f d)) c.loop-desk.invariant.sums ∙ sym (granted_next c.args.desks.now c.loop-desk.desk-index d c.loop-desk-test.true c.desk-item.is);
      fits = subst (λ (x : Granted). AreWithin ((c.loop-desk.desk-index + 1) * 1073741824) x) (sym c.add_desk-granted.ensures) (within_next c.loop-desk.desk-index c.loop-desk.granted (f d) few c.loop-desk.invariant.fits);
    }
