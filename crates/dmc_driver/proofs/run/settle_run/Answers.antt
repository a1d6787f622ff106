use Rattle.std.proofs.Common.{refl, inl, inr}
use Rattle.std.proofs.lemmas.Bool.{false≢true}
use Rattle.dmc_settle.specs.Left.{left_of, stops_of}
use Rattle.dmc_driver.proofs.SettledLemmas.{within_limits}
use Rattle.dmc_driver.proofs.run.settle_run.Goals as goal

pub returns-in-Ok-clause-settled : goal.returns-in-Ok-clause-settled
returns-in-Ok-clause-settled g c =
    let remains = c.args.remains in
    let left = left_of remains.books.items remains.trackers.items remains.passes (stops_of remains.report) in
    let limits = within_limits c.args.scene.now c.args.limits left c.requires.books c.requires.trackers
    (rw c.deref.ensures.value at c.keep_to_most.ensures) (rw c.deref-2.ensures.value at c.count_within.ensures) in
    let settled = rw c.deref_mut.ensures.value at c.in-Ok.ensures in
    inr (
      c.in-Ok.report,
      record {
        run = record {
          together = (settled.together.0 refl).0;
          circles = settled.circle;
          registered = λ k d within. (c.requires.books k d within).registered;
          within = limits;
          counted = rw c.deref-3.ensures.value at c.count_histories.ensures;
          consistent = rw c.deref-4.ensures.value at c.keep_consistent.ensures;
        };
        its = settled.its_report;
        report = settled.report;
      },
      rw c.deref-in-Ok.ensures.value at c.end.ensures.report,
    )

pub returns-clause-settled : goal.returns-clause-settled
returns-clause-settled g c =
    let settled = rw c.deref_mut.ensures.value at c.in-Err.ensures in
    inl ((λ together. false≢true (settled.together.1 (together, c.requires.rows))), refl)
