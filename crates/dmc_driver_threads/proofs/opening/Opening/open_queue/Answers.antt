use Rattle.std.proofs.Common.{◌≡◌, List, length, drop, sym, ap, ◌∙◌, subst, arith}
use Rattle.dmc_lemmas.proofs.Lists.{lent_back}
use Rattle.dmc_book.specs.declared.pass.WorkerPass.{WorkerPass}
use Rattle.dmc_driver_threads.specs.internal.Books.{IsFirstEnrolled}
use Rattle.dmc_driver_threads.proofs.opening.Opening.open_queue.Goals as goal

pub register_all-requires-clause-first : goal.register_all-requires-clause-first
register_all-requires-clause-first g c =
    subst (λ (ps : List (WorkerPass g.row.S.Denot)). IsFirstEnrolled c.in_ok-book.book.workers ps) (sym c.deref_mut.ensures.value) c.in_ok-book.ensures.first

pub returns-in_ok-push_queue-in-Ok-clause-passes : goal.returns-in_ok-push_queue-in-Ok-clause-passes
returns-in_ok-push_queue-in-Ok-clause-passes g c =
    let old = c.in_ok-book.passes in
    let new = c.register_all.new.passes in
    let lent : length c.deref_mut.result.now ≡ length old.items = ap (λ (ps : List (WorkerPass g.row.S.Denot)). length ps) c.deref_mut.ensures.value in
    let as_many : length new ≡ length old.items = omega (arith, c.register_all.auto.passes, lent) in
    let back = lent_back new (drop (length new) old.items) old.len (as_many ∙ sym old.ok.0) in
    rw back (omega (arith, as_many, c.in_ok-book.ensures.passes))
