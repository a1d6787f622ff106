use Rattle.std.proofs.Common.{◌≡◌, true, false, true≢false, refl, sym, subst, get_or, List, arith, rules}
use Rattle.std.specs.Prelude.{◌==◌}
use Rattle.std.specs.List.{list_any}
use Rattle.std.proofs.lemmas.List.{get_or_default, take_all}
use Rattle.dmc_types.specs.declared.ids.WorkerId.{WorkerId}
use Rattle.dmc_book.specs.Opening.{AreApart}
use Rattle.dmc_book.proofs.OpeningLemmas.{worker_more, worker_twice}
use Rattle.dmc_book.proofs.opening.are_apart.Goals.{After-insert}
use Rattle.dmc_book.proofs.opening.are_apart.Goals as goal

-- the worker of this turn
abbrev named : After-insert → WorkerId
named c = get_or c.args.workers.now c.loop-worker.worker-index (record { 0 = 0 })

is : (c : After-insert) → named c ≡ get_or c.args.workers.now c.loop-worker.worker-index (named c)
is c = get_or_default c.args.workers.now c.loop-worker.worker-index (record { 0 = 0 }) (named c) c.loop-worker-test.true

pub loop-worker-preserved : goal.loop-worker-preserved
loop-worker-preserved c =
    let a = (goal.at.loop-worker-preserved c).After-insert in
    let none : list_any (λ (k : WorkerId). (named a).0 == k.0) c.loop-worker.names.keys ≡ false = search rules in
    let more = worker_more c.args.workers.now c.loop-worker.worker-index (named a) c.loop-worker-test.true (is a) c.loop-worker.names.keys c.loop-worker.invariant.named
    _ c.loop-worker.invariant.apart none c.in_ok-insert.ensures.keys in
    record { named = more.0; apart = more.1 }

pub returns-then-not-branch : goal.returns-then-not-branch
returns-then-not-branch c =
    let a = (goal.at.returns-then-not-branch c).After-insert in
    let some : list_any (λ (k : WorkerId). (named a).0 == k.0) c.loop-worker.names.keys ≡ true = search rules in (
      (λ e. absurd (true≢false (sym e))),
      λ apart. absurd (worker_twice c.args.workers.now c.loop-worker.worker-index (named a) c.loop-worker-test.true (is a) c.loop-worker.names.keys c.loop-worker.invariant.named some apart),
    )

pub returns : goal.returns
returns c =
    let all = take_all c.loop-worker.worker-index c.args.workers.now (omega arith) in
    ((λ e. subst (λ (ws : List WorkerId). AreApart (λ (w : WorkerId). w.0) ws) all c.loop-worker.invariant.apart), λ a. refl)
