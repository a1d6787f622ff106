use Rattle.std.proofs.Common.{◌≡◌, ◌∙◌, true, false, true≢false, List, map, refl, sym, subst, arith, rules}
use Rattle.std.specs.Prelude.{◌==◌}
use Rattle.std.specs.List.{AllByRecursion}
use Rattle.std.proofs.lemmas.List.{take_all}
use Rattle.dmc_book.specs.BookState.{WorkerSide, worker_side}
use Rattle.dmc_book.specs.declared.seat.Seat.{Seat}
use Rattle.dmc_book.proofs.EnrollingLemmas.{none_seated, seated_unless}
use Rattle.dmc_book.proofs.SettlingLemmas.{all_more, all_there}
use Rattle.dmc_book.proofs.enrolling.is_seated.Goals as goal

pub loop-seat-init : goal.loop-seat-init
loop-seat-init g c = tt

pub returns-then-eq : goal.returns-then-eq
returns-then-eq g c =
    let n = c.args.worker.0 in
    let x = c.seat-item.result in
    let its : (n == x.worker.0) ≡ true = search rules in
    let seated = seated_unless n (map worker_side c.args.workers.now) (λ all. true≢false (sym its ∙ all_there (λ (w : WorkerSide). (n == w.worker) ≡ false) worker_side c.args.workers.now c.loop-seat.seat-index x c.loop-seat-test.true c.seat-item.is all)) in
    (λ e. seated, λ is. refl)

pub loop-seat-preserved : goal.loop-seat-preserved
loop-seat-preserved g c =
    let n = c.args.worker.0 in
    let x = c.seat-item.result in
    let other : (n == x.worker.0) ≡ false = search rules in
    all_more (λ (w : WorkerSide). (n == w.worker) ≡ false) worker_side c.args.workers.now c.loop-seat.seat-index x c.loop-seat-test.true c.seat-item.is c.loop-seat.invariant other

pub returns : goal.returns
returns g c =
    let n = c.args.worker.0 in
    let all = take_all c.loop-seat.seat-index c.args.workers.now (omega arith) in
    let none = none_seated n (map worker_side c.args.workers.now) (subst (λ (ws : List (Seat g.row.S.Denot)). AllByRecursion (λ (w : WorkerSide). (n == w.worker) ≡ false) (map worker_side ws)) all c.loop-seat.invariant) in
    (λ e. absurd (true≢false (sym e)), λ is. absurd (true≢false (sym is ∙ none)))
