use Rattle.std.proofs.Common.{List, map, subst, refl, arith, rules}
use Rattle.std.specs.List.{AllByRecursion}
use Rattle.std.proofs.lemmas.List.{take_all}
use Rattle.dmc_book.specs.BookState.{WorkerSide, worker_side}
use Rattle.dmc_book.specs.Moves.{IsOpen}
use Rattle.dmc_book.specs.Rotating.{AreTokensLow}
use Rattle.dmc_book.specs.declared.seat.Seat.{Seat}
use Rattle.dmc_book.proofs.SettlingLemmas.{all_more, all_there}
use Rattle.dmc_book.proofs.seat.are_low.Goals as goal

abbrev IsLow : WorkerSide → Type 0
IsLow w = IsOpen w → AreTokensLow w.books

pub returns-then-not-is_low : goal.returns-then-not-is_low
returns-then-not-is_low g c =
    let x = c.seat-item.result in
    let high : IsLow (worker_side x) → ⊥ = search rules in
    (λ e. cc, λ all. absurd (high (all_there IsLow worker_side c.args.workers.now c.loop-seat.seat-index x c.loop-seat-test.true c.seat-item.is all)))

pub loop-seat-preserved : goal.loop-seat-preserved
loop-seat-preserved g c =
    let x = c.seat-item.result in
    let its : IsLow (worker_side x) = search rules in
    all_more IsLow worker_side c.args.workers.now c.loop-seat.seat-index x c.loop-seat-test.true c.seat-item.is c.loop-seat.invariant its

pub returns : goal.returns
returns g c =
    let all = take_all c.loop-seat.seat-index c.args.workers.now (omega arith) in
    (λ e. subst (λ (ws : List (Seat g.row.S.Denot)). AllByRecursion IsLow (map worker_side ws)) all c.loop-seat.invariant, λ all. refl)
