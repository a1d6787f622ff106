use Rattle.std.proofs.Common.{◌≡◌, ◌∙◌, List, length, map, subst, refl, arith, rules}
use Rattle.std.specs.List.{AllByRecursion}
use Rattle.std.proofs.lemmas.List.{take_all, length-map}
use Rattle.dmc_ledger.specs.Bundles.{client_side}
use Rattle.dmc_book.specs.BookState.{PassState, pass_state, worker_side}
use Rattle.dmc_book.specs.Settling.{AreOwn, IsOwn, open_passes}
use Rattle.dmc_book.specs.declared.pass.WorkerPass.{WorkerPass}
use Rattle.dmc_book.proofs.SettlingLemmas.{all_more, all_there}
use Rattle.dmc_book.proofs.settled.are_own.Goals as goal

pub returns-then-not-is_own : goal.returns-then-not-is_own
returns-then-not-is_own g c =
    let x = c.pass-item.result in
    let P : PassState → Type 0 = IsOwn (map worker_side c.args.workers.now) (map client_side c.args.desks.now) in
    let others : P (pass_state x) → ⊥ = search rules in (
      (λ e. cc),
      λ (own : AreOwn (map worker_side c.args.workers.now) (map client_side c.args.desks.now) (map pass_state c.args.passes.now)).
          absurd (others (all_there P pass_state c.args.passes.now c.loop-pass.pass-index x c.loop-pass-test.true c.pass-item.is own.each)),
    )

pub loop-pass-preserved : goal.loop-pass-preserved
loop-pass-preserved g c =
    let x = c.pass-item.result in
    let P : PassState → Type 0 = IsOwn (map worker_side c.args.workers.now) (map client_side c.args.desks.now) in
    let its : P (pass_state x) = search rules in
    all_more P pass_state c.args.passes.now c.loop-pass.pass-index x c.loop-pass-test.true c.pass-item.is c.loop-pass.invariant its

pub returns : goal.returns
returns g c =
    let P : PassState → Type 0 = IsOwn (map worker_side c.args.workers.now) (map client_side c.args.desks.now) in
    let all = take_all c.loop-pass.pass-index c.args.passes.now (omega arith) in
    let each = subst (λ (ps : List (WorkerPass g.row.S.Denot)). AllByRecursion P (map pass_state ps)) all c.loop-pass.invariant in
    let as_many : length c.args.passes.now ≡ open_passes (map worker_side c.args.workers.now) = search rules in (
      (λ e. record { as_many = length-map c.args.passes.now (pass_state {S = g.row.S.Denot}) ∙ as_many; each = each }),
      (λ own. refl),
    )
