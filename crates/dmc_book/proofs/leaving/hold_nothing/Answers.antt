use Rattle.std.proofs.Common.{List, map, subst, refl, arith, rules}
use Rattle.std.specs.List.{AllByRecursion}
use Rattle.std.proofs.lemmas.List.{take_all}
use Rattle.dmc_ledger.specs.Bundles.{grant_holdings}
use Rattle.dmc_ledger.specs.declared.bundle.GrantTills.{GrantTills}
use Rattle.dmc_book.specs.Leaving.{HoldsNothing}
use Rattle.dmc_book.proofs.SettlingLemmas.{all_more, all_there}
use Rattle.dmc_book.proofs.leaving.hold_nothing.Goals as goal

pub returns-then-not-holds_nothing : goal.returns-then-not-holds_nothing
returns-then-not-holds_nothing g c =
    let x = c.unit-item.result in
    let some : HoldsNothing (grant_holdings x) → ⊥ = search rules in
    (λ e. cc, λ all. absurd (some (all_there HoldsNothing grant_holdings c.args.units.now c.loop-unit.unit-index x c.loop-unit-test.true c.unit-item.is all)))

pub loop-unit-preserved : goal.loop-unit-preserved
loop-unit-preserved g c =
    let x = c.unit-item.result in
    let its : HoldsNothing (grant_holdings x) = search rules in
    all_more HoldsNothing grant_holdings c.args.units.now c.loop-unit.unit-index x c.loop-unit-test.true c.unit-item.is c.loop-unit.invariant its

pub returns : goal.returns
returns g c =
    let all = take_all c.loop-unit.unit-index c.args.units.now (omega arith) in
    (λ e. subst (λ (us : List (GrantTills g.row.S.Denot)). AllByRecursion HoldsNothing (map grant_holdings us)) all c.loop-unit.invariant, λ all. refl)
