use Rattle.std.proofs.Common.{◌≡◌, ◌≤◌, ◌+◌, ◌-◌, ◌&&◌, suc, length, take, drop, sym, ap, ◌∙◌, arith, add-one, length-drop}
use Rattle.std.specs.List.{remove}
use Rattle.std.proofs.lemmas.List.{take_all}
use Rattle.std.proofs.lemmas.List.Folds.{list_all-append}
use Rattle.dmc_plain.specs.internal.Reductions.{are_reducible}
use Rattle.dmc_plain.proofs.requests.can_reduce_others.Given.{Over}
use Rattle.dmc_plain.proofs.requests.can_reduce_others.Goals.{After-can_reduce}
use Rattle.dmc_plain.proofs.requests.can_reduce_others.Goals as goal

-- the others are those in front, which the first call tests, and those behind
parts : (g : Over) (c : After-can_reduce g) → are_reducible g.T.Tag.ops c.args.amount (remove c.args.requests.now c.args.index)
    ≡ (c.can_reduce.result && are_reducible g.T.Tag.ops c.args.amount (drop (suc c.args.index) c.args.requests.now))
parts g c =
    let back = drop (suc c.args.index) c.args.requests.now in
    list_all-append _ (take c.args.index c.args.requests.now) back
    ∙ ap (λ b. b && are_reducible g.T.Tag.ops c.args.amount back) (sym c.can_reduce.ensures)

pub returns-then-can_reduce : goal.returns-then-can_reduce
returns-then-can_reduce g c =
    let all = are_reducible g.T.Tag.ops c.args.amount in
    let back = drop (suc c.args.index) c.args.requests.now in
    let short : length back ≤ length c.args.requests.now - suc c.args.index = omega (arith, length-drop (suc c.args.index) c.args.requests.now) in
    let same : take (length c.args.requests.now - (c.args.index + 1)) (drop (c.args.index + 1) c.args.requests.now) ≡ back = rw add-one (take_all _ back short) in
    let rest : c.can_reduce-then-can_reduce.result ≡ all back = c.can_reduce-then-can_reduce.ensures ∙ ap all same in
    rest ∙ sym (parts g (goal.at.returns-then-can_reduce g c).After-can_reduce ∙ ap (λ b. b && all back) c.if-can_reduce.true)
