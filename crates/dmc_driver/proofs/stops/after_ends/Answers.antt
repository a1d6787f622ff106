use Rattle.std.proofs.Common.{◌+◌, ◌++◌, None, take, drop, get_or, sym, ap, ◌∙◌}
use Rattle.dmc_driver.specs.Stops.{causes, listed}
use Rattle.dmc_driver.proofs.WalkLemmas.{ends_after, ends_more, rest_more, rest_other}
use Rattle.dmc_driver.proofs.stops.after_ends.Goals as goal

pub loop-end-preserved : goal.loop-end-preserved
loop-end-preserved c =
    let i = c.loop-end.end-index in
    let ends = c.args.ends.now in
    let here = listed (get_or ends i None) in
    rest_more c.args.stops.now (causes (take i ends)) here c.loop-end.rest.now c.in_ok-rest.rest.now c.loop-end.invariant c.in_ok-rest.ensures
    ∙ ap (λ xs. xs ++ c.in_ok-rest.rest.now) (sym (ends_more ends i None c.loop-end-test.true))

pub returns-in_err-rest : goal.returns-in_err-rest
returns-in_err-rest c = rw c.from_residual.ensures (λ after is.
    let i = c.loop-end.end-index in
    let ends = c.args.ends.now in
    let here = listed (get_or ends i None) in
    let more = causes (drop (i + 1) ends) in
    rest_other c.args.stops.now (causes (take i ends)) here more c.loop-end.rest.now c.loop-end.invariant c.in_err-rest.ensures after
    (is ∙ ap (λ xs. xs ++ after) (ends_after ends (i + 1) ∙ ap (λ xs. xs ++ more) (ends_more ends i None c.loop-end-test.true))))
