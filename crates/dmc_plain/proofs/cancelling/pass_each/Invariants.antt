use Rattle.std.proofs.Common.{◌≡◌, ◌++◌, take, drop}
use Rattle.dmc_tag.specs.Cancel.{charges_of, no_befores, befores_after}
use Rattle.dmc_plain.specs.internal.Passed.{passed}
use Rattle.dmc_plain.proofs.cancelling.pass_each.Given as goal

-- with the rest changed after what became of those before, all are changed
abbrev pub invariant-loop-request : goal.invariant-loop-request
invariant-loop-request g l =
    let ops = g.T.Tag.ops in
    let charged = charges_of ops l.counting l.spacings in
    (passed ops l.token charged no_befores l.initial.requests ≡ take l.request-index l.requests ++ passed ops l.token charged l.befores (drop l.request-index l.requests))
    × (befores_after ops l.token charged no_befores l.initial.requests ≡ befores_after ops l.token charged l.befores (drop l.request-index l.requests))
