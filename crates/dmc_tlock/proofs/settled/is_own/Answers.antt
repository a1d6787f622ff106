use Rattle.std.proofs.Common.{ℕ, ◌<◌, length, map, get_or, arith, rules, below_more}
use Rattle.std.proofs.lemmas.List.{get_or-map, length-map}
use Rattle.dmc_ledger.specs.Bundles.{stamp_holdings, server_side}
use Rattle.dmc_ledger.specs.Moves.{AreOf}
use Rattle.dmc_tlock.specs.BookState.{no_side, no_tills}
use Rattle.dmc_tlock.specs.Settling.{IsOwn}
use Rattle.dmc_tlock.proofs.settled.is_own.Goals as goal

pub returns-then-not-are_of : goal.returns-then-not-are_of
returns-then-not-are_of g c =
    let i = c.loop-i.i in
    let tills = c.args.tills.now in
    let desks = c.args.desks.now in
    let t = get_or-map stamp_holdings tills i c.index-tills-i.result no_tills (omega arith) in
    let d = get_or-map server_side desks i c.index-desks-i.result no_side (omega arith) in
    let no : AreOf (stamp_holdings (get_or tills i c.index-tills-i.result)) (server_side (get_or desks i c.index-desks-i.result)).books → ⊥ = search rules in
    let within : i < length (map (server_side {S = g.row.S.Denot}) desks) = omega (arith, length-map desks (server_side {S = g.row.S.Denot})) in
    ((λ e. cc), λ (own : IsOwn (map stamp_holdings tills) (map server_side desks)). absurd (no (rw (t, d) at (own.each (record { 0 = i }) within))))

pub loop-i-preserved : goal.loop-i-preserved
loop-i-preserved g c =
    let i = c.loop-i.i in
    let tills = c.args.tills.now in
    let desks = c.args.desks.now in
    let t = get_or-map stamp_holdings tills i c.index-tills-i.result no_tills (omega arith) in
    let d = get_or-map server_side desks i c.index-desks-i.result no_side (omega arith) in
    let of : AreOf (stamp_holdings (get_or tills i c.index-tills-i.result)) (server_side (get_or desks i c.index-desks-i.result)).books = search rules in
    below_more (λ (k : ℕ). AreOf (get_or (map stamp_holdings tills) k no_tills) (get_or (map server_side desks) k no_side).books) i c.loop-i.invariant (rw (t, d) of)

pub loop-i-init : goal.loop-i-init
loop-i-init g c = search rules
