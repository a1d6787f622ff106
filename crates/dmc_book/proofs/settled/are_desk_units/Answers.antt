use Rattle.std.proofs.Common.{ℕ, ◌<◌, length, map, get_or, arith, rules, below_more}
use Rattle.std.proofs.lemmas.List.{get_or-map, length-map}
use Rattle.dmc_ledger.specs.Bundles.{grant_holdings, client_side}
use Rattle.dmc_book.specs.BookState.{no_desk, no_unit}
use Rattle.dmc_book.specs.Settling.{AreDeskUnits, AreUnitsOf}
use Rattle.dmc_book.proofs.settled.are_desk_units.Goals as goal

pub returns-then-not-are_units_of : goal.returns-then-not-are_units_of
returns-then-not-are_units_of g c =
    let i = c.loop-i.i in
    let units = c.args.units.now in
    let desks = c.args.desks.now in
    let t = get_or-map grant_holdings units i c.index-units-i.result no_unit (omega arith) in
    let d = get_or-map client_side desks i c.index-desks-i.result no_desk (omega arith) in
    let others : AreUnitsOf (grant_holdings (get_or units i c.index-units-i.result)) (client_side (get_or desks i c.index-desks-i.result)).books → ⊥ = search rules in
    let within : i < length (map (grant_holdings {S = g.row.S.Denot}) units) = omega (arith, length-map units (grant_holdings {S = g.row.S.Denot})) in
    ((λ e. cc), λ (own : AreDeskUnits (map client_side desks) (map grant_holdings units)). absurd (others (rw (t, d) at (own.each i within))))

pub loop-i-preserved : goal.loop-i-preserved
loop-i-preserved g c =
    let i = c.loop-i.i in
    let units = c.args.units.now in
    let desks = c.args.desks.now in
    let t = get_or-map grant_holdings units i c.index-units-i.result no_unit (omega arith) in
    let d = get_or-map client_side desks i c.index-desks-i.result no_desk (omega arith) in
    let of : AreUnitsOf (grant_holdings (get_or units i c.index-units-i.result)) (client_side (get_or desks i c.index-desks-i.result)).books = search rules in
    below_more (λ (k : ℕ). AreUnitsOf (get_or (map grant_holdings units) k no_unit) (get_or (map client_side desks) k no_desk).books) i c.loop-i.invariant (rw (t, d) of)
