use Rattle.std.proofs.Common.{◌≡◌, ℕ, ◌+◌, ◌<◌, [], ◌∷◌, ◌++◌, length, map, get_or, refl, ap, sym, ◌∙◌, arith, rules}
use Rattle.std.specs.Prelude.{nat_lt}
use Rattle.std.proofs.lemmas.Bool.{lt-ltb}
use Rattle.std.proofs.lemmas.List.{get_or-map, length-set, length-map, length-append}
use Rattle.dmc_ledger.specs.Bundles.{ClientSide, client_side, grant_holdings}
use Rattle.dmc_shared.proofs.PlaceLemmas.{done_below, rest_below, left_by_pop, taken_by_pop}
use Rattle.dmc_book.specs.BookState.{no_desk, no_unit}
use Rattle.dmc_book.specs.Counts.{one_if}
use Rattle.dmc_book.specs.Settling.{IsDeskTakenIn, amounts_in}
use Rattle.dmc_book.proofs.SettlingLemmas.{unit_past}
use Rattle.dmc_book.proofs.settled.take_units.Goals as goal

pub loop-unit-init : goal.loop-unit-init
loop-unit-init g c =
    let all = map (grant_holdings {S = g.row.S.Denot}) c.args.units.items in
    let many : length all ≡ length c.args.units.items = length-map c.args.units.items (grant_holdings {S = g.row.S.Denot}) in
    record {
      fewer = omega arith;
      fits = omega (arith, many, c.requires.within, length-map c.args.desks.now (client_side {S = g.row.S.Denot}));
      as_many = refl;
      same = λ k h. refl;
      rest = λ k h. refl;
      done = λ k from inside. unit_past all k (get_or (map client_side c.args.desks.now) k no_desk) (omega (arith, from, many));
    }

pub take_unit-requires : goal.take_unit-requires
take_unit-requires g c =
    let i = c.len-i.result in
    let left : c.loop-unit.units.items ≡ c.pop.new.self.items ++ c.in-Some.unit ∷ [] = c.in-Some.ensures.items in
    let at : i ≡ length c.pop.new.self.items = search rules in
    let more : i < length c.loop-unit.units.items = rw left (omega (arith, at, length-append c.pop.new.self.items (c.in-Some.unit ∷ []))) in
    let t : get_or (map (grant_holdings {S = g.row.S.Denot}) c.args.units.items) i no_unit ≡ grant_holdings c.in-Some.unit =
    sym (c.loop-unit.invariant.same i more) ∙ taken_by_pop grant_holdings no_unit _ _ c.in-Some.unit i left at in
    let d : get_or (map (client_side {S = g.row.S.Denot}) c.args.desks.now) i no_desk ≡ client_side (get_or c.loop-unit.desks i c.index-desks-i.result) =
    sym (c.loop-unit.invariant.rest i more) ∙ get_or-map client_side c.loop-unit.desks i c.index-desks-i.result no_desk (omega (arith, more, c.loop-unit.invariant.fits, c.loop-unit.invariant.as_many)) in
    let within : i < length (map (grant_holdings {S = g.row.S.Denot}) c.args.units.items) = omega (arith, more, c.loop-unit.invariant.fewer, length-map c.args.units.items (grant_holdings {S = g.row.S.Denot})) in
    rw (t, d) at (c.requires.each i within)

pub loop-unit-preserved : goal.loop-unit-preserved
loop-unit-preserved g c =
    let i = c.len-i.result in
    let left : c.loop-unit.units.items ≡ c.pop.new.self.items ++ c.in-Some.unit ∷ [] = c.in-Some.ensures.items in
    let at : i ≡ length c.pop.new.self.items = search rules in
    let long : length c.loop-unit.units.items ≡ i + 1 = rw left (omega (arith, at, length-append c.pop.new.self.items (c.in-Some.unit ∷ []))) in
    let start = map (client_side {S = g.row.S.Denot}) c.args.desks.now in
    let all = map (grant_holdings {S = g.row.S.Denot}) c.args.units.items in
    let t : get_or all i no_unit ≡ grant_holdings c.in-Some.unit =
    sym (c.loop-unit.invariant.same i (omega (arith, long))) ∙ taken_by_pop grant_holdings no_unit _ _ c.in-Some.unit i left at in
    let d : get_or start i no_desk ≡ client_side (get_or c.loop-unit.desks i c.index-desks-i.result) =
    sym (c.loop-unit.invariant.rest i (omega (arith, long))) ∙ get_or-map client_side c.loop-unit.desks i c.index-desks-i.result no_desk (omega (arith, long, c.loop-unit.invariant.fits, c.loop-unit.invariant.as_many)) in
    let one : one_if (nat_lt i (length all)) ≡ 1 = ap one_if (lt-ltb i (length all) (omega (arith, long, c.loop-unit.invariant.fewer, length-map c.args.units.items (grant_holdings {S = g.row.S.Denot})))) in
    let here : IsDeskTakenIn (one_if (nat_lt i (length all))) (amounts_in (get_or all i no_unit).reservation) (amounts_in (get_or all i no_unit).priority) (get_or start i no_desk) (client_side c.take_unit.new.desk) = rw (one, t, d) c.take_unit.ensures in
    record {
      fewer = omega (arith, at, long, c.loop-unit.invariant.fewer);
      fits = omega (arith, at, long, c.loop-unit.invariant.fits);
      as_many = length-set c.loop-unit.desks i c.take_unit.new.desk ∙ c.loop-unit.invariant.as_many;
      same = λ k h. left_by_pop grant_holdings no_unit _ _ c.in-Some.unit left k h ∙ c.loop-unit.invariant.same k (omega (arith, at, long));
      rest = λ k h. rest_below client_side no_desk start c.loop-unit.desks i c.take_unit.new.desk
          (λ j below. c.loop-unit.invariant.rest j (omega (arith, long))) k (omega (arith, at));
      done = λ k from inside. done_below client_side no_desk
          (λ (j : ℕ) (x : ClientSide). IsDeskTakenIn (one_if (nat_lt j (length all))) (amounts_in (get_or all j no_unit).reservation) (amounts_in (get_or all j no_unit).priority) (get_or start j no_desk) x)
          c.loop-unit.desks i (length c.args.desks.now) c.take_unit.new.desk (omega (arith, long, c.loop-unit.invariant.fits, c.loop-unit.invariant.as_many))
          (λ j above within. c.loop-unit.invariant.done j (omega (arith, long)) within) here k (omega (arith, at)) inside;
    }
