use Rattle.std.proofs.Common.{◌≡◌, ℕ, ◌+◌, ◌<◌, ◌≤◌, length, map, take, get_or, [], ◌∷◌, ◌++◌, sym, ap, ◌∙◌, subst, arith, rules}
use Rattle.std.specs.Prelude.{vec_capacity}
use Rattle.std.proofs.lemmas.List.{append_assoc, ext_get_or, get_or-map, length-map, length-set, map-append, map_more, take_all}
use Rattle.dmc_ledger.specs.Bundles.{ClientSide, client_side, grant_holdings}
use Rattle.dmc_ledger.specs.declared.desk.ClientDesk.{ClientDesk}
use Rattle.dmc_shared.proofs.PlaceLemmas.{done_more, rest_more}
use Rattle.dmc_book.specs.BookState.{no_desk}
use Rattle.dmc_book.specs.Opening.{desk_with_tills, new_unit}
use Rattle.dmc_book.specs.internal.Opening.{HaveRoom}
use Rattle.dmc_book.proofs.opening.open_units.Goals as goal

pub open_unit-unit-requires : goal.open_unit-unit-requires
open_unit-unit-requires g c =
    let i = c.loop-i.i in
    let at = get_or-map client_side c.loop-i.desks i c.index-desks-i.result no_desk (omega arith) in
    subst (λ (d : ClientSide). HaveRoom d.books) (sym (c.loop-i.invariant.rest i (omega arith)) ∙ at) (c.requires.some_left i (omega arith))

pub loop-i-preserved : goal.loop-i-preserved
loop-i-preserved g c =
    let i = c.loop-i.i in
    let start = map (client_side {S = g.row.S.Denot}) c.args.desks.now in
    let at : client_side (get_or c.loop-i.desks i c.index-desks-i.result) ≡ get_or start i no_desk =
    sym (get_or-map client_side c.loop-i.desks i c.index-desks-i.result no_desk (omega arith)) ∙ c.loop-i.invariant.rest i (omega arith) in
    let room : length c.args.units.now.items + length c.args.desks.now ≤ vec_capacity c.push.new.self = search rules in
    let one_more : length c.push.new.self.items ≡ length c.args.units.now.items + (i + 1) = search rules in
    let old = map (grant_holdings {S = g.row.S.Denot}) c.args.units.now.items in
    let inside : i < length start = omega (arith, length-map c.args.desks.now (client_side {S = g.row.S.Denot})) in
    let pushed : c.push.new.self.items ≡ c.loop-i.units.items ++ c.open_unit-unit.result ∷ [] = search rules in
    record {
      room = room;
      as_many = length-set c.loop-i.desks i c.open_unit-unit.new.desk ∙ c.loop-i.invariant.as_many;
      a_unit_each = one_more;
      done = done_more client_side no_desk (λ (k : ℕ) (d : ClientSide). d ≡ desk_with_tills 1 (get_or start k no_desk)) c.loop-i.desks i
          c.open_unit-unit.new.desk (omega arith) c.loop-i.invariant.done (c.open_unit-unit.ensures.desk ∙ ap (desk_with_tills 1) at);
      rest = rest_more client_side no_desk start c.loop-i.desks i c.open_unit-unit.new.desk c.loop-i.invariant.rest;
      its = ap (map grant_holdings) pushed ∙ map-append grant_holdings c.loop-i.units.items (c.open_unit-unit.result ∷ []) ∙ ap (λ us. us ++ grant_holdings c.open_unit-unit.result ∷ []) c.loop-i.invariant.its
          ∙ append_assoc old (map new_unit (take i start)) (grant_holdings c.open_unit-unit.result ∷ [])
          ∙ ap (λ us. old ++ us) (ap (λ u. map new_unit (take i start) ++ u ∷ []) (c.open_unit-unit.ensures.unit ∙ ap new_unit at) ∙ sym (map_more new_unit start i no_desk inside));
    }

pub returns-clause-desks : goal.returns-clause-desks
returns-clause-desks g c =
    let f : ClientDesk g.row.S.Denot → ClientSide = client_side in
    let start = map f c.args.desks.now in
    let long : length (map f c.loop-i.desks) ≡ length start = length-map c.loop-i.desks f ∙ c.loop-i.invariant.as_many ∙ sym (length-map c.args.desks.now f) in
    ext_get_or no_desk (map f c.loop-i.desks) (map (desk_with_tills 1) start) (long ∙ sym (length-map start (desk_with_tills 1)))
    (λ k inside.
    let within : k < length start = omega (arith, long) in
    c.loop-i.invariant.done k (omega (arith, within, length-map c.args.desks.now f))
    ∙ sym (get_or-map (desk_with_tills 1) start k no_desk no_desk within))

pub returns-clause-units : goal.returns-clause-units
returns-clause-units g c =
    let f : ClientDesk g.row.S.Denot → ClientSide = client_side in
    let start = map f c.args.desks.now in
    let all = take_all c.loop-i.i start (omega (arith, length-map c.args.desks.now f)) in
    c.loop-i.invariant.its ∙ ap (λ ds. map grant_holdings c.args.units.now.items ++ map new_unit ds) all
