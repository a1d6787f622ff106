use Rattle.std.proofs.Common.{◌≡◌, ℕ, ◌+◌, ◌<◌, ◌≤◌, length, map, get_or, [], ◌∷◌, ◌++◌, sym, ap, ◌∙◌, subst, arith, rules}
use Rattle.std.specs.Prelude.{vec_capacity}
use Rattle.std.proofs.lemmas.List.{ext_get_or, get_or-map, length-map, length-set}
use Rattle.dmc_ledger.specs.Bundles.{ServerSide, StampHoldings, server_side, stamp_holdings}
use Rattle.dmc_ledger.specs.declared.bundle.StampTills.{StampTills}
use Rattle.dmc_ledger.specs.declared.desk.ServerDesk.{ServerDesk}
use Rattle.dmc_ledger.specs.Moves.{new_tills}
use Rattle.dmc_tlock.specs.BookState.{no_side, no_tills}
use Rattle.dmc_tlock.specs.Opening.{side_after_opening}
use Rattle.dmc_tlock.specs.internal.Opening.{IsOneTill}
use Rattle.dmc_shared.proofs.PlaceLemmas.{done_more, rest_more, push_more}
use Rattle.dmc_tlock.proofs.pass.open_pass.Goals as goal

pub open_desk-opened-requires : goal.open_desk-opened-requires
open_desk-opened-requires g c =
    let i = c.loop-i.i in
    let at = get_or-map server_side c.loop-i.desks i c.index-desks-i.result no_side (omega arith) in
    subst (λ (d : ServerSide). IsOneTill d.books) (sym (c.loop-i.invariant.rest i (omega arith)) ∙ at) (c.requires.one i (omega arith))

pub loop-i-preserved : goal.loop-i-preserved
loop-i-preserved g c =
    let i = c.loop-i.i in
    let start = map (server_side {S = g.row.S.Denot}) c.args.desks.now in
    let at : server_side (get_or c.loop-i.desks i c.index-desks-i.result) ≡ get_or start i no_side =
    sym (get_or-map server_side c.loop-i.desks i c.index-desks-i.result no_side (omega arith)) ∙ c.loop-i.invariant.rest i (omega arith) in
    let room : length c.args.desks.now ≤ vec_capacity c.push.new.self = search rules in
    let one_more : length c.push.new.self.items ≡ i + 1 = search rules in
    let pushed : c.push.new.self.items ≡ c.loop-i.tills.items ++ c.open_desk-opened.result ∷ [] = search rules in
    record {
      room = room;
      as_many = length-set c.loop-i.desks i c.open_desk-opened.new.desk ∙ c.loop-i.invariant.as_many;
      a_till_each = one_more;
      done = done_more server_side no_side (λ (k : ℕ) (d : ServerSide). d ≡ side_after_opening (get_or start k no_side)) c.loop-i.desks i
          c.open_desk-opened.new.desk (omega arith) c.loop-i.invariant.done (c.open_desk-opened.ensures.desk ∙ ap side_after_opening at);
      rest = rest_more server_side no_side start c.loop-i.desks i c.open_desk-opened.new.desk c.loop-i.invariant.rest;
      its = rw pushed (push_more stamp_holdings no_tills (λ (k : ℕ) (t : StampHoldings). t ≡ new_tills (get_or start k no_side).books) c.loop-i.tills.items i
          c.open_desk-opened.result c.loop-i.invariant.a_till_each c.loop-i.invariant.its (c.open_desk-opened.ensures.tills ∙ ap (λ (d : ServerSide). new_tills d.books) at));
    }

pub returns-clause-desks : goal.returns-clause-desks
returns-clause-desks g c =
    let f : ServerDesk g.row.S.Denot → ServerSide = server_side in
    let start = map f c.args.desks.now in
    let long : length (map f c.loop-i.desks) ≡ length start = length-map c.loop-i.desks f ∙ c.loop-i.invariant.as_many ∙ sym (length-map c.args.desks.now f) in
    ext_get_or no_side (map f c.loop-i.desks) (map side_after_opening start) (long ∙ sym (length-map start side_after_opening))
    (λ k inside.
    let within : k < length start = omega (arith, long) in
    c.loop-i.invariant.done k (omega (arith, within, length-map c.args.desks.now f))
    ∙ sym (get_or-map side_after_opening start k no_side no_side within))

pub returns-clause-tills : goal.returns-clause-tills
returns-clause-tills g c =
    let f : ServerDesk g.row.S.Denot → ServerSide = server_side in
    let t : StampTills g.row.S.Denot → StampHoldings = stamp_holdings in
    let move : ServerSide → StampHoldings = λ d. new_tills d.books in
    let start = map f c.args.desks.now in
    let items = c.loop-i.tills.items in
    let long : length (map t items) ≡ length start = length-map items t ∙ omega (arith, c.loop-i.invariant.a_till_each, length-map c.args.desks.now f) in
    ext_get_or no_tills (map t items) (map move start) (long ∙ sym (length-map start move))
    (λ k inside.
    let within : k < length start = omega (arith, long) in
    c.loop-i.invariant.its k (omega (arith, within, length-map c.args.desks.now f))
    ∙ sym (get_or-map move start k no_side no_tills within))
