use Rattle.std.proofs.Common.{◌≡◌, ℕ, ◌+◌, ◌<◌, [], ◌∷◌, ◌++◌, length, map, get_or, refl, sym, ap, ◌∙◌, arith}
use Rattle.std.proofs.lemmas.List.{ext_get_or, get_or-map, length-set, length-map, length-append}
use Rattle.dmc_ledger.specs.Bundles.{ServerSide, StampHoldings, server_side, stamp_holdings}
use Rattle.dmc_ledger.specs.declared.desk.ServerDesk.{ServerDesk}
use Rattle.dmc_ledger.specs.declared.bundle.StampTills.{StampTills}
use Rattle.dmc_tlock.specs.BookState.{no_side, no_tills}
use Rattle.dmc_ledger.specs.Moves.{AreWithin}
use Rattle.dmc_tlock.specs.Settling.{side_after_gather, held_of}
use Rattle.dmc_tlock.specs.declared.settled.StampsHeld.{StampsHeld}
use Rattle.dmc_shared.proofs.PlaceLemmas.{set_below, done_below, rest_below, one_below, left_by_pop, taken_by_pop}
use Rattle.dmc_tlock.proofs.settled.gather_pass.Goals as goal

pub gather_desk-requires : goal.gather_desk-requires
gather_desk-requires g c =
    let i = c.len-i.result in
    let left : c.loop-last.tills.items ≡ c.pop.new.self.items ++ c.in-Some.last ∷ [] = c.in-Some.ensures.items in
    let at : i ≡ length c.pop.new.self.items = c.len-i.ensures ∙ c.pop.new.self.ok.0 in
    let more : i < length c.loop-last.tills.items = rw left (omega (arith, at, length-append c.pop.new.self.items (c.in-Some.last ∷ []))) in
    let t : get_or (map (stamp_holdings {S = g.row.S.Denot}) c.args.tills.items) i no_tills ≡ stamp_holdings c.in-Some.last =
    sym (c.loop-last.invariant.same i more) ∙ taken_by_pop stamp_holdings no_tills _ _ c.in-Some.last i left at in
    let d : get_or (map (server_side {S = g.row.S.Denot}) c.args.desks.now) i no_side ≡ server_side (get_or c.loop-last.desks i c.index-desks-i.result) =
    sym (c.loop-last.invariant.rest i more) ∙ get_or-map server_side c.loop-last.desks i c.index-desks-i.result no_side (omega arith) in
    let within : i < length (map (server_side {S = g.row.S.Denot}) c.args.desks.now) = omega (arith, more, c.loop-last.invariant.fits, length-map c.args.desks.now (server_side {S = g.row.S.Denot})) in
    rw (t, d) at (c.requires.own.each (record { 0 = i }) within)

pub loop-last-preserved : goal.loop-last-preserved
loop-last-preserved g c =
    let i = c.len-i.result in
    let left : c.loop-last.tills.items ≡ c.pop.new.self.items ++ c.in-Some.last ∷ [] = c.in-Some.ensures.items in
    let at : i ≡ length c.pop.new.self.items = c.len-i.ensures ∙ c.pop.new.self.ok.0 in
    let long : length c.loop-last.tills.items ≡ i + 1 = rw left (omega (arith, at, length-append c.pop.new.self.items (c.in-Some.last ∷ []))) in
    let start = map (server_side {S = g.row.S.Denot}) c.args.desks.now in
    let pass = map (stamp_holdings {S = g.row.S.Denot}) c.args.tills.items in
    let t : get_or pass i no_tills ≡ stamp_holdings c.in-Some.last =
    sym (c.loop-last.invariant.same i (omega (arith, long))) ∙ taken_by_pop stamp_holdings no_tills _ _ c.in-Some.last i left at in
    let d : get_or start i no_side ≡ server_side (get_or c.loop-last.desks i c.index-desks-i.result) =
    sym (c.loop-last.invariant.rest i (omega (arith, long))) ∙ get_or-map server_side c.loop-last.desks i c.index-desks-i.result no_side (omega (arith, long, c.loop-last.invariant.fits, c.loop-last.invariant.as_many)) in
    let gathered : server_side c.gather_desk.new.desk ≡ side_after_gather (get_or pass i no_tills) (get_or start i no_side) =
    c.gather_desk.ensures.desk ∙ ap (λ (x : ServerSide). side_after_gather (stamp_holdings c.in-Some.last) x) (sym d) ∙ ap (λ (x : StampHoldings). side_after_gather x (get_or start i no_side)) (sym t) in
    record {
      fits = omega (arith, at, long, c.loop-last.invariant.fits);
      as_many = length-set c.loop-last.desks i c.gather_desk.new.desk ∙ c.loop-last.invariant.as_many;
      a_held_each = length-set c.loop-last.held i c.gather_desk.result ∙ c.loop-last.invariant.a_held_each;
      same = λ k h. left_by_pop stamp_holdings no_tills _ _ c.in-Some.last left k h ∙ c.loop-last.invariant.same k (omega (arith, at, long));
      rest = λ k h. rest_below server_side no_side start c.loop-last.desks i c.gather_desk.new.desk
          (λ j below. c.loop-last.invariant.rest j (omega (arith, long))) k (omega (arith, at));
      done = λ k from inside. done_below server_side no_side (λ (j : ℕ) (x : ServerSide). x ≡ side_after_gather (get_or pass j no_tills) (get_or start j no_side))
          c.loop-last.desks i (length c.args.desks.now) c.gather_desk.new.desk (omega (arith, long, c.loop-last.invariant.fits, c.loop-last.invariant.as_many))
          (λ j above within. c.loop-last.invariant.done j (omega (arith, long)) within) gathered k (omega (arith, at)) inside;
      its = λ k from inside. set_below (held_of no_tills) (λ (j : ℕ) (x : StampsHeld). x ≡ held_of (get_or pass j no_tills))
          c.loop-last.held i (length c.args.desks.now) c.gather_desk.result (omega (arith, long, c.loop-last.invariant.fits, c.loop-last.invariant.a_held_each))
          (λ j above within. c.loop-last.invariant.its j (omega (arith, long)) within) (c.gather_desk.ensures.held ∙ ap held_of (sym t)) k (omega (arith, at)) inside;
      within = λ k from inside. one_below (λ (j : ℕ). AreWithin (get_or pass j no_tills) (get_or start j no_side).books) i (length c.args.desks.now)
          (λ j above within. c.loop-last.invariant.within j (omega (arith, long)) within) (rw (t, d) c.gather_desk.ensures.within) k (omega (arith, at)) inside;
    }

pub loop-last-init : goal.loop-last-init
loop-last-init g c =
    let as_many : length c.args.tills.items ≡ length c.args.desks.now =
    sym (length-map c.args.tills.items (stamp_holdings {S = g.row.S.Denot})) ∙ c.requires.own.as_many ∙ length-map c.args.desks.now (server_side {S = g.row.S.Denot}) in
    record {
      fits = omega (arith, as_many);
      as_many = refl;
      a_held_each = c.requires.room;
      same = λ k inside. refl;
      rest = λ k inside. refl;
      done = λ k from inside. absurd (omega (arith, as_many));
      its = λ k from inside. absurd (omega (arith, as_many));
      within = λ k from inside. absurd (omega (arith, as_many));
    }

pub returns-clause-desks : goal.returns-clause-desks
returns-clause-desks g c =
    let f : ServerDesk g.row.S.Denot → ServerSide = server_side in
    let none : length c.loop-last.tills.items ≡ 0 = sym c.loop-last.tills.ok.0 ∙ c.in_default.ensures.cases.0 in
    let inside : (k : ℕ) → k < length (map f c.args.desks.now) → k < length c.args.desks.now = λ k below. omega (arith, length-map c.args.desks.now f) in
    record {
      as_many = length-map c.loop-last.desks f ∙ c.loop-last.invariant.as_many ∙ sym (length-map c.args.desks.now f);
      each = λ s below. c.loop-last.invariant.done s.0 (omega (arith, none)) (inside s.0 below);
      within = λ s below. c.loop-last.invariant.within s.0 (omega (arith, none)) (inside s.0 below);
    }

pub returns-clause-held : goal.returns-clause-held
returns-clause-held g c =
    let f : StampTills g.row.S.Denot → StampHoldings = stamp_holdings in
    let pass = map f c.args.tills.items in
    let none : length c.loop-last.tills.items ≡ 0 = sym c.loop-last.tills.ok.0 ∙ c.in_default.ensures.cases.0 in
    let as_many : length pass ≡ length c.args.desks.now = c.requires.own.as_many ∙ length-map c.args.desks.now (server_side {S = g.row.S.Denot}) in
    let long : length c.loop-last.held ≡ length pass = c.loop-last.invariant.a_held_each ∙ sym as_many in
    ext_get_or (held_of no_tills) c.loop-last.held (map held_of pass) (long ∙ sym (length-map pass held_of))
    (λ k inside.
    c.loop-last.invariant.its k (omega (arith, none)) (omega (arith, long, as_many))
    ∙ sym (get_or-map held_of pass k no_tills (held_of no_tills) (omega (arith, long))))
