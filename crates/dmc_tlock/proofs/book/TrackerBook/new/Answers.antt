use Rattle.std.proofs.Common.{◌≡◌, ◌-◌, ◌<◌, List, [], length, map, drop, sym, ap, ◌∙◌, subst, arith}
use Rattle.std.proofs.lemmas.List.{length-map}
use Rattle.dmc_tracker.specs.Numbers.{Numbers, new_numbers, RepresentsEvents}
use Rattle.dmc_ledger.specs.Bundles.{ServerSide, server_side}
use Rattle.dmc_ledger.specs.declared.desk.ServerDesk.{ServerDesk}
use Rattle.dmc_tlock.specs.Opening.{list_number, side_after_opening}
use Rattle.dmc_tlock.proofs.OpeningLemmas.{has_list, one_till, IsConsistent-new}
use Rattle.dmc_tlock.proofs.book.TrackerBook.new.Goals as goal
use Rattle.dmc_lemmas.proofs.Lists.{lent_back}

pub open_desks-number-requires-clause-one : goal.open_desks-number-requires-clause-one
open_desks-number-requires-clause-one g c =
    let items = c.args.desks.items in
    let same : c.deref_mut.result.now ≡ items = c.deref_mut.ensures.value in
    λ k within.
    rw same (one_till c.args.client.0 (map server_side items) c.requires k (omega (arith, within, ap length same, length-map items (server_side {S = g.row.S.Denot}))))

pub open_desks-number-requires-clause-list : goal.open_desks-number-requires-clause-list
open_desks-number-requires-clause-list g c =
    let items = c.args.desks.items in
    let same : c.deref_mut.result.now ≡ items = c.deref_mut.ensures.value in
    let some : 0 < length (map (server_side {S = g.row.S.Denot}) items) = omega (arith, c.in-Ok.ensures.limits.tracker.some_servers, c.len.ensures, c.args.desks.ok.0, length-map items (server_side {S = g.row.S.Denot})) in
    rw same (has_list c.args.client.0 (map server_side items) c.requires some)

pub invariant_of-book : goal.invariant_of-book
invariant_of-book g c =
    let items = c.args.desks.items in
    let f : ServerDesk g.row.S.Denot → ServerSide = server_side in
    let start : List ServerSide = map f items in
    let same : c.deref_mut.result.now ≡ items = c.deref_mut.ensures.value in
    let opened : map f c.open_desks-number.new.desks ≡ map side_after_opening start =
    c.open_desks-number.ensures.desks ∙ ap (λ (xs : List (ServerDesk g.row.S.Denot)). map side_after_opening (map f xs)) same in
    let as_many : length c.open_desks-number.new.desks ≡ length items =
    sym (length-map c.open_desks-number.new.desks f) ∙ ap length opened ∙ length-map start side_after_opening ∙ length-map items f in
    let back = lent_back c.open_desks-number.new.desks (drop (length c.open_desks-number.new.desks) items) c.args.desks.len (as_many ∙ sym c.args.desks.ok.0) in
    let servers : c.len.result ≡ length start = c.len.ensures ∙ c.args.desks.ok.0 ∙ sym (length-map items f) in
    let numbers : c.in-Ok.parts.tracker ≡ new_numbers c.args.counting c.args.most (length start) =
    c.in-Ok.ensures.tracker.0 ∙ ap (new_numbers c.args.counting c.args.most) servers in
    let represents = subst (λ (t : Numbers). RepresentsEvents t []) numbers c.in-Ok.ensures.tracker.1 in
    let none : c.args.max_events - 0 ≡ c.args.max_events = omega arith in
    let number : c.open_desks-number.result.0 ≡ list_number start =
    c.open_desks-number.ensures.is ∙ ap (λ (xs : List (ServerDesk g.row.S.Denot)). list_number (map f xs)) same in
    rw (back, opened, numbers, c.new.ensures, number, c.in-Ok.ensures.history.1, none) (
      IsConsistent-new c.args.client.0 c.args.counting c.args.most c.args.max_events start c.requires represents c.in-Ok.ensures.limits.tracker.max_limit c.in-Ok.ensures.limits.some_events c.in-Ok.ensures.limits.events_limit,
      c.in-Ok.ensures.held ∙ servers ∙ length-map items f ∙ sym as_many,
    )
