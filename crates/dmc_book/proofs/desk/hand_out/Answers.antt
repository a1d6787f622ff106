use Rattle.std.proofs.Common.{rules, ◌≡◌, ◌<◌, ◌∙◌, length, map, ap, sym, subst, slice_index_or, None, Some, true}
use Rattle.dmc_ledger.specs.Bundles.{client_side, grant_accounts, grant_holdings}
use Rattle.dmc_ledger.specs.Moves.{ArePhaseOf, books_in, tills_in}
use Rattle.dmc_book.specs.Counts.{grant_in}
use Rattle.dmc_book.specs.Moves.{desk_place, place_of, takes, takes_at}
use Rattle.dmc_book.specs.internal.Consistent.{IsPhaseWithin, max_before}
use Rattle.dmc_book.proofs.DeskLemmas.{all_stay, allowed_grant, named_there, placed, desk_within, grants_fit, phase_fits, names_stay, unit_within, unit_there, unit_set, written, grant_idle, grant_issued}
use Rattle.dmc_book.proofs.desk.hand_out.Given.{Over}
use Rattle.dmc_book.proofs.desk.hand_out.Goals as goal
use Rattle.dmc_book.proofs.desk.hand_out.Goals.{In-Some}

pub returns-in_err-client-clause-desks : goal.returns-in_err-client-clause-desks
returns-in_err-client-clause-desks g c =
    let none : grant_in c.args.event.now.reply ≡ None = search rules in
    sym (all_stay c.args.event.now c.requires.no_stamp none _)

-- ---- what the paths to the desk share

grant_is : (g : Over) (c : In-Some g) → grant_in c.args.event.now.reply ≡ Some c.in_ok-client.field-0
grant_is g c = search rules

named : (g : Over) (c : In-Some g) → place_of c.in_ok-client.field-0.client.0 c.args.names.now.keys ≡ Some c.in-Some.place
named g c = search rules

there : (g : Over) (c : In-Some g)
    → (desk_place c.in_ok-client.field-0.client.0 (map client_side c.args.desks.now.items) ≡ Some c.in-Some.place)
    × (takes_at c.in_ok-client.field-0.phase (map client_side c.args.desks.now.items) (map grant_holdings c.args.units.now.items) (Some c.in-Some.place) ≡ true)
there g c =
    let grant = c.in_ok-client.field-0 in
    let allowed : takes (map client_side c.args.desks.now.items) c.args.names.now.keys (map grant_holdings c.args.units.now.items) grant.client grant.phase ≡ true = allowed_grant _ _ grant (grant_is g c) c.requires.its in
    named_there grant.phase (map client_side c.args.desks.now.items) (map grant_holdings c.args.units.now.items) (desk_place grant.client.0 (map client_side c.args.desks.now.items)) (place_of grant.client.0 c.args.names.now.keys) c.in-Some.place (named g c) allowed

within : (g : Over) (c : In-Some g) → c.in-Some.place < length c.args.desks.now.items
within g c = desk_within c.args.desks.now.items c.in-Some.place (placed c.in_ok-client.field-0.client.0 _ c.in-Some.place (there g c).0).0

pub index_mut-unit-requires : goal.index_mut-unit-requires
index_mut-unit-requires g c =
    let few : c.in-Some.place < length c.args.units.now.items = unit_within c.in_ok-client.field-0.phase c.args.desks.now.items c.args.units.now.items c.in-Some.place (there g (goal.at.index_mut-unit-requires g c).In-Some).1 in
    search rules

pub issue_unit-requires-clause-its : goal.issue_unit-requires-clause-its
issue_unit-requires-clause-its g c =
    let p = (goal.at.issue_unit-requires-clause-its g c).In-Some in
    let phase = c.in_ok-client.field-0.phase in
    let ds = c.args.desks.now.items in
    let us = c.args.units.now.items in
    let place = c.in-Some.place in
    let d = c.index_mut.result.now in
    let u = c.index_mut-unit.result.now in
    let of = unit_there phase ds us place d u (within g p) (there g p).1 in
    subst (λ x. ArePhaseOf (tills_in phase (grant_holdings x)) (books_in phase (grant_accounts d.books))) (sym c.index_mut-unit.ensures.value)
    (subst (λ y. ArePhaseOf (tills_in phase (grant_holdings (slice_index_or us place u))) (books_in phase (grant_accounts y.books))) (sym c.index_mut.ensures.value) of)

pub issue_unit-requires-clause-fits : goal.issue_unit-requires-clause-fits
issue_unit-requires-clause-fits g c =
    let p = (goal.at.issue_unit-requires-clause-fits g c).In-Some in
    let phase = c.in_ok-client.field-0.phase in
    let ds = c.args.desks.now.items in
    let place = c.in-Some.place in
    let d = c.index_mut.result.now in
    let fit = phase_fits max_before phase _ (grants_fit max_before ds place d c.requires.fits (within g p)) in
    subst (λ y. IsPhaseWithin max_before (books_in phase (grant_accounts y.books))) (sym c.index_mut.ensures.value) fit

pub returns-clause-desks : goal.returns-clause-desks
returns-clause-desks g c =
    let p = (goal.at.returns-clause-desks g c).In-Some in
    let grant = c.in_ok-client.field-0 in
    let ds = c.args.desks.now.items in
    let place = c.in-Some.place in
    let d = c.index_mut.result.now in
    let d_is : slice_index_or ds place d ≡ d = sym c.index_mut.ensures.value in
    let e = c.args.event.now in
    let here = (placed grant.client.0 _ place (there g p).0).1 in
    written e grant.client (grant_idle e grant c.requires.no_stamp (grant_is g p)) ds place d _ (within g p) here c.requires.apart
    (λ same. rw (d_is, c.issue_unit.ensures.books) (sym (grant_issued e grant c.requires.no_stamp (grant_is g p) (client_side d) (ap (λ x. x.client.0) (sym d_is) ∙ same))))

pub returns-clause-names : goal.returns-clause-names
returns-clause-names g c =
    let d = c.index_mut.result.now in
    names_stay c.args.desks.now.items c.in-Some.place d _ (ap (λ x. x.client) c.index_mut.ensures.value)

pub returns-clause-units : goal.returns-clause-units
returns-clause-units g c =
    let p = (goal.at.returns-clause-units g c).In-Some in
    let grant = c.in_ok-client.field-0 in
    let ds = c.args.desks.now.items in
    let us = c.args.units.now.items in
    let place = c.in-Some.place in
    let u = c.index_mut-unit.result.now in
    rw (grant_is g p, named g p)
    (unit_set us place u _ grant (unit_within grant.phase ds us place (there g p).1) (rw (← c.index_mut-unit.ensures.value) c.issue_unit.ensures.unit))
