use Rattle.std.proofs.Common.{rules, ◌≡◌, ◌<◌, List, length, map, get_or, sym, ap, ◌∙◌, subst, arith}
use Rattle.std.specs.Prelude.{sum_by}
use Rattle.std.proofs.lemmas.List.{length-map}
use Rattle.dmc_ledger.specs.Bundles.{ClientSide, ServerSide, server_side}
use Rattle.dmc_ledger.specs.declared.desk.ServerDesk.{ServerDesk}
use Rattle.dmc_tlock.specs.BookState.{no_side}
use Rattle.dmc_tlock.specs.Settling.{held_of}
use Rattle.dmc_settle.specs.internal.Filled.{IsAudited, IsClosing, all_held, responses_held}
use Rattle.dmc_settle.specs.internal.Places.{desk_of, sides}
use Rattle.dmc_settle.proofs.Balance.{completed_is, held_few, held_is, is_balanced, is_closing}
use Rattle.dmc_settle.proofs.clients.settle_client.Given.{Over}
use Rattle.dmc_settle.proofs.clients.settle_client.Goals.{After-deref, After-deref-2}
use Rattle.dmc_settle.proofs.clients.settle_client.Goals as goal

-- ---- what the paths share

-- the desks of each server, and those that the book had
abbrev desks_of : (g : Over) → After-deref g → List (List ClientSide)
desks_of g c = map (sides {S = g.row.S.Denot}) c.args.desks.now

abbrev settled_of : (g : Over) → After-deref g → List ServerSide
settled_of g c = map (server_side {S = g.row.S.Denot}) c.in-Ok.settled.desks.items

held : (g : Over) (c : After-deref-2 g) → c.deref-2.result.now ≡ map held_of c.args.pass
held g c = c.deref-2.ensures.value ∙ c.in-Ok.ensures.held

-- ---- the goals

pub audit_pairs-taken-requires-clause-closing : goal.audit_pairs-taken-requires-clause-closing
audit_pairs-taken-requires-clause-closing g c =
    let a = (goal.at.audit_pairs-taken-requires-clause-closing g c).After-deref in
    let h : ServerDesk g.row.S.Denot → ServerSide = server_side in
    let known = c.in-Ok.ensures in
    λ s within.
    subst (λ (xs : List (ServerDesk g.row.S.Denot)). IsClosing (desk_of (desks_of g a) s c.args.client) (get_or (map h xs) s no_side)) (sym c.deref.ensures.value)
    (is_closing c.args.tracker c.args.pass (settled_of g a) known.consistent known.gathered known.desks (desks_of g a) c.args.client c.requires.ready s
    (omega (arith, within, length-map c.args.desks.now (sides {S = g.row.S.Denot}))))

pub sum_held-row-requires-clause-each : goal.sum_held-row-requires-clause-each
sum_held-row-requires-clause-each g c =
    let a = goal.at.sum_held-row-requires-clause-each g c in
    let known = c.in-Ok.ensures in
    let is = held g a.After-deref-2 in
    rw is (λ s within. held_few c.args.tracker c.args.pass (settled_of g a.After-deref) known.consistent known.gathered known.desks c.requires.ready.own.as_many c.requires.ready.whole s
    (omega (arith, within, ap length is, length-map c.args.pass held_of)))

pub returns-clause-numbers : goal.returns-clause-numbers
returns-clause-numbers g c =
    let a = goal.at.returns-clause-numbers g c in
    let h : ServerDesk g.row.S.Denot → ServerSide = server_side in
    let known = c.in-Ok.ensures in
    record {
      sent = c.audit_pairs-taken.ensures.sent;
      completed = c.audit_pairs-taken.ensures.completed ∙ ap (λ (xs : List (ServerDesk g.row.S.Denot)). sum_by responses_held (map h xs)) c.deref.ensures.value
          ∙ completed_is c.args.tracker c.args.pass (settled_of g a.After-deref) known.consistent known.gathered known.desks;
      cost = search rules;
      held = c.sum_held-row.ensures ∙ ap all_held (held g a.After-deref-2) ∙ held_is c.args.pass;
    }

pub returns-clause-balanced : goal.returns-clause-balanced
returns-clause-balanced g c =
    let a = (goal.at.returns-clause-balanced g c).After-deref in
    let h : ServerDesk g.row.S.Denot → ServerSide = server_side in
    let known = c.in-Ok.ensures in
    λ s within.
    (let inside : s < length c.args.desks.now = omega (arith, within, length-map c.args.desks.now (sides {S = g.row.S.Denot})) in
    is_balanced c.args.tracker c.args.pass (settled_of g a) known.consistent known.gathered known.desks (desk_of (desks_of g a) s c.args.client) s (omega (arith, within, c.requires.ready.as_many))
    (subst (λ (xs : List (ServerDesk g.row.S.Denot)). IsAudited (desk_of (desks_of g a) s c.args.client) (get_or (map h xs) s no_side)) c.deref.ensures.value (c.audit_pairs-taken.ensures.audited s inside)))

pub returns-clause-stop : goal.returns-clause-stop
returns-clause-stop g c = search rules
