use Rattle.std.proofs.Common.{◌≡◌, ℕ, ◌<◌, List, [], length, map, get_or, sym, ap, ◌∙◌, subst, arith, rules, below_more}
use Rattle.std.specs.Global.{Vec}
use Rattle.std.proofs.lemmas.List.{get_or-map, length-map}
use Rattle.dmc_ledger.specs.Bundles.{ClientSide, ServerSide, client_side, server_side}
use Rattle.dmc_ledger.specs.declared.desk.ClientDesk.{ClientDesk}
use Rattle.dmc_ledger.specs.declared.desk.ServerDesk.{ServerDesk}
use Rattle.dmc_tlock.specs.BookState.{no_side}
use Rattle.dmc_book.specs.BookState.{no_desk}
use Rattle.dmc_settle.specs.internal.Filled.{IsAudited, IsClosing, responses_held}
use Rattle.dmc_settle.specs.internal.Places.{desk_of, sides}
use Rattle.dmc_settle.specs.declared.clients.TakenIn.{TakenIn}
use Rattle.dmc_settle.proofs.Holding.{sum_next}
use Rattle.dmc_settle.proofs.clients.audit_pairs.Given.{Over}
use Rattle.dmc_settle.proofs.clients.audit_pairs.Goals.{After-index-desks-s, After-index-sides-s}
use Rattle.dmc_settle.proofs.clients.audit_pairs.Goals as goal

-- ---- what the paths share

abbrev desk_seen : (g : Over) → ClientDesk g.row.S.Denot → ClientSide
desk_seen g = client_side

abbrev side_seen : (g : Over) → ServerDesk g.row.S.Denot → ServerSide
side_seen g = server_side

abbrev row_seen : (g : Over) → Vec (ClientDesk g.row.S.Denot) → List ClientSide
row_seen g = sides

row_is : (g : Over) (c : After-index-desks-s g) → get_or (map (row_seen g) c.args.desks.now) c.loop-s.s [] ≡ map (desk_seen g) c.index-desks-s.result.items
row_is g c = get_or-map (row_seen g) c.args.desks.now c.loop-s.s c.index-desks-s.result [] c.loop-s-test.true ∙ ap (row_seen g) (sym c.index-desks-s.is)

in_row : (g : Over) (c : After-index-desks-s g) → c.args.client < length c.index-desks-s.result.items
in_row g c =
    let within = c.requires.within c.loop-s.s c.loop-s-test.true in
    omega (arith, within, ap length (row_is g c), length-map c.index-desks-s.result.items (desk_seen g))

in_sides : (g : Over) (c : After-index-sides-s g) → c.loop-s.s < length c.args.sides.now
in_sides g c = omega (arith, c.loop-s-test.true, c.requires.as_many)

-- the client's desk at this server, and the server's side of it
there_is : (g : Over) (c : After-index-sides-s g) → get_or (map (desk_seen g) c.index-desks-s.result.items) c.args.client no_desk ≡ desk_seen g c.index.result.now
there_is g c =
    let items = c.index-desks-s.result.items in
    let at : c.index.result.now ≡ get_or items c.args.client c.index.result.now = search rules in
    get_or-map (desk_seen g) items c.args.client c.index.result.now no_desk (in_row g (goal.at.add_pair-taken-requires-clause-closing g c).After-index-desks-s) ∙ ap (desk_seen g) (sym at)

desk_is : (g : Over) (c : After-index-sides-s g) → desk_of (map (row_seen g) c.args.desks.now) c.loop-s.s c.args.client ≡ desk_seen g c.index.result.now
desk_is g c = ap (λ (ds : List ClientSide). get_or ds c.args.client no_desk) (row_is g (goal.at.add_pair-taken-requires-clause-closing g c).After-index-desks-s) ∙ there_is g c

side_is : (g : Over) (c : After-index-sides-s g) → get_or (map (side_seen g) c.args.sides.now) c.loop-s.s no_side ≡ side_seen g c.index-sides-s.result
side_is g c = get_or-map (side_seen g) c.args.sides.now c.loop-s.s c.index-sides-s.result no_side (in_sides g c) ∙ ap (side_seen g) (sym c.index-sides-s.is)

closing : (g : Over) (c : After-index-sides-s g) → IsClosing (desk_seen g c.index.result.now) (side_seen g c.index-sides-s.result)
closing g c =
    subst (λ (x : ClientSide). IsClosing x (side_seen g c.index-sides-s.result)) (desk_is g c)
    (subst (λ (y : ServerSide). IsClosing (desk_of (map (row_seen g) c.args.desks.now) c.loop-s.s c.args.client) y) (side_is g c) (c.requires.closing c.loop-s.s c.loop-s-test.true))

-- ---- the goals

pub index-requires : goal.index-requires
index-requires g c = omega (arith, in_row g (goal.at.index-requires g c).After-index-desks-s, c.index-desks-s.result.ok.0)

pub add_pair-taken-requires-clause-closing : goal.add_pair-taken-requires-clause-closing
add_pair-taken-requires-clause-closing g c = closing g (goal.at.add_pair-taken-requires-clause-closing g c).After-index-sides-s

pub loop-s-preserved : goal.loop-s-preserved
loop-s-preserved g c =
    let a = (goal.at.loop-s-preserved g c).After-index-sides-s in
    let s = c.loop-s.s in
    let inv = c.loop-s.invariant in
    let audited = c.add_pair-taken.ensures.audited in
    let sent_is = ap (λ (n : TakenIn). n.sent) c.add_pair-taken.ensures.value in
    let completed_is = ap (λ (n : TakenIn). n.completed) c.add_pair-taken.ensures.value in
    let stamps : List ClientSide → ℕ = (λ ds. (get_or ds c.args.client no_desk).held.stamps.amount) in
    let sent_next = sum_next stamps (row_seen g) c.args.desks.now s c.index-desks-s.result c.loop-s-test.true c.index-desks-s.is in
    let here = ap (λ (x : ClientSide). x.held.stamps.amount) (there_is g a) in
    let completed_next = sum_next responses_held (side_seen g) c.args.sides.now s c.index-sides-s.result (in_sides g a) c.index-sides-s.is in
    let few = closing g a in
    record {
      audited = below_more (λ (k : ℕ). IsAudited (desk_of (map (row_seen g) c.args.desks.now) k c.args.client) (get_or (map (side_seen g) c.args.sides.now) k no_side)) s inv.audited
          (subst (λ (x : ClientSide). IsAudited x (get_or (map (side_seen g) c.args.sides.now) s no_side)) (sym (desk_is g a))
          (subst (λ (y : ServerSide). IsAudited (desk_seen g c.index.result.now) y) (sym (side_is g a)) audited));
      sent = omega (arith, sent_is, inv.sent, sent_next, here);
      completed = omega (arith, completed_is, inv.completed, completed_next);
      few_sent = omega (arith, sent_is, inv.few_sent, audited.stamps, few.few_stamps);
      few_completed = omega (arith, completed_is, inv.few_completed, few.few_responses);
    }

pub loop-s-init : goal.loop-s-init
loop-s-init g c = search rules
