use Rattle.std.proofs.Common.{◌≡◌, ◌+◌, ◌<◌, ℕ, List, [], length, map, get_or, sym, ◌∙◌, subst, arith, rules}
use Rattle.std.specs.Global.{Vec}
use Rattle.std.proofs.lemmas.List.{length-set}
use Rattle.dmc_ledger.specs.Bundles.{ClientSide, StampHoldings}
use Rattle.dmc_ledger.specs.declared.desk.ClientDesk.{ClientDesk}
use Rattle.dmc_tlock.specs.BookState.{BookState}
use Rattle.dmc_tlock.specs.Consistent.{IsConsistent}
use Rattle.dmc_shared.proofs.PlaceLemmas.{done_below, one_below}
use Rattle.dmc_settle.specs.internal.Filled.{AreBalanced, AreClientNumbers, ClientNumbers, IsReadyClient, client_numbers, no_client_numbers}
use Rattle.dmc_settle.specs.internal.Places.{no_tracker, sides}
use Rattle.dmc_settle.specs.declared.report.ClientReport.{ClientReport}
use Rattle.dmc_settle.proofs.Lists.{map_kept, popped_last, popped_left, popped_long}
use Rattle.dmc_settle.proofs.clients.settle_clients.Given.{Over}
use Rattle.dmc_settle.proofs.clients.settle_clients.Goals.{In-Some-pop}
use Rattle.dmc_settle.proofs.clients.settle_clients.Goals as goal

-- ---- what the paths share

-- the last tracker was taken out, and the last pass
place : (g : Over) (c : In-Some-pop g) → c.len-client.result ≡ length c.pop.new.self.items
place g c = search rules

long : (g : Over) (c : In-Some-pop g) → length c.loop-tracker.trackers.items ≡ length c.pop.new.self.items + 1
long g c = popped_long c.loop-tracker.trackers.items c.pop.new.self.items c.in-Some.tracker c.in-Some.ensures.items

place_passes : (g : Over) (c : In-Some-pop g) → length c.pop-in-Some.new.self.items ≡ c.len-client.result
place_passes g c =
    let long_passes = popped_long c.loop-tracker.passes.items c.pop-in-Some.new.self.items c.in-Some-pop.pass c.in-Some-pop.ensures.items in
    omega (arith, place g c, long g c, long_passes, c.loop-tracker.invariant.a_pass_each)

within : (g : Over) (c : In-Some-pop g) → c.len-client.result < length c.args.trackers.items
within g c = omega (arith, place g c, long g c, c.loop-tracker.invariant.fits)

tracker_is : (g : Over) (c : In-Some-pop g) → get_or c.args.trackers.items c.len-client.result no_tracker ≡ c.in-Some.tracker
tracker_is g c =
    sym (c.loop-tracker.invariant.same c.len-client.result (omega (arith, place g c, long g c)))
    ∙ popped_last c.loop-tracker.trackers.items c.pop.new.self.items c.in-Some.tracker no_tracker c.len-client.result c.in-Some.ensures.items (sym (place g c))

pass_is : (g : Over) (c : In-Some-pop g) → get_or c.args.passes.items c.len-client.result [] ≡ c.in-Some-pop.pass
pass_is g c =
    sym (c.loop-tracker.invariant.same_passes c.len-client.result (omega (arith, place g c, long g c)))
    ∙ popped_last c.loop-tracker.passes.items c.pop-in-Some.new.self.items c.in-Some-pop.pass [] c.len-client.result c.in-Some-pop.ensures.items (place_passes g c)

-- ---- the goals

pub settle_client-requires-clause-ready : goal.settle_client-requires-clause-ready
settle_client-requires-clause-ready g c =
    let a = (goal.at.settle_client-requires-clause-ready g c).In-Some-pop in
    let i = c.len-client.result in
    let see : Vec (ClientDesk g.row.S.Denot) → List ClientSide = sides in
    subst (λ (b : BookState). IsReadyClient (map see c.args.desks.now) i b c.in-Some-pop.pass) (tracker_is g a)
    (subst (λ (p : List StampHoldings). IsReadyClient (map see c.args.desks.now) i (get_or c.args.trackers.items i no_tracker) p) (pass_is g a) (c.requires.ready i (within g a)))

pub loop-tracker-preserved : goal.loop-tracker-preserved
loop-tracker-preserved g c =
    let a = (goal.at.loop-tracker-preserved g c).In-Some-pop in
    let i = c.len-client.result in
    let inv = c.loop-tracker.invariant in
    let see : Vec (ClientDesk g.row.S.Denot) → List ClientSide = sides in
    let desks = map see c.args.desks.now in
    let row = c.settle_client.new.row in
    let in_rows : i < length c.loop-tracker.rows = omega (arith, within g a, inv.a_row_each) in
    let numbers : AreClientNumbers desks i (get_or c.args.trackers.items i no_tracker) (get_or c.args.passes.items i []) (client_numbers row) =
    subst (λ (b : BookState). AreClientNumbers desks i b (get_or c.args.passes.items i []) (client_numbers row)) (sym (tracker_is g a))
    (subst (λ (p : List StampHoldings). AreClientNumbers desks i c.in-Some.tracker p (client_numbers row)) (sym (pass_is g a)) c.settle_client.ensures.numbers) in
    let balanced : AreBalanced desks i (get_or c.args.trackers.items i no_tracker) (get_or c.args.passes.items i []) =
    subst (λ (b : BookState). AreBalanced desks i b (get_or c.args.passes.items i [])) (sym (tracker_is g a))
    (subst (λ (p : List StampHoldings). AreBalanced desks i c.in-Some.tracker p) (sym (pass_is g a)) c.settle_client.ensures.balanced) in
    let consistent : IsConsistent (get_or c.args.trackers.items i no_tracker) = subst IsConsistent (sym (tracker_is g a)) c.settle_client.ensures.consistent in
    record {
      fits = omega (arith, place g a, within g a);
      a_pass_each = omega (arith, place g a, place_passes g a);
      a_row_each = length-set c.loop-tracker.rows i row ∙ inv.a_row_each;
      same = λ k below. popped_left c.loop-tracker.trackers.items c.pop.new.self.items c.in-Some.tracker no_tracker c.in-Some.ensures.items k below ∙ inv.same k (omega (arith, below, long g a));
      same_passes = λ k below. popped_left c.loop-tracker.passes.items c.pop-in-Some.new.self.items c.in-Some-pop.pass [] c.in-Some-pop.ensures.items k (omega (arith, below, place g a, place_passes g a))
          ∙ inv.same_passes k (omega (arith, below, long g a));
      numbers = λ k from inside. done_below client_numbers no_client_numbers
          (λ (j : ℕ) (n : ClientNumbers). AreClientNumbers desks j (get_or c.args.trackers.items j no_tracker) (get_or c.args.passes.items j []) n)
          c.loop-tracker.rows i (length c.args.trackers.items) row in_rows (λ j above under. inv.numbers j (omega (arith, above, place g a, long g a)) under) numbers k (omega (arith, place g a, from)) inside;
      balanced = λ k from inside. one_below (λ (j : ℕ). AreBalanced desks j (get_or c.args.trackers.items j no_tracker) (get_or c.args.passes.items j []))
          i (length c.args.trackers.items) (λ j above under. inv.balanced j (omega (arith, above, place g a, long g a)) under) balanced k (omega (arith, place g a, from)) inside;
      consistent = λ k from inside. one_below (λ (j : ℕ). IsConsistent (get_or c.args.trackers.items j no_tracker))
          i (length c.args.trackers.items) (λ j above under. inv.consistent j (omega (arith, above, place g a, long g a)) under) consistent k (omega (arith, place g a, from)) inside;
      clients = map_kept (λ (r : ClientReport). r.client) c.loop-tracker.rows i row _ in_rows c.settle_client.ensures.client ∙ inv.clients;
      failed = map_kept (λ (r : ClientReport). r.failed) c.loop-tracker.rows i row _ in_rows c.settle_client.ensures.failed ∙ inv.failed;
      stops = map_kept (λ (r : ClientReport). r.stop) c.loop-tracker.rows i row _ in_rows c.settle_client.ensures.stop ∙ inv.stops;
    }
