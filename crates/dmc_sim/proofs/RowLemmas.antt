-- The rows of a report are those of its clients and servers.
use Rattle.std.proofs.Common.{◌≡◌, ℕ, zero, suc, ◌+◌, ◌-◌, ◌<◌, ◌≤◌, List, [], ◌∷◌, get_or, set, length, map, slice_get, nat_lt, not, Bool, true, false, Option, Ok, refl, sym, ap, ◌∙◌, arith}
use Rattle.std.specs.Prelude.{All, option_map, unwrap_or}
use Rattle.std.specs.List.{AllZip, find, list_all, range_with_len}
use Rattle.std.specs.Option.{option_map_or}
use Rattle.std.proofs.lemmas.Bool.{and_parts, eqb-true, ltb-true, ltb-false}
use Rattle.std.proofs.lemmas.List.{get_or_default, get_or-set_same, get_or-set_other}
use Rattle.dmc_types.specs.declared.ids.ClientId.{ClientId}
use Rattle.dmc_types.specs.Values.{Counts}
use Rattle.dmc_types.specs.declared.config.Counting.{Counting}
use Rattle.dmc_tag.specs.State.{State, is_client, queued_requests}
use Rattle.dmc_tag.specs.Tag.{Tagging}
use Rattle.dmc_tag.specs.Outcome.{◌>>=◌}
use Rattle.dmc_scene.specs.SceneValue.{SceneValue, ClientValue, has_costs}
use Rattle.dmc_tracker.specs.TrackerList.{completions}
use Rattle.dmc_core.specs.Run.{Client}
use Rattle.dmc_core.specs.Core.{CoreValue, Held, Matches, RepresentsRun}
use Rattle.dmc_sim.specs.internal.Counts.{HaveGranted}
use Rattle.dmc_sim.specs.Reports.{IsClientRow, IsComplete, ReportValue, client_row, cost_of, end_of, report_after, report_of, server_row}
use Rattle.dmc_sim.specs.internal.Rows.{HasCost, HaveCosts, row_of, idle_row, with_left}
use Rattle.dmc_sim.specs.Simulation.{Entry, Sim, all_complete, completed_by, plan_of, reserved_by, sent_by, servers_of, simulation}
use Rattle.dmc_sim.specs.internal.Simulations.{AreGrants, Gives, IsCounted, IsLast, is_complete}
use Rattle.dmc_sim.specs.declared.report.ClientReport.{ClientReport}
use Rattle.dmc_sim.specs.declared.report.ServerReport.{ServerReport}
use Rattle.dmc_sim.specs.declared.client.SimClient.{SimClient}
use Rattle.dmc_sim.proofs.Rounds.{all_complete_is}

pub client_rows : (cs : List SimClient) → AllZip IsClientRow (map (λ c. c.scene) cs) (map row_of cs)
client_rows [] = tt
client_rows (c ∷ cs) = (
  record {
    client = refl;
    sent = c.within;
    phases = let most : c.reservation ≤ c.completed = c.phases in omega arith;
  },
  client_rows cs,
)

pub complete_rows : (cs : List SimClient) → list_all is_complete cs ≡ true → AllZip IsComplete (map (λ c. c.scene) cs) (map row_of cs)
complete_rows [] h = tt
complete_rows (c ∷ cs) h =
    let both = and_parts (is_complete c) (list_all is_complete cs) h in
    (eqb-true c.completed c.scene.requests both.0, complete_rows cs both.1)

pub row_numbers : {T : Type 0} (sim : Sim T) (a n : ℕ) → map (λ r. r.server.0) (map (server_row sim) (map (λ k. record { 0 = k }) (range_with_len a n))) ≡ range_with_len a n
row_numbers sim a zero = refl
row_numbers sim a (suc n) = ap (λ ns. a ∷ ns) (row_numbers sim (a + 1) n)

pub none_granted : (a n : ℕ) → HaveGranted 0 (map idle_row (range_with_len a n))
none_granted a zero k d w = absurd (omega (arith, w))
none_granted a (suc n) zero d w = omega arith
none_granted a (suc n) (suc k) d w = none_granted (a + 1) n k d (omega (arith, w))

-- ---- the rows of the simulation

same_left : {T Q : Type 0} (state : Q → State T) (qs : List Q) (us : List (State T)) → us ≡ map state qs → (n : ℕ)
    → option_map (λ q. length (queued_requests (state q).clients)) (slice_get qs n) ≡ option_map (λ (u : State T). length (queued_requests u.clients)) (slice_get us n)
same_left state [] us e n = rw e refl
same_left state (q ∷ qs) us e zero = rw e refl
same_left state (q ∷ qs) us e (suc n) = rw e (same_left state qs (map state qs) refl n)

-- what is left is that of the run, and the grants are those of the trace
pub left_rows : {T Q : Type 0} (state : Q → State T) (core : CoreValue Q) (sim : Sim T) → RepresentsRun state core sim.run → (rows : List ServerReport) → All (AreGrants sim.trace) rows
    → map (with_left state core.servers) rows ≡ map (server_row sim) (map (λ r. r.server) rows)
left_rows state core sim represents [] all = refl
left_rows state core sim represents (r ∷ rs) all =
    let mine = all 0 r (omega arith) in
    let left = ap (λ (o : Option ℕ). unwrap_or o 0) (same_left state core.servers sim.run.servers represents.servers r.server.0) in
    let rest = left_rows state core sim represents rs (λ k d w. all (suc k) d (omega (arith, w))) in
    let first : with_left state core.servers r ≡ server_row sim r.server = rw (mine.reservation, mine.priority, left) refl in
    ap (λ x. x ∷ map (with_left state core.servers) rs) first ∙ ap (λ xs. server_row sim r.server ∷ xs) rest

abbrev row : ClientId → ℕ → ℕ → ℕ → ℕ → ClientReport
row id sent completed reservation cost = record {
  client = id;
  sent = sent;
  completed = completed;
  reservation = reservation;
  priority = completed - reservation;
  cost = cost;
}

same_row : (id : ClientId) (sent sent' completed completed' reservation reservation' cost cost' : ℕ) → sent ≡ sent' → completed ≡ completed' → reservation ≡ reservation' → cost ≡ cost'
    → row id sent completed reservation cost ≡ row id sent' completed' reservation' cost'
same_row id sent sent' completed completed' reservation reservation' cost cost' s c r k = rw (s, c, r, k) refl

-- the rows of the clients are those of the trace and of the trackers
pub counted_rows : {T : Type 0} (scene : SceneValue) (sim : Sim T) (cs : List SimClient) → All (IsCounted scene sim.trace) cs → All (λ c. c.cost ≡ cost_of sim.run c.scene.id) cs
    → map row_of cs ≡ map (client_row sim) (map (λ c. c.scene) cs)
counted_rows scene sim [] all costs = refl
counted_rows scene sim (c ∷ cs) all costs =
    let mine = all 0 c (omega arith) in
    let rest = counted_rows scene sim cs (λ k d w. all (suc k) d (omega (arith, w))) (λ k d w. costs (suc k) d (omega (arith, w))) in
    let first : row_of c ≡ client_row sim c.scene = same_row c.scene.id c.sent _ c.completed _ c.reservation _ c.cost _ mine.sent mine.completed mine.reservation (costs 0 c (omega arith)) in
    ap (λ x. x ∷ map row_of cs) first ∙ ap (λ xs. client_row sim c.scene ∷ xs) rest

-- ---- what the completions cost

-- the core and the run find the same costs
same_cost : (counting : Counting) (hs : List Held) (cs : List Client) → AllZip (Matches counting) hs cs → (id : ClientId)
    → option_map_or (λ h. h.tracker.completions.delta) (find (λ h. is_client id h.id) hs) 0 ≡ option_map_or (λ c. (completions c.list).delta) (find (λ c. is_client id c.id) cs) 0
same_cost counting [] [] z id = refl
same_cost counting [] (c ∷ cs) z id = absurd z
same_cost counting (h ∷ hs) [] z id = absurd z
same_cost counting (h ∷ hs) (c ∷ cs) z id = by (is_client id h.id) refl (same_cost counting hs cs z.1 id)
  where
    by : (b : Bool) → is_client id h.id ≡ b
        → option_map_or (λ h. h.tracker.completions.delta) (find (λ h. is_client id h.id) hs) 0 ≡ option_map_or (λ c. (completions c.list).delta) (find (λ c. is_client id c.id) cs) 0
        → option_map_or (λ h. h.tracker.completions.delta) (find (λ h. is_client id h.id) (h ∷ hs)) 0 ≡ option_map_or (λ c. (completions c.list).delta) (find (λ c. is_client id c.id) (c ∷ cs)) 0
    by true e rest = let there : is_client id c.id ≡ true = rw z.0.id at e in rw (e, there) (ap (λ (n : Counts). n.delta) z.0.tracker.completed)
    by false e rest = let there : is_client id c.id ≡ false = rw z.0.id at e in rw (e, there) rest

-- one client more has its cost, of those that are as they were
pub one_more_cost : (hs : List Held) (olds cs : List SimClient) (i : ℕ) (item new : SimClient) → i < length cs → HasCost hs (get_or cs i item) new
    → ((k : ℕ) (d : SimClient) → k < i → HasCost hs (get_or olds k d) (get_or cs k d)) → ((k : ℕ) (d : SimClient) → i ≤ k → get_or cs k d ≡ get_or olds k d)
    → (k : ℕ) (d : SimClient) → k < i + 1 → k < length cs → HasCost hs (get_or olds k d) (get_or (set cs i new) k d)
one_more_cost hs olds cs i item new within has done rest k d w v = by (nat_lt k i) refl
  where
    by : (b : Bool) → nat_lt k i ≡ b → HasCost hs (get_or olds k d) (get_or (set cs i new) k d)
    by true e =
        let less = ltb-true k i e in
        rw (get_or-set_other cs i k new d (λ same. omega (arith, less, same))) (done k d less)
    by false e =
        let past = ltb-false k i e in
        let here : k ≡ i = omega (arith, w, past) in
        let old : get_or cs i item ≡ get_or olds i d = get_or_default cs i item d within ∙ rest i d (omega arith) in
        rw (here, get_or-set_same cs i new d within) (rw (← old) has)

pub costs_are : {T Q : Type 0} (state : Q → State T) (core : CoreValue Q) (sim : Sim T) → RepresentsRun state core sim.run → (old new : List SimClient) → length new ≡ length old → HaveCosts core.clients old new
    → All (λ c. c.cost ≡ cost_of sim.run c.scene.id) new
costs_are state core sim r old new long are k d w =
    let is = are k d (omega (arith, long, w)) in
    is.cost ∙ same_cost sim.run.counting core.clients sim.run.clients r.clients (get_or old k d).scene.id ∙ ap (λ (s : ClientValue). cost_of sim.run s.id) (sym is.scene)

-- what is counted of a client does not change with what it cost
pub counted_with_costs : {T : Type 0} (scene : SceneValue) (trace : List (Entry T)) (hs : List Held) (old new : List SimClient) → length new ≡ length old → HaveCosts hs old new → All (IsCounted scene trace) old
    → All (IsCounted scene trace) new
counted_with_costs scene trace hs old new long are all k d w =
    let is = are k d (omega (arith, long, w)) in
    let was = all k d (omega (arith, long, w)) in
    record {
      plan = is.plan ∙ was.plan ∙ ap (plan_of scene) (sym is.scene);
      sent = is.sent ∙ was.sent ∙ ap (λ (s : ClientValue). sent_by s.id trace) (sym is.scene);
      completed = is.completed ∙ was.completed ∙ ap (λ (s : ClientValue). completed_by s.id trace) (sym is.scene);
      reservation = is.reservation ∙ was.reservation ∙ ap (λ (s : ClientValue). reserved_by s.id trace) (sym is.scene);
    }

pub scenes_with_costs : (hs : List Held) (old new : List SimClient) → length new ≡ length old → HaveCosts hs old new → map (λ c. c.scene) new ≡ map (λ c. c.scene) old
scenes_with_costs hs [] [] long are = refl
scenes_with_costs hs [] (c ∷ new) long are = cc
scenes_with_costs hs (c ∷ old) [] long are = cc
scenes_with_costs hs (c ∷ old) (c' ∷ new) long are =
    let first : c'.scene ≡ c.scene = (are 0 c (omega arith)).scene in
    let rest = scenes_with_costs hs old new (omega (arith, long)) (λ k d w. are (suc k) d (omega (arith, w))) in
    rw (first, rest) refl

-- ---- the report

abbrev value : List ClientReport → List ServerReport → ℕ → (out with_costs : Bool) → ReportValue
value cs ss end out with_costs = record { clients = cs; servers = ss; end = end; turns_out = out; with_costs = with_costs }

whole_report : (cs cs' : List ClientReport) (ss ss' : List ServerReport) (end end' : ℕ) (out out' costs costs' : Bool) → cs ≡ cs' → ss ≡ ss' → end ≡ end' → out ≡ out' → costs ≡ costs' → value cs ss end out costs ≡ value cs' ss' end' out' costs'
whole_report cs cs' ss ss' end end' out out' costs costs' c s e o k = rw (c, s, e, o, k) refl

-- the report of the last of a simulation, from its clients and servers
pub report_is : {T : Type 0} (ops : Tagging T) (scene : SceneValue) (clients : List SimClient) (rows : List ServerReport) (end : ℕ) → Gives (simulation ops scene) (IsLast scene clients rows end) → map (λ c. c.scene) clients ≡ scene.clients
    → (cs : List ClientReport) (ss : List ServerReport) (out with_costs : Bool) → cs ≡ map row_of clients → ss ≡ rows → out ≡ not (list_all is_complete clients) → with_costs ≡ has_costs scene.clients
    → report_of ops scene ≡ Ok (value cs ss end out with_costs)
report_is ops scene clients rows end given scenes cs ss out with_costs cs_are ss_are out_is costs_is =
    let sim = given.value.1 in
    let last = given.holds in
    let trace = sim.trace in
    let clients_are : map (client_row sim) scene.clients ≡ cs = sym (cs_are ∙ counted_rows scene sim clients last.counted last.costs ∙ ap (map (client_row sim)) scenes) in
    let servers_are : map (server_row sim) (servers_of scene) ≡ ss = sym (ss_are ∙ last.rows_are) in
    let complete : not (all_complete scene trace) ≡ out = sym (out_is ∙ ap not (all_complete_is scene trace clients scenes last.counted)) in
    ap (λ r. r >>= λ (l : ℕ × Sim _). Ok (report_after scene l.0 l.1)) given.is
    ∙ ap (λ (v : ReportValue). Ok v) (whole_report (map (client_row sim) scene.clients) cs (map (server_row sim) (servers_of scene)) ss (end_of scene given.value.0) end (not (all_complete scene trace)) out (has_costs scene.clients) with_costs clients_are servers_are (sym last.end_is) complete (sym costs_is))
