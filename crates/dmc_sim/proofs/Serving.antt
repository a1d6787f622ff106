-- A server serves, by what its two events return.
use Rattle.std.proofs.Common.{◌≡◌, ◌≢◌, ℕ, ◌+◌, ◌<◌, nat_lt, map, set, drop, Bool, true, false, List, [], ◌∷◌, ◌++◌, length, get_or, refl, sym, ap, ◌∙◌, subst, arith, Err, Some, None}
use Rattle.std.specs.Prelude.{◌&&◌, All, AllPairs, Result}
use Rattle.std.proofs.Math.Bool.{and-true}
use Rattle.std.proofs.lemmas.Bool.{eq-eqb, eqb-true, ltb-true, ltb-false, false_from_ne_true}
use Rattle.std.proofs.lemmas.List.{get_or-map, get_or_default, length-map}
use Rattle.dmc_types.specs.declared.ids.ClientId.{ClientId}
use Rattle.dmc_types.specs.declared.ids.ServerId.{ServerId}
use Rattle.dmc_types.specs.declared.config.PhaseType.{PhaseType}
use Rattle.dmc_types.specs.declared.config.PhaseType.TheVariants.{Reservation, Priority}
use Rattle.dmc_types.specs.declared.refusal.Refusal.{Refusal}
use Rattle.dmc_tag.specs.Tag.{Tagging}
use Rattle.dmc_tag.specs.State.{State, is_client}
use Rattle.dmc_tag.specs.Outcome.{◌>>=◌}
use Rattle.dmc_scene.specs.SceneValue.{SceneValue}
use Rattle.dmc_core.specs.Core.{CoreValue, RepresentsRun}
use Rattle.dmc_core.specs.Events.{cluster_step}
use Rattle.dmc_core.specs.declared.event.CoreEvent.TheVariants.{Pull, Respond}
use Rattle.dmc_sim.specs.declared.ask.Grant.{Grant}
use Rattle.dmc_sim.specs.Simulation.{Entry, Sim, Returned, asked, grant_in, granted_by, is_counted, is_granted_in, is_phase, is_server, respond_to, server_turn, each_in_turn}
use Rattle.dmc_sim.specs.internal.Counts.{AreDifferent}
use Rattle.dmc_sim.specs.internal.Simulations.{IsCounted, AreGrants, ClientsAt, AllAt, Ends, Gives, IsAfter}
use Rattle.dmc_sim.specs.internal.Turns.{ServerAt, Completes, CompletesOne}
use Rattle.dmc_sim.specs.declared.client.SimClient.{SimClient}
use Rattle.dmc_sim.specs.declared.report.ServerReport.{ServerReport}
use Rattle.dmc_sim.specs.declared.report.SimFault.{SimFault}
use Rattle.dmc_sim.proofs.Endings.{Reaches, all_with, ends_as, turn_taken, turn_refused}
use Rattle.dmc_sim.proofs.TurnLemmas.{asked_grants, server_turn_grants}
use Rattle.dmc_sim.proofs.Traces.{one_if, entry, after_trace, same_counts, completed_more, reserved_more, sent_more, granted_more, counted_as, still_counted, still_granted}

-- ---- the client of a grant responds

module _ {T : Type 0} (scene : SceneValue) (trace : List (Entry T)) (id : ClientId) (server : ServerId) (phase : PhaseType) (cost : ℕ) (returned : Returned T) where
  -- a completion that is counted is one of the client
  completed_one : (old new : SimClient) → is_counted returned ≡ true → Completes id phase old new → IsCounted scene trace old → IsCounted scene (trace ++ entry (Respond id server phase cost) returned ∷ []) new
  completed_one old new counted is h =
      let e : Entry T = entry (Respond id server phase cost) returned in
      let own = old.scene.id in
      let one : one_if (is_client own id && is_counted returned) ≡ one_if (is_client own id) = ap (λ b. one_if (is_client own id && b)) counted ∙ ap one_if (and-true (is_client own id)) in
      let reserved : one_if ((is_client own id && is_counted returned) && is_phase Reservation phase) ≡ one_if (is_client own id && is_phase Reservation phase) =
      ap (λ b. one_if ((is_client own id && b) && is_phase Reservation phase)) counted ∙ ap (λ b. one_if (b && is_phase Reservation phase)) (and-true (is_client own id)) in
      counted_as scene (trace ++ e ∷ []) new old.scene is.scene (is.plan ∙ h.plan) (omega (arith, sent_more trace e own, is.sent, h.sent)) (omega (arith, completed_more trace e own, one, is.completed, h.completed))
      (omega (arith, reserved_more trace e own, reserved, is.reservation, h.reservation))

module _ {T Q : Type 0} (ops : Tagging T) (state : Q → State T) (scene : SceneValue) (id : ClientId) (server : ServerId) (phase : PhaseType) (cost : ℕ) (core core' : CoreValue Q) (clients : List SimClient) (returned : Returned T)
    (responds : (sim : Sim T) → RepresentsRun state core sim.run → Gives (asked ops (Respond id server phase cost) sim) (IsAfter ops state (Respond id server phase cost) sim core' returned)) (sim : Sim T) (h : ClientsAt state scene core clients sim) where
  pub responded_counted : (new : List SimClient) → length new ≡ length clients → is_counted returned ≡ true → CompletesOne id phase clients new → Gives (asked ops (Respond id server phase cost) sim) (ClientsAt state scene core' new)
  responded_counted new long counted is =
      let given = responds sim h.run in
      let after = after_trace ops state (Respond id server phase cost) sim given.value core' returned given.holds in
      let each = λ (k : ℕ) (d : SimClient) (w : k < length new).
      let before : k < length clients = omega (arith, long, w) in
      completed_one scene sim.trace id server phase cost returned (get_or clients k d) (get_or new k d) counted (is k d before) (h.counted k d before) in
      record {
        value = given.value;
        is = given.is;
        holds = record { run = given.holds.run; counted = subst (λ (t : List (Entry T)). All (IsCounted scene t) new) (sym after) each };
      }

-- ---- a server pulls

-- the row after a grant in this phase
pub record IsGranted (phase : PhaseType) (old new : ServerReport) : Type 0 where
  pub server : new.server ≡ old.server
  pub reservation : new.reservation ≡ old.reservation + one_if (is_phase Reservation phase)
  pub priority : new.priority ≡ old.priority + one_if (is_phase Priority phase)

module _ {T Q : Type 0} (ops : Tagging T) (state : Q → State T) (scene : SceneValue) (at : ℕ) (core core' : CoreValue Q) (clients : List SimClient) (row : ServerReport) (returned : Returned T)
    (pulls : (sim : Sim T) → RepresentsRun state core sim.run → Gives (asked ops (Pull row.server at) sim) (IsAfter ops state (Pull row.server at) sim core' returned)) (sim : Sim T) (h : ServerAt state scene core clients row sim) where
  pulled : Gives (asked ops (Pull row.server at) sim) (IsAfter ops state (Pull row.server at) sim core' returned)
  pulled = pulls sim h.at.run

  the_pull : Entry T
  the_pull = entry (Pull row.server at) returned

  -- the simulation after the pull
  pub after_pull : Sim T
  after_pull = pulled.value

  trace_is : after_pull.trace ≡ sim.trace ++ the_pull ∷ []
  unfolding after_pull the_pull
  trace_is = after_trace ops state (Pull row.server at) sim pulled.value core' returned pulled.holds

  turn_is : server_turn ops at row.server sim ≡ respond_to ops row.server (grant_in returned) after_pull
  unfolding after_pull
  turn_is = ap (λ r. r >>= λ (u : Sim T). respond_to ops row.server (grant_in ((cluster_step ops sim.run (Pull row.server at)).1)) u) pulled.is ∙ ap (λ r. respond_to ops row.server (grant_in r) pulled.value) pulled.holds.returned_is

  -- no client's counts change
  pub clients_after : ClientsAt state scene core' clients after_pull
  unfolding after_pull the_pull
  clients_after = record {
    run = pulled.holds.run;
    counted = subst (λ (t : List (Entry T)). All (IsCounted scene t) clients) (sym trace_is) (λ k d w. still_counted scene sim.trace (sim.trace ++ the_pull ∷ []) (get_or clients k d) (same_counts (get_or clients k d).scene.id sim.trace the_pull refl refl refl) (h.at.counted k d w));
  }

  -- how the grants of a phase grow
  grown : (phase : PhaseType) → granted_by row.server phase after_pull.trace ≡ granted_by row.server phase sim.trace + one_if (is_granted_in phase (grant_in returned))
  unfolding the_pull
  grown phase = ap (granted_by row.server phase) trace_is ∙ granted_more sim.trace the_pull row.server phase ∙ ap (λ b. granted_by row.server phase sim.trace + one_if (b && is_granted_in phase (grant_in returned))) (eq-eqb row.server.0 row.server.0 refl)

  -- nothing is granted
  pub none_granted : grant_in returned ≡ None → Gives (server_turn ops at row.server sim) (ServerAt state scene core' clients row)
  none_granted none =
      let no : (phase : PhaseType) → one_if (is_granted_in phase (grant_in returned)) ≡ 0 = λ phase. ap (λ o. one_if (is_granted_in phase o)) none in
      record {
        value = after_pull;
        is = turn_is ∙ ap (λ o. respond_to ops row.server o after_pull) none;
        holds = record {
          at = clients_after;
          grants = record {
            reservation = omega (arith, grown Reservation, no Reservation, h.grants.reservation);
            priority = omega (arith, grown Priority, no Priority, h.grants.priority);
          };
        };
      }

  -- a request is granted, and its client responds
  module _ (grant : Grant) (granted : grant_in returned ≡ Some grant) (row' : ServerReport) (is : IsGranted grant.phase row row') where
    row_after : AreGrants after_pull.trace row'
    row_after =
        let one : (phase : PhaseType) → one_if (is_granted_in phase (grant_in returned)) ≡ one_if (is_phase phase grant.phase) = λ phase. ap (λ o. one_if (is_granted_in phase o)) granted in
        record {
          reservation = let e : row'.reservation ≡ granted_by row.server Reservation after_pull.trace = omega (arith, grown Reservation, one Reservation, h.grants.reservation, is.reservation) in e ∙ ap (λ (s : ServerId). granted_by s Reservation after_pull.trace) (sym is.server);
          priority = let e : row'.priority ≡ granted_by row.server Priority after_pull.trace = omega (arith, grown Priority, one Priority, h.grants.priority, is.priority) in e ∙ ap (λ (s : ServerId). granted_by s Priority after_pull.trace) (sym is.server);
        }

    pub one_granted : {A : Type 0} (core'' : CoreValue Q) (clients' : List SimClient) (result : Result A SimFault) → Ends (asked ops (Respond grant.client row.server grant.phase grant.cost) after_pull) (λ x. ClientsAt state scene core'' clients') result
        → Ends (server_turn ops at row.server sim) (λ x. ServerAt state scene core'' clients' row') result
    one_granted core'' clients' result ends =
        ends_as (asked ops (Respond grant.client row.server grant.phase grant.cost) after_pull) (server_turn ops at row.server sim) (λ x. ClientsAt state scene core'' clients') (λ x. ServerAt state scene core'' clients' row') result
        (turn_is ∙ ap (λ o. respond_to ops row.server o after_pull) granted)
        (λ x next e at'. record { at = at'; grants = still_granted after_pull.trace next.trace row' (asked_grants ops (Respond grant.client row.server grant.phase grant.cost) after_pull next e row'.server (λ phase. refl)) row_after })
        ends

-- ---- among all servers

server_at : (rows : List ServerReport) (k : ℕ) (d : ServerReport) → k < length rows → get_or (map (λ (r : ServerReport). r.server) rows) k d.server ≡ (get_or rows k d).server
server_at rows k d w = get_or-map (λ (r : ServerReport). r.server) rows k d d.server w

not_same : (a b : ServerId) → a.0 ≢ b.0 → is_server a b ≡ false
not_same a b ne = false_from_ne_true (is_server a b) (λ e. ne (sym (eqb-true b.0 a.0 e)))

-- two rows are of different servers
other_server : (rows : List ServerReport) → AllPairs AreDifferent (map (λ r. r.server) rows) → (k i : ℕ) (d : ServerReport) → k < length rows → i < length rows → k ≢ i → is_server (get_or rows k d).server (get_or rows i d).server ≡ false
other_server rows apart k i d kw iw ne = by (nat_lt k i) refl
  where
    number : (n : ℕ) → n < length rows → (get_or (map (λ (r : ServerReport). r.server) rows) n d.server).0 ≡ (get_or rows n d).server.0
    number n w = ap (λ (s : ServerId). s.0) (server_at rows n d w)

    long : length (map (λ (r : ServerReport). r.server) rows) ≡ length rows
    long = length-map rows (λ (r : ServerReport). r.server)

    by : (b : Bool) → nat_lt k i ≡ b → is_server (get_or rows k d).server (get_or rows i d).server ≡ false
    by true b = not_same _ _ (λ e. apart k i d.server (ltb-true k i b) (omega (arith, iw, long)) (number k kw ∙ e ∙ sym (number i iw)))
    by false b = let past = ltb-false k i b in not_same _ _ (λ e. apart i k d.server (omega (arith, past, ne)) (omega (arith, kw, long)) (number i iw ∙ sym e ∙ sym (number k kw)))

-- Server i serves, after those before it. All are the servers of the scene.
module _ {T Q : Type 0} (ops : Tagging T) (state : Q → State T) (scene : SceneValue) (at : ℕ) (core : CoreValue Q) (clients : List SimClient) (rows : List ServerReport) (all : List ServerId) (i : ℕ) (d : ServerReport) (within : i < length rows)
    (servers : map (λ r. r.server) rows ≡ all) (apart : AllPairs AreDifferent all) (whole : Result (Sim T) Refusal) (r : Reaches whole (each_in_turn (server_turn ops at) (drop i all)) (AllAt state scene core clients rows)) where
  long : i < length all
  long = let e : length all ≡ length rows = ap length (sym servers) ∙ length-map rows (λ (x : ServerReport). x.server) in omega (arith, e, within)

  turn_of : server_turn ops at (get_or all i d.server) r.value ≡ server_turn ops at (get_or rows i d).server r.value
  turn_of = ap (λ (s : ServerId). server_turn ops at s r.value) (ap (λ ss. get_or ss i d.server) (sym servers) ∙ server_at rows i d within)

  -- the server before its turn
  pub one_at : ServerAt state scene core clients (get_or rows i d) r.value
  one_at = record { at = r.holds.at; grants = r.holds.grants i d within }

  -- the turn is taken
  pub one_served : (core' : CoreValue Q) (clients' : List SimClient) (new : ServerReport) → Gives (server_turn ops at (get_or rows i d).server r.value) (ServerAt state scene core' clients' new)
      → Reaches whole (each_in_turn (server_turn ops at) (drop (i + 1) all)) (AllAt state scene core' clients' (set rows i new))
  one_served core' clients' new given = turn_taken (server_turn ops at) all i d.server long whole (AllAt state scene core clients rows) r (AllAt state scene core' clients' (set rows i new)) (record {
    value = given.value;
    is = turn_of ∙ given.is;
    holds = record {
      at = given.holds.at;
      grants = all_with (AreGrants given.value.trace) rows i new given.holds.grants (λ k e w ne.
          let other = other_server rows (subst (AllPairs AreDifferent) (sym servers) apart) k i d w within ne in
          let same : get_or rows k d ≡ get_or rows k e = get_or_default rows k d e w in
          let apart_from : is_server (get_or rows k e).server (get_or rows i d).server ≡ false = subst (λ (x : ServerReport). is_server x.server (get_or rows i d).server ≡ false) same other in
          still_granted r.value.trace given.value.trace (get_or rows k e) (server_turn_grants ops at (get_or rows i d).server r.value given.value given.is (get_or rows k e).server apart_from) (r.holds.grants k e w));
    };
  })

  -- it is refused
  pub one_unserved : (refusal : Refusal) → server_turn ops at (get_or rows i d).server r.value ≡ Err refusal → whole ≡ Err refusal
  one_unserved refusal e = turn_refused (server_turn ops at) all i d.server long whole (AllAt state scene core clients rows) r refusal (turn_of ∙ e)
