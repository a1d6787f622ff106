-- Adds that are refused at the limit: what is queued is within its limit soon after its client's last arrival.
use Rattle.std.proofs.Common.{◌≡◌, ℕ, ◌+◌, ◌<◌, ◌≤◌, Bool, true, false, not, List, [], ◌∷◌, map, take, Option, Some, None, refl, sym, ap, ◌∙◌, subst, inl, inr, arith}
use Rattle.std.specs.Prelude.{◌⊎◌, nat_lt, nat_le}
use Rattle.std.specs.List.{AllByRecursion}
use Rattle.std.specs.Cmp.{IsTotalOrder}
use Rattle.std.proofs.lemmas.Bool.{cases_lt}
use Rattle.std.proofs.lemmas.Bool.Decides.{nat_tests}
use Rattle.dmc_types.specs.Values.{Setting}
use Rattle.dmc_types.specs.declared.ids.ClientId.{ClientId}
use Rattle.dmc_types.specs.declared.ids.Token.{Token}
use Rattle.dmc_types.specs.declared.config.AtLimit.TheVariants.{Reject}
use Rattle.dmc_types.specs.declared.config.Counting.{Counting}
use Rattle.dmc_types.specs.declared.command.Command.{Command}
use Rattle.dmc_types.specs.declared.command.Command.TheVariants.{Register, Update, Add, Pull, Remove, Cancel, Clean}
use Rattle.dmc_tag.specs.Tag.{Fraction, Tagging, IsExact}
use Rattle.dmc_tag.specs.Best.{Found, HasNone, is_due, is_free}
use Rattle.dmc_tag.specs.Cancel.{charged_to, no_befores, without_token}
use Rattle.dmc_tag.specs.Order.{AtMost}
use Rattle.dmc_tag.specs.Rules as rules_of
use Rattle.dmc_tag.specs.Rules.{Outcome, moment_of}
use Rattle.dmc_tag.specs.State.{State, PlainClient, effective, is_busy, is_client, queued_requests, opening}
use Rattle.dmc_tag.specs.Step.{answer_of, outcome, step}
use Rattle.dmc_tag.specs.declared.event.Event.{Event}
use Rattle.dmc_tag.specs.declared.plain.QueuedRequest.{QueuedRequest}
use Rattle.dmc_tag.specs.declared.plain.Slack.{Slack}
use Rattle.dmc_tag.specs.declared.reply.Reply.TheVariants.{Tagged, Later}
use Rattle.dmc_tag.specs.declared.reply.Tags.{Tags}
use Rattle.dmc_lemmas.proofs.Lists.{all_as, all_at, all_both, all_filtered, all_first, all_second, all_mapped, all_next}
use Rattle.dmc_tag.proofs.Active.{either}
use Rattle.dmc_tag.proofs.Upto.{due_before}
use Rattle.dmc_tag.proofs.ForCallers.{due_from_ceil, future_is_exact}
use Rattle.dmc_history_laws.specs.Rejecting.{AreAddedInTime, AreQueuedInTime, IsFutureInTime}
use Rattle.dmc_history_laws.specs.Shares.{before}
use Rattle.dmc_history_laws.proofs.Basics.{bind_goes, add_gives}
use Rattle.dmc_history_laws.proofs.Credit.{Sound, sound_before, step_at}
use Rattle.dmc_history_laws.proofs.Falling.{IsSlack, limit, lower_stay}
use Rattle.dmc_history_laws.proofs.Histories.{after_from, sound_step, sound_opening}
use Rattle.dmc_history_laws.proofs.InTurn.{AreInTurn, IsGrant, IsInTurn, pull_is}
use Rattle.dmc_history_laws.proofs.TurnKept.{were_in_turn}
use Rattle.dmc_history_laws.proofs.TurnSteps.{paid_by}

module _ {T : Type 0} (ops : Tagging T) (threshold : ℕ) where
  abbrev InTime : ℕ → QueuedRequest T → Type 0
  InTime arrived r = moment_of (ops.ceil r.tags.l) ≤ arrived + threshold

  -- a client that arrived last at this moment or before, and its requests
  record IsInTime (last : ℕ) (c : PlainClient T) : Type 0 where
    pub arrived : c.last_arrival ≤ last
    pub requests : AllByRecursion (InTime c.last_arrival) c.requests

  abbrev AreInTime : State T → Type 0
  AreInTime s = AllByRecursion (IsInTime s.last_moment) s.clients

  later : {last next : ℕ} → last ≤ next → (c : PlainClient T) → IsInTime last c → IsInTime next c
  later h c is = record { arrived = omega (arith, h, is.arrived); requests = is.requests }

  all_later : {last next : ℕ} → last ≤ next → (clients : List (PlainClient T)) → AllByRecursion (IsInTime last) clients → AllByRecursion (IsInTime next) clients
  all_later h = all_as (IsInTime _) (IsInTime _) (later h)

  goes_on : (s : State T) (at : ℕ) → s.last_moment ≤ effective s at
  goes_on s at = omega arith

  -- a change of the clients, at a moment that is no earlier
  changed : (s : State T) (t : ℕ) → s.last_moment ≤ t → (f : PlainClient T → PlainClient T) → ((c : PlainClient T) → IsInTime t c → IsInTime t (f c)) → AreInTime s → AllByRecursion (IsInTime t) (map f s.clients)
  changed s t h f keeps is = all_mapped (IsInTime t) (IsInTime t) f keeps s.clients (all_later h s.clients is)

  -- a change of one client
  one_changed : (s : State T) (t : ℕ) → s.last_moment ≤ t → (id : ClientId) (f : PlainClient T → PlainClient T) → ((c : PlainClient T) → IsInTime t c → IsInTime t (f c)) → AreInTime s → AllByRecursion (IsInTime t) (rules_of.change_client id f s.clients)
  one_changed s t h id f keeps = changed s t h _ (λ c is. either (IsInTime t) (is_client id c.id) (f c) c (keeps c is) is)

  -- ---- an add

  shifted_in_time : (t : ℕ) (amount : T) (c : PlainClient T) → IsInTime t c → IsInTime t (rules_of.shifted_client ops amount c)
  shifted_in_time t amount c is = either (IsInTime t) c.idle c (rules_of.less_shares ops amount c) is (record {
    arrived = is.arrived;
    requests = all_mapped (InTime c.last_arrival) (InTime c.last_arrival) (rules_of.less_share ops amount) (λ r h. h) c.requests is.requests;
  })

  all_shifted : (s : State T) (shift : Option T) → AreInTime s → AreInTime (record s { clients = rules_of.shifted_by ops shift s.clients })
  all_shifted s None is = is
  all_shifted s (Some amount) is = all_mapped (IsInTime s.last_moment) (IsInTime s.last_moment) (rules_of.shifted_client ops amount) (shifted_in_time s.last_moment amount) s.clients is

  within : (t : ℕ) (l : T) → rules_of.is_over_limit ops (Reject threshold) t l ≡ false → moment_of (ops.ceil l) ≤ t + threshold
  within t l e = let test : nat_lt (t + threshold) (moment_of (ops.ceil l)) ≡ false = e in grind (arith, nat_tests)

  arrived_in_time : (t : ℕ) (r : QueuedRequest T) → moment_of (ops.ceil r.tags.l) ≤ t + threshold → (c : PlainClient T) → IsInTime t c → IsInTime t (rules_of.after_arrival r t c)
  arrived_in_time t r h c is = record {
    arrived = omega arith;
    requests = all_next (InTime t) c.requests r (all_as (InTime c.last_arrival) (InTime t) (λ x k. let early = is.arrived in omega (arith, k, early)) c.requests is.requests) h;
  }

  -- ---- a pull

  reduced_in_time : (t : ℕ) (amount : Option T) (c : PlainClient T) → IsInTime t c → IsInTime t (rules_of.reduced_by ops amount c)
  reduced_in_time t None c is = is
  reduced_in_time t (Some amount) c is = record {
    arrived = is.arrived;
    requests = all_mapped (InTime c.last_arrival) (InTime c.last_arrival) (rules_of.less_reservation ops amount) (λ r h. h) c.requests is.requests;
  }

  without_first : (t : ℕ) (c : PlainClient T) (r : QueuedRequest T) (others : List (QueuedRequest T)) → c.requests ≡ r ∷ others → IsInTime t c → IsInTime t (rules_of.with_requests others c)
  without_first t c r others e is = record { arrived = is.arrived; requests = (subst (AllByRecursion (InTime c.last_arrival)) e is.requests).1 }

  module _ (fraction : T → Fraction) (is_value : Fraction → Type 0) (exact : IsExact ops fraction is_value) (order : IsTotalOrder ops.compare) (s : State T) (some : 0 < s.config.hz) (rejects : s.config.at_limit ≡ Reject threshold) (turn : AreInTurn ops order s) (is : AreInTime s) where
    abbrev Stays : Outcome T → Type 0
    Stays o = AreInTime ((answer_of s o).0)

    grant_stays : (t : ℕ) → s.last_moment ≤ t → (found : Found T) (amount : Option T) (phase : _) (beyond : Bool) → IsGrant ops s t found amount phase beyond → AreInTime (rules_of.taken_out ops s t found phase amount)
    grant_stays t h found amount phase beyond g =
        let own : IsInTime t found.client = all_at (IsInTime t) g.front found.client g.back (subst (AllByRecursion (IsInTime t)) g.whole (all_later h s.clients is)) in
        let after : IsInTime t (rules_of.after_grant ops found amount) = reduced_in_time t amount _ (without_first t found.client found.request found.others g.first own) in
        one_changed s t h found.client.id (λ c. rules_of.after_grant ops found amount) (λ c _. after) is

    -- a tag that is not above is no later
    no_later : (n : ℕ) (a b : T) → AtMost ops a b → moment_of (ops.ceil b) ≤ n → moment_of (ops.ceil a) ≤ n
    no_later n a b under h =
        let due : is_due ops n (Some b) ≡ true = due_from_ceil ops fraction is_value exact b n ∙ grind (arith, nat_tests) in
        let test : nat_le (moment_of (ops.ceil a)) n ≡ true = sym (due_from_ceil ops fraction is_value exact a n) ∙ due_before ops order n (Some a) (Some b) under due in
        grind (arith, nat_tests)

    cancel_stays : (id : ClientId) (token : Token) (counting : Counting) → AreInTime (record s { clients = rules_of.change_client id (λ c. without_token ops token (charged_to ops s.config.hz counting c) c) s.clients })
    cancel_stays id token counting = all_mapped (λ c. IsInTurn ops order c × IsInTime s.last_moment c) (IsInTime s.last_moment) _ (λ c h. either (IsInTime s.last_moment) (is_client id c.id) _ c (without c h.0 h.1) h.1) s.clients (all_both _ _ s.clients turn.clients is) where
      without : (c : PlainClient T) → IsInTurn ops order c → IsInTime s.last_moment c → IsInTime s.last_moment (without_token ops token (charged_to ops s.config.hz counting c) c)
      without c turn h =
          let charged : ℕ → Slack T = charged_to ops s.config.hz counting c in
          let paid : (cost : ℕ) → IsSlack ops (charged cost) = paid_by ops fraction is_value exact order s.config.hz counting c some in
          record {
            arrived = h.arrived;
            requests = lower_stay ops fraction is_value exact order limit token charged (λ cost. paid cost limit) (λ l. moment_of (ops.ceil l) ≤ c.last_arrival + threshold) (no_later (c.last_arrival + threshold)) no_befores c.requests c.previous (were_in_turn ops order fraction is_value exact c token charged paid turn limit) h.requests;
          }

    step_stays : (c : Command) → AreInTime ((step ops s c).0)
    step_stays (Register id info at) = bind_goes Stays (rules_of.can_register ops s id info) _ (λ e. is) (λ u e.
        all_next (IsInTime (effective s at)) s.clients (rules_of.newcomer ops id info (effective s at)) (all_later (goes_on s at) s.clients is) (record { arrived = omega arith; requests = tt }))
    step_stays (Update id info at) = bind_goes Stays (rules_of.can_update ops s id info) _ (λ e. is) (λ u e.
        one_changed s (effective s at) (goes_on s at) id (rules_of.with_info info) (λ c h. record { arrived = h.arrived; requests = h.requests }) is)
    step_stays (Add client token params at) = bind_goes Stays (rules_of.can_add ops s client params (effective s at)) _ (λ e. is) (λ x e.
        let c = add_gives ops s client params (effective s at) x e in
        let r : QueuedRequest T = rules_of.request_of token params.cost x in
        let fits = within (effective s at) x.tags.l (subst (λ limit. rules_of.is_over_limit ops limit (effective s at) x.tags.l ≡ false) rejects c.within) in
        one_changed (record s { clients = rules_of.shifted_by ops x.shift s.clients }) (effective s at) (goes_on s at) client (rules_of.after_arrival r (effective s at)) (arrived_in_time (effective s at) r fits) (all_shifted s x.shift is))
    step_stays (Pull at) = pull_is ops order s (effective s at) turn.clients Stays (λ e. is) (λ m. all_later (goes_on s at) s.clients is) (all_later (goes_on s at) s.clients is) (grant_stays (effective s at) (goes_on s at))
    step_stays (Remove id) = bind_goes Stays (rules_of.can_remove s id) _ (λ e. is) (λ c e.
        one_changed s s.last_moment (omega arith) id (rules_of.with_requests []) (λ c h. record { arrived = h.arrived; requests = tt }) is)
    step_stays (Cancel id token counting) = bind_goes Stays (rules_of.can_remove s id) _ (λ e. is) (λ c e. cancel_stays id token counting)
    step_stays (Clean at) =
        all_mapped (IsInTime (effective s at)) (IsInTime (effective s at)) (rules_of.with_idle_mark s (effective s at)) (λ c h. record { arrived = h.arrived; requests = h.requests }) _ (all_filtered (IsInTime (effective s at)) (λ c. not (rules_of.is_erased s (effective s at) c)) s.clients (all_later (goes_on s at) s.clients is))

-- ---- over histories

module _ {T : Type 0} (ops : Tagging T) (fraction : T → Fraction) (is_value : Fraction → Type 0) (exact : IsExact ops fraction is_value) (order : IsTotalOrder ops.compare) (config : Setting) (some : 0 < config.hz) (threshold : ℕ) (rejects : config.at_limit ≡ Reject threshold) where
  in_time_from : (s : State T) (es : List (Event T)) → Sound ops fraction is_value exact order config some s → AreInTime ops threshold s → AreInTime ops threshold (after_from ops s es)
  in_time_from s [] is h = h
  in_time_from s (e ∷ es) is h =
      in_time_from ((step ops s e.command).0) es (sound_step ops fraction is_value exact order config some s e.command is)
      (step_stays ops threshold fraction is_value exact order s (subst (λ k. 0 < k.hz) (sym is.same) some) (ap (λ k. k.at_limit) is.same ∙ rejects) is.turn h e.command)

  in_time_after : (es : List (Event T)) → AreInTime ops threshold (after_from ops (opening ops config) es)
  in_time_after es = in_time_from (opening ops config) es (sound_opening ops fraction is_value exact order config some) tt

  pub queued_in_time : AreQueuedInTime ops config threshold
  queued_in_time history replay =
      all_as (IsInTime ops threshold _) _ (λ c h. h.requests) _ (in_time_after history)

  pub added_in_time : AreAddedInTime ops config threshold
  added_in_time history replay number event client token params at tags here command reply =
      let s = before ops config history number in
      let sound = sound_before ops fraction is_value exact order config some history number in
      let is = step_at ops fraction is_value exact order config some history number event replay here in
      let answered : (step ops s (Add client token params at)).1 ≡ Tagged tags = ap (λ c. (step ops s c).1) (sym command) ∙ sym is.reply_is ∙ reply in
      bind_goes (λ o. (answer_of s o).1 ≡ Tagged tags → moment_of (ops.ceil tags.l) ≤ effective s at + threshold) (rules_of.can_add ops s client params (effective s at)) _
      (λ e q. cc)
      (λ x e q.
      let given : x.tags ≡ tags = cc in
      let c = add_gives ops s client params (effective s at) x e in
      let limit = ap (λ k. k.at_limit) sound.same ∙ rejects in
      subst (λ (tags : Tags T). moment_of (ops.ceil tags.l) ≤ effective s at + threshold) given
      (within ops threshold (effective s at) x.tags.l (subst (λ limit. rules_of.is_over_limit ops limit (effective s at) x.tags.l ≡ false) limit c.within)))
      answered

  -- ---- a Future

  free_is : (n : ℕ) (r : QueuedRequest T) → is_free ops n r ≡ nat_le (moment_of (ops.ceil r.tags.l)) n
  free_is n r = due_from_ceil ops fraction is_value exact r.tags.l n

  module _ (m : ℕ) where
    abbrev NotBefore : QueuedRequest T → Type 0
    NotBefore r = m ≤ moment_of (ops.ceil r.tags.l)

    not_before : (xs : List (QueuedRequest T)) → ((n : ℕ) → n < m → HasNone (is_free ops n) xs) → AllByRecursion NotBefore xs
    not_before [] none = tt
    not_before (x ∷ xs) none = (by (cases_lt (moment_of (ops.ceil x.tags.l)) m), not_before xs (λ n h. (none n h).1)) where
      by : (moment_of (ops.ceil x.tags.l) < m) ⊎ (m ≤ moment_of (ops.ceil x.tags.l)) → NotBefore x
      by (inl early) =
          let n = moment_of (ops.ceil x.tags.l) in
          let free : nat_le n n ≡ false = sym (free_is n x) ∙ (none n early).0 in
          grind (arith, nat_tests)
      by (inr h) = h

    of_each : (clients : List (PlainClient T)) → AllByRecursion NotBefore (queued_requests clients) → AllByRecursion (λ c. AllByRecursion NotBefore c.requests) clients
    of_each [] h = tt
    of_each (c ∷ cs) h = (all_first NotBefore c.requests (queued_requests cs) h, of_each cs (all_second NotBefore c.requests (queued_requests cs) h))

    due_in_time : (last : ℕ) (c : PlainClient T) → IsInTime ops threshold last c × AllByRecursion NotBefore c.requests → is_busy c ≡ true → m ≤ c.last_arrival + threshold
    due_in_time last c h busy = at c.requests refl h.0.requests h.1 where
      at : (xs : List (QueuedRequest T)) → c.requests ≡ xs → AllByRecursion (InTime ops threshold c.last_arrival) xs → AllByRecursion NotBefore xs → m ≤ c.last_arrival + threshold
      at [] e in_time not_before = absurd (let none : is_busy c ≡ false = ap (λ rs. is_busy (record c { requests = rs })) e in cc)
      at (x ∷ xs) e in_time not_before = let soon = in_time.0 in let late = not_before.0 in omega (arith, soon, late)

    -- only a pull replies Future
    abbrev IsLater : State T → Outcome T → Type 0
    IsLater s o = (answer_of s o).1 ≡ Later m → AllByRecursion (λ (c : PlainClient T). is_busy c ≡ true → m ≤ c.last_arrival + threshold) s.clients

    future_of : (s : State T) (c : Command) → AreInTime ops threshold s → IsLater s (outcome ops s c)
    future_of s c h = by c where
      by : (c : Command) → IsLater s (outcome ops s c)
      by (Register id info at) = bind_goes (IsLater s) (rules_of.can_register ops s id info) _ (λ e q. cc) (λ u e q. cc)
      by (Update id info at) = bind_goes (IsLater s) (rules_of.can_update ops s id info) _ (λ e q. cc) (λ u e q. cc)
      by (Add client token params at) = bind_goes (IsLater s) (rules_of.can_add ops s client params (effective s at)) _ (λ e q. cc) (λ x e q. cc)
      by (Pull at) = λ q.
          let next = future_is_exact ops fraction is_value exact order s at m q in
          all_as _ _ (due_in_time s.last_moment) s.clients (all_both _ _ s.clients h (of_each s.clients (not_before _ next.none_free)))
      by (Remove id) = bind_goes (IsLater s) (rules_of.can_remove s id) _ (λ e q. cc) (λ c e q. cc)
      by (Cancel id token counting) = bind_goes (IsLater s) (rules_of.can_remove s id) _ (λ e q. cc) (λ c e q. cc)
      by (Clean at) = λ q. cc

  pub future_in_time : IsFutureInTime ops config threshold
  future_in_time history replay number event m here reply =
      let is = step_at ops fraction is_value exact order config some history number event replay here in
      future_of m (before ops config history number) event.command (in_time_after (take number history)) (sym is.reply_is ∙ reply)
