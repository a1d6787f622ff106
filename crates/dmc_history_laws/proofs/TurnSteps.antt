-- Each command keeps the requests of each client in order of their tags.
use Rattle.std.proofs.Common.{◌≡◌, ℕ, zero, suc, ◌<◌, Bool, true, false, not, ◌&&◌, ◌||◌, List, [], map, Option, Some, None, Result, Ok, Err, refl, sym, ap, ◌∙◌, subst, arith, inl, inr}
use Rattle.std.specs.Prelude.{◌⊎◌, pos, ◌*ℤ◌, ⊤, if◌then◌else◌, is_some, IfSome, filter, nat_le, ◌-◌}
use Rattle.std.specs.List.{AllByRecursion}
use Rattle.std.specs.Option.{ok_or, option_map}
use Rattle.std.specs.Result.{result_ok}
use Rattle.std.specs.Cmp.{IsTotalOrder}
use Rattle.std.proofs.lemmas.Int.{ints}
use Rattle.std.proofs.Math.IntN.{*ℤ-zero}
use Rattle.dmc_types.specs.Values.{Params, Rates, AreRates, IsRate}
use Rattle.dmc_types.specs.declared.ids.ClientId.{ClientId}
use Rattle.dmc_types.specs.declared.ids.Token.{Token}
use Rattle.dmc_types.specs.declared.refusal.Refusal.TheVariants.{Known, Unknown, Busy}
use Rattle.dmc_types.specs.declared.refusal.Field.{Field}
use Rattle.dmc_types.specs.declared.refusal.Field.TheVariants.{Reservation, Weight, Limit}
use Rattle.dmc_types.specs.declared.config.Counting.{Counting}
use Rattle.dmc_types.specs.declared.config.Shares.{Shares}
use Rattle.dmc_types.specs.declared.command.Command.{Command}
use Rattle.dmc_types.specs.declared.command.Command.TheVariants.{Register, Update, Add, Pull, Remove, Cancel, Clean}
use Rattle.dmc_tag.specs.Tag.{Fraction, Tagging, IsExact}
use Rattle.dmc_tag.specs.Order.{AreNext, AreSpacings}
use Rattle.dmc_tag.specs.Cancel.{charged_to, without_token}
use Rattle.dmc_tag.specs.Outcome.{refuse_if, in_range, exactly}
use Rattle.dmc_tag.specs.Spacing.{spacing_of, optional_spacing, spacings_of}
use Rattle.dmc_tag.specs.State.{State, PlainClient, is_client, is_busy, client_named, effective}
use Rattle.dmc_tag.specs.Best.{Found, best_of_all, by_weight, is_any}
use Rattle.dmc_tag.specs.Rules as rules_of
use Rattle.dmc_tag.specs.Rules.{Outcome, Addition}
use Rattle.dmc_tag.specs.Step.{answer_of, outcome}
use Rattle.dmc_tag.specs.declared.plain.Progress.{Progress}
use Rattle.dmc_tag.specs.declared.plain.QueuedRequest.{QueuedRequest}
use Rattle.dmc_tag.specs.declared.spacing.Spacings.{Spacings}
use Rattle.dmc_tag.specs.declared.reply.Tags.{Tags}
use Rattle.dmc_tag.proofs.TagOrder.{given, bound, from_option, from_range, positive, next_tags_follow, spacings_not_below}
use Rattle.dmc_tag.proofs.Active.{either, granted_id, same_client}
use Rattle.dmc_lemmas.proofs.Lists.{all_as, all_at, all_both, all_filtered, all_mapped, all_next, each_passes, found_holds}
use Rattle.dmc_history_laws.proofs.Basics.{bind_goes, add_gives, from_ok, allowed}
use Rattle.dmc_history_laws.proofs.Falling.{IsSlack}
use Rattle.dmc_history_laws.proofs.InTurn.{pull_is, IsGrant, IsInTurn, AreInTurn}
use Rattle.dmc_history_laws.proofs.Named.{named_mapped}
use Rattle.dmc_history_laws.proofs.Pairs.{Differ, ids-kept, nobody, only_one, pairs_kept, pairs_more}
use Rattle.dmc_history_laws.proofs.Slacks.{arrives_with_slack, charges_not_below, no_slack}
use Rattle.dmc_history_laws.proofs.TurnKept.{turn_empty, turn_without_first, turn_updated, turn_marked, turn_reduced, turn_shifted, turn_arrived, turn_cancelled}

module _ {T : Type 0} (ops : Tagging T) (fraction : T → Fraction) (is_value : Fraction → Type 0) (exact : IsExact ops fraction is_value) (order : IsTotalOrder ops.compare) where
  -- ---- rates

  -- a rate that has a spacing is above 0
  pub spacing_rate : (hz rate : ℕ) (s : T) → 0 < hz → ops.spacing hz rate ≡ Some s → 0 < rate
  spacing_rate hz rate s some e = at rate (given ops fraction is_value exact (ops.spacing hz rate) _ s (exact.spacing hz rate) e) where
    at : (q : ℕ) → (fraction s).numer *ℤ pos q ≡ pos hz *ℤ pos (fraction s).denom → 0 < q
    at zero h =
        let more = positive hz (fraction s).denom some (exact.denom s) in
        absurd (omega (arith, ints, *ℤ-zero (fraction s).numer))
    at (suc q) h = omega arith

  optional_rate : (hz : ℕ) (field : Field) (rate : Option ℕ) (spacing : Option T) → 0 < hz → optional_spacing ops hz field rate ≡ Ok spacing → IfSome rate IsRate
  optional_rate hz field None spacing some e = tt
  optional_rate hz field (Some rate) spacing some e =
      let found = bound (spacing_of ops hz field rate) _ spacing e in
      spacing_rate hz rate found.0 some (from_option _ _ _ found.1)

  rates_of : (hz : ℕ) (info : Rates) (spacings : Spacings T) → 0 < hz → spacings_of ops hz info ≡ Ok spacings → AreRates info.reservation info.weight info.limit
  rates_of hz info spacings some e =
      let r = bound (optional_spacing ops hz Reservation info.reservation) _ spacings e in
      let p = bound (spacing_of ops hz Weight info.weight) _ spacings r.2 in
      let l = bound (optional_spacing ops hz Limit info.limit) _ spacings p.2 in
      record {
        reserved = optional_rate hz Reservation info.reservation r.0 some r.1;
        weighed = spacing_rate hz info.weight p.0 some (from_option _ _ _ p.1);
        limited = optional_rate hz Limit info.limit l.0 some l.1;
      }

  pub assigned_next : (hz : ℕ) (c : PlainClient T) (params : Params) (t floor : T) (tags : Tags T) → 0 < hz → rules_of.assigned ops hz c params t floor ≡ Ok tags → AreNext ops c.info c.previous tags
  assigned_next hz c params t floor tags some e =
      let sp = bound (in_range (result_ok (spacings_of ops hz c.info))) _ tags e in
      let spaced = from_ok _ _ (from_range _ _ sp.1) in
      next_tags_follow ops fraction is_value exact order c.info sp.0 c.previous params t floor tags (spacings_not_below ops fraction is_value exact hz c.info sp.0 (rates_of hz c.info sp.0 some spaced) spaced) sp.2

  -- ---- outcomes

  abbrev Turn : State T → Type 0
  Turn s = AreInTurn ops order s

  abbrev Stays : State T → Outcome T → Type 0
  Stays s o = Turn ((answer_of s o).0) × (((answer_of s o).0).config ≡ s.config)

  -- the virtual time does not matter for that
  progressed : (s : State T) (progress : Progress T) → Turn s → Turn (record s { progress = progress })
  progressed s progress is = record { clients = is.clients; distinct = is.distinct }

  -- a change of each client keeps its turn and its id
  changed : (s : State T) (f : PlainClient T → PlainClient T) (t : ℕ) → AllByRecursion (λ c. IsInTurn ops order (f c)) s.clients → ((c : PlainClient T) → (f c).id ≡ c.id) → Turn s → Turn (record s { clients = map f s.clients; last_moment = t })
  changed s f t turn ids is = record { clients = all_mapped (λ c. IsInTurn ops order (f c)) (IsInTurn ops order) f (λ c h. h) s.clients turn; distinct = ids-kept f ids s.clients is.distinct }

  -- a change of one client, which is found under its id
  one_changed : (s : State T) (id : ClientId) (f : PlainClient T → PlainClient T) (c : PlainClient T) (t : ℕ) → client_named id s.clients ≡ Some c → IsInTurn ops order (f c) → ((d : PlainClient T) → is_client id d.id ≡ true → (f d).id ≡ d.id) → Turn s → Turn (record s { clients = rules_of.change_client id f s.clients; last_moment = t })
  one_changed s id f c t named turn ids is = changed s (λ d. if is_client id d.id then f d else d) t
      (all_as (λ d. IsInTurn ops order d × (is_client id d.id ≡ true → d ≡ c)) _ (λ d h. at d h (is_client id d.id) refl) s.clients (all_both _ _ s.clients is.clients (only_one id s.clients c is.distinct named)))
      (λ d. kept d (is_client id d.id) refl) is
    where
      at : (d : PlainClient T) → IsInTurn ops order d × (is_client id d.id ≡ true → d ≡ c) → (b : Bool) → is_client id d.id ≡ b → IsInTurn ops order (if b then f d else d)
      at d h true e = subst (λ d. IsInTurn ops order (f d)) (sym (h.1 e)) turn
      at d h false e = h.0

      kept : (d : PlainClient T) (b : Bool) → is_client id d.id ≡ b → (if b then f d else d).id ≡ d.id
      kept d true e = ids d e
      kept d false e = refl

  -- what is found under an id is in turn
  pub found_turn : (clients : List (PlainClient T)) (id : ClientId) (c : PlainClient T) → client_named id clients ≡ Some c → AllByRecursion (IsInTurn ops order) clients → IsInTurn ops order c
  found_turn clients id c named turn = found_holds (IsInTurn ops order) (λ d. is_client id d.id) clients c turn named

  -- ---- add

  shifted_id : (amount : T) (c : PlainClient T) → (rules_of.shifted_client ops amount c).id ≡ c.id
  shifted_id amount c = either (λ z. z.id ≡ c.id) c.idle c _ refl refl

  -- the client as the adjustment leaves it
  abbrev pub left_by : Option T → PlainClient T → PlainClient T
  left_by None c = c
  left_by (Some amount) c = rules_of.shifted_client ops amount c

  pub named_shifted : (shift : Option T) (id : ClientId) (clients : List (PlainClient T)) (c : PlainClient T) → client_named id clients ≡ Some c → client_named id (rules_of.shifted_by ops shift clients) ≡ Some (left_by shift c)
  named_shifted None id clients c e = e
  named_shifted (Some amount) id clients c e = named_mapped id (rules_of.shifted_client ops amount) (shifted_id amount) clients ∙ ap (option_map (rules_of.shifted_client ops amount)) e

  pub info_shifted : (shift : Option T) (c : PlainClient T) → (left_by shift c).info ≡ c.info
  info_shifted None c = refl
  info_shifted (Some amount) c = either (λ z. z.info ≡ c.info) c.idle c _ refl refl

  shifted_turn : (s : State T) (shift : Option T) → rules_of.can_shift_by ops shift s.clients ≡ true → Turn s → Turn (record s { clients = rules_of.shifted_by ops shift s.clients })
  shifted_turn s None can is = is
  shifted_turn s (Some amount) can is = changed s (rules_of.shifted_client ops amount) s.last_moment
      (all_as (λ c. (rules_of.client_can_shift ops amount c ≡ true) × IsInTurn ops order c) _ (λ c h. turn_shifted ops order fraction is_value exact c amount h.0 h.1) s.clients (all_both _ _ s.clients (each_passes (rules_of.client_can_shift ops amount) s.clients can) is.clients))
      (shifted_id amount) is

  -- there is a shift only if the arriving client is idle
  shift_idle : (shares : Shares) (clients : List (PlainClient T)) (c : PlainClient T) (t amount : T) → rules_of.shift_of ops shares clients c t ≡ Ok (Some amount) → c.idle ≡ true
  shift_idle shares clients c t amount e = at (rules_of.adjusts shares) c.idle refl e where
    at : (a b : Bool) → c.idle ≡ b → (if a && b then rules_of.shift_from ops t (best_of_all ops by_weight is_any clients) else Ok None) ≡ Ok (Some amount) → c.idle ≡ true
    at true true i e = i
    at true false i e = cc
    at false b i e = cc

  idle_or_next : (shift : Option T) (shares : Shares) (clients : List (PlainClient T)) (c : PlainClient T) (t : T) (tags : Tags T) → rules_of.shift_of ops shares clients c t ≡ Ok shift → AreNext ops c.info c.previous tags → ((left_by shift c).idle ≡ true) ⊎ AreNext ops (left_by shift c).info (left_by shift c).previous tags
  idle_or_next None shares clients c t tags e next = inr next
  idle_or_next (Some amount) shares clients c t tags e next = let idle = shift_idle shares clients c t amount e in inl (either (λ z. z.idle ≡ true) c.idle c _ idle idle)

  add_stays : (s : State T) (client : ClientId) (token : Token) (params : Params) (t : ℕ) → 0 < s.config.hz → Turn s → Stays s (rules_of.added ops s client token params t)
  add_stays s client token params t some is = bind_goes (Stays s) (rules_of.can_add ops s client params t) _ (λ e. (is, refl)) (λ x e. (at x e, refl)) where
    at : (x : Addition T) → rules_of.can_add ops s client params t ≡ Ok x → Turn (rules_of.queued ops s x.shift client (rules_of.request_of token params.cost x) t)
    at x e =
        let c = add_gives ops s client params t x e in
        let moved = shifted_turn s x.shift c.can is in
        let r : QueuedRequest T = rules_of.request_of token params.cost x in
        let left = left_by x.shift c.client in
        let next = assigned_next s.config.hz c.client params (ops.of_moment t) _ x.tags some c.tags in
        let named = named_shifted x.shift client s.clients c.client c.named in
        let reserved : is_some x.tags.r ≡ is_some left.info.reservation = next.reserved ∙ ap (λ i. is_some i.reservation) (sym (info_shifted x.shift c.client)) in
        let here : State T = record s { clients = rules_of.shifted_by ops x.shift s.clients } in
        let of_left : IsInTurn ops order left = found_turn here.clients client left named moved.clients in
        let of_client : IsInTurn ops order c.client = found_turn s.clients client c.client c.named is.clients in
        let slack : IsSlack ops x.slack = subst (IsSlack ops) c.slack (arrives_with_slack ops fraction is_value exact order s.config.hz c.client params (ops.of_moment t) _ x.tags c.tags of_client.left) in
        progressed _ _ (one_changed here client (rules_of.after_arrival r t) left t named (turn_arrived ops order fraction is_value exact left r t reserved (idle_or_next x.shift s.config.shares s.clients c.client (ops.of_moment t) x.tags c.shift next) slack of_left) (λ d _. refl) moved)

  -- ---- update

  update_stays : (s : State T) (id : ClientId) (info : Rates) (t : ℕ) → Turn s → Stays s (rules_of.updated ops s id info t)
  update_stays s id info t is = bind_goes (Stays s) (rules_of.can_update ops s id info) _ (λ e. (is, refl)) (λ u e. (at u e, refl)) where
    at : (u : ⊤) → rules_of.can_update ops s id info ≡ Ok u → Turn (record s { clients = rules_of.change_client id (rules_of.with_info info) s.clients; last_moment = t })
    at u e =
        let c = bound (ok_or (client_named id s.clients) Unknown) _ u e in
        let sp = bound (exactly (spacings_of ops s.config.hz info)) _ u c.2 in
        let kept = allowed (rules_of.changes_reservation c.0.info info && is_busy c.0) Busy u sp.2 in
        let named = from_option _ _ _ c.1 in
        one_changed s id (rules_of.with_info info) c.0 t named (turn_updated ops order c.0 info kept (found_turn s.clients id c.0 named is.clients)) (λ d _. refl) is

  -- ---- pull

  grant_stays : (s : State T) (t : ℕ) (found : Found T) (amount : Option T) (phase : _) (beyond : Bool) → IsGrant ops s t found amount phase beyond → Turn s → Turn (rules_of.taken_out ops s t found phase amount)
  grant_stays s t found amount phase beyond g is =
      let of_found : IsInTurn ops order found.client = all_at (IsInTurn ops order) g.front found.client g.back (subst (AllByRecursion (IsInTurn ops order)) g.whole is.clients) in
      let after : IsInTurn ops order (rules_of.after_grant ops found amount) = turn_reduced ops order fraction is_value exact (rules_of.with_requests found.others found.client) amount g.can (turn_without_first ops order found.client found.request found.others g.first of_found) in
      progressed _ _ (changed s (λ d. if is_client found.client.id d.id then rules_of.after_grant ops found amount else d) t
      (all_as (IsInTurn ops order) _ (λ d h. either (IsInTurn ops order) (is_client found.client.id d.id) _ d after h) s.clients is.clients)
      (λ d. kept d (is_client found.client.id d.id) refl) is)
    where
      kept : (d : PlainClient T) (b : Bool) → is_client found.client.id d.id ≡ b → (if b then rules_of.after_grant ops found amount else d).id ≡ d.id
      kept d true e = granted_id ops found amount ∙ sym (same_client found.client.id d.id e)
      kept d false e = refl

  -- ---- clean

  -- a client with a queued request keeps its mark
  same_mark : (s : State T) (t : ℕ) (c : PlainClient T) → is_busy c ≡ true → (c.idle || rules_of.is_stale t s.config.idle_age c) ≡ c.idle
  same_mark s t c busy = at c.idle (is_busy c) busy where
    at : (i b : Bool) → b ≡ true → (i || (not b && nat_le s.config.idle_age (t - c.last_arrival))) ≡ i
    at true true e = refl
    at false true e = refl
    at i false e = cc

  clean_stays : (s : State T) (t : ℕ) → Turn s → Turn ((answer_of s (rules_of.cleaned s t)).0)
  clean_stays s t is =
      let fresh : State T = record s { clients = filter (λ c. not (rules_of.is_erased s t c)) s.clients } in
      changed fresh (rules_of.with_idle_mark s t) t
      (all_as (IsInTurn ops order) _ (λ c h. turn_marked ops order c (c.idle || rules_of.is_stale t s.config.idle_age c) (same_mark s t c) h) fresh.clients (all_filtered (IsInTurn ops order) _ s.clients is.clients))
      (λ c. refl) (record { clients = all_filtered (IsInTurn ops order) _ s.clients is.clients; distinct = pairs_kept Differ _ s.clients is.distinct })

  -- ---- cancel

  spacings_are : (hz : ℕ) (info : Rates) → 0 < hz → IfSome (result_ok (spacings_of ops hz info)) (AreSpacings ops info)
  spacings_are hz info some = by (spacings_of ops hz info) refl where
    by : (r : Result (Spacings T) Field) → spacings_of ops hz info ≡ r → IfSome (result_ok r) (AreSpacings ops info)
    by (Err fault) e = tt
    by (Ok spacings) e = spacings_not_below ops fraction is_value exact hz info spacings (rates_of hz info spacings some e) e

  pub paid_by : (hz : ℕ) (counting : Counting) (c : PlainClient T) → 0 < hz → (cost : ℕ) → IsSlack ops (charged_to ops hz counting c cost)
  paid_by hz counting c some cost = charges_not_below ops fraction is_value exact order counting c.info _ cost (spacings_are hz c.info some)

  cancel_stays : (s : State T) (id : ClientId) (token : Token) (counting : Counting) (c : PlainClient T) → client_named id s.clients ≡ Some c → 0 < s.config.hz → Turn s → Turn (record s { clients = rules_of.change_client id (λ d. without_token ops token (charged_to ops s.config.hz counting d) d) s.clients })
  cancel_stays s id token counting c named some is =
      one_changed s id (λ d. without_token ops token (charged_to ops s.config.hz counting d) d) c s.last_moment named (turn_cancelled ops order fraction is_value exact c token (charged_to ops s.config.hz counting c) (paid_by s.config.hz counting c some) (found_turn s.clients id c named is.clients)) (λ d _. refl) is

  -- ---- each command

  pub step_stays : (s : State T) (c : Command) → 0 < s.config.hz → Turn s → Stays s (outcome ops s c)
  step_stays s (Register id info at) some is = bind_goes (Stays s) (rules_of.can_register ops s id info) _ (λ e. (is, refl)) (λ u e.
      let known = bound (refuse_if (is_some (client_named id s.clients)) Known) _ u e in
      let newcomer = rules_of.newcomer ops id info (effective s at) in (
        record { clients = all_next (IsInTurn ops order) s.clients newcomer is.clients (turn_empty ops order newcomer refl (no_slack ops fraction is_value exact order)); distinct = pairs_more Differ s.clients newcomer is.distinct (nobody id s.clients (allowed _ Known known.0 known.1)) },
        refl,
      ))
  step_stays s (Update id info at) some is = update_stays s id info (effective s at) is
  step_stays s (Add client token params at) some is = add_stays s client token params (effective s at) some is
  step_stays s (Pull at) some is = pull_is ops order s (effective s at) is.clients (Stays s) (λ e. (is, refl)) (λ m. (record { clients = is.clients; distinct = is.distinct }, refl)) (record { clients = is.clients; distinct = is.distinct }, refl) (λ found amount phase beyond g. (grant_stays s (effective s at) found amount phase beyond g is, refl))
  step_stays s (Remove id) some is = bind_goes (Stays s) (rules_of.can_remove s id) _ (λ e. (is, refl)) (λ c e. (one_changed s id (rules_of.with_requests []) c s.last_moment (from_option _ _ _ e) (turn_empty ops order (rules_of.with_requests [] c) refl (found_turn s.clients id c (from_option _ _ _ e) is.clients).left) (λ d _. refl) is, refl))
  step_stays s (Cancel id token counting) some is = bind_goes (Stays s) (rules_of.can_remove s id) _ (λ e. (is, refl)) (λ c e. (cancel_stays s id token counting c (from_option _ _ _ e) some is, refl))
  step_stays s (Clean at) some is = (clean_stays s (effective s at) is, refl)
