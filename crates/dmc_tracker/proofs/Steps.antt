-- The tracker's calls, from what the calls in them ensure: the counts fit, and the numbers are those that are promised.
use Rattle.std.proofs.Common.{◌≡◌, ◌≢◌, ◌↔◌, ℕ, ◌+◌, ◌<◌, ◌≤◌, ◌^◌, List, [], ◌∷◌, ◌++◌, length, set, get_or, slice_get, Option, Some, None, Result, Ok, Err, refl, sym, ap, ◌∙◌, subst, inl, inr, arith}
use Rattle.std.specs.Option.{option_map}
use Rattle.std.proofs.lemmas.Bool.{cases_lt}
use Rattle.std.proofs.lemmas.Option.{slice_get-map, slice_get-get_or, slice_get_past}
use Rattle.std.proofs.lemmas.List.{length-map, length-set}
use Rattle.dmc_types.specs.Limits.{max_count}
use Rattle.dmc_types.specs.Values.{Params, Counts, params_with}
use Rattle.dmc_types.specs.declared.ids.ServerId.{ServerId}
use Rattle.dmc_types.specs.declared.config.Counting.{Counting}
use Rattle.dmc_types.specs.declared.config.Counting.TheVariants.{All, Others}
use Rattle.dmc_types.specs.declared.config.PhaseType.{PhaseType}
use Rattle.dmc_tracker.specs.declared.server.ServerCounts.{ServerCounts}
use Rattle.dmc_tracker.specs.declared.tracker.TrackFault.TheVariants.{NoServer, TrackFull}
use Rattle.dmc_tracker.specs.declared.event.TrackerEvent.{TrackerEvent}
use Rattle.dmc_tracker.specs.declared.event.TrackerEvent.TheVariants.{Stamp, Skip, Response}
use Rattle.dmc_tracker.specs.TrackerList.{plus, completed_in, own_share, demanded, IsResponseFull, IsStampFull, IsTooMuch}
use Rattle.dmc_tracker.specs.Numbers.{Numbers, ServerNumbers, pending_pair, numbers_at, next_counts, next_params, after_stamp, after_skip, after_response, IsFullAt, IsCompleteAt, RepresentsEvents, Keeps}
use Rattle.dmc_tracker.specs.Parts.{minus, IsPart}
use Rattle.dmc_tracker.specs.Server.{counted_at, numbers_now, view_of, IsKept, AreKept}
use Rattle.dmc_tracker.proofs.ServerLemmas.{seen_at, next_counts-view, view-stamp, AreKept-stamp, view-skip, AreKept-skip, AreKept-response, view-response, completed_delta, completed_rho}
use Rattle.dmc_tracker.proofs.RepresentsLemmas.{next_params-represents, RepresentsEvents-stamp, RepresentsEvents-skip, RepresentsEvents-response}

-- ---- what the result says of a refusal

module _ {X E : Type 0} where
  pub refused : {e : E} {P : Type 0} → P → ◌≡◌ {A = Result X E} (Err e) (Err e) ↔ P
  refused p = (λ q. p, λ p. refl)

  pub refused_otherwise : {e f : E} {P : Type 0} → e ≢ f → (P → ⊥) → ◌≡◌ {A = Result X E} (Err e) (Err f) ↔ P
  refused_otherwise {e} {f} ne never = (λ q. absurd (ne (same_err q)), λ p. absurd (never p)) where
    same_err : ◌≡◌ {A = Result X E} (Err e) (Err f) → e ≡ f
    same_err q = cc

  pub not_refused : {x : X} {f : E} {P : Type 0} → (P → ⊥) → ◌≡◌ {A = Result X E} (Ok x) (Err f) ↔ P
  not_refused never = (λ q. absurd (cc), λ p. absurd (never p))

pub no_server_is_not_full : NoServer ≢ TrackFull
no_server_is_not_full e = cc

pub full_is_not_no_server : TrackFull ≢ NoServer
full_is_not_no_server e = cc

pub not_past : {a b : ℕ} → a < b → b ≤ a → ⊥
not_past l m = omega arith

module _ {counting : Counting} {most : ℕ} {comps : Counts} {items : List ServerCounts} {now : Numbers} (kept : AreKept counting most comps items) (view : view_of counting most comps items ≡ now) where
  pub as_many : length now.servers ≡ length items
  as_many = ap (λ (n : Numbers). length n.servers) (sym view) ∙ length-map items (numbers_now counting comps)

  module _ {n : ℕ} (length_is : n ≡ length items) {i : ℕ} where
    pub past_all : n ≤ i → length now.servers ≤ i
    past_all l = omega (arith, l, length_is, as_many)

    pub within_all : i < n → i < length now.servers
    within_all l = omega (arith, l, length_is, as_many)

  -- a response of this cost would take the completions past `most`, also by the list
  module _ (cost : ℕ) (past : most < comps.delta + cost) where
    pub past_most : now.most < now.completions.delta + cost
    past_most =
        omega (arith, past, ap (λ (n : Numbers). n.completions.delta) view, ap (λ (n : Numbers). n.most) view)

    pub past_most_by_list : {events : List TrackerEvent} → RepresentsEvents now events → IsResponseFull now.most cost events
    past_most_by_list represents = omega (arith, past_most, ap (λ (p : Counts). p.delta) represents.completed)

  module _ (cost : ℕ) (fits : comps.delta + cost ≤ most) where
    pub more_to_count : now.completions.delta + cost ≤ now.most
    more_to_count =
        omega (arith, fits, ap (λ (n : Numbers). n.completions.delta) view, ap (λ (n : Numbers). n.most) view)

    pub not_past_most : {s : ServerId} → IsCompleteAt now s cost → ⊥
    not_past_most complete = not_past complete.past more_to_count

    pub not_past_most_by_list : {events : List TrackerEvent} → RepresentsEvents now events → IsResponseFull now.most cost events → ⊥
    not_past_most_by_list represents past =
        omega (arith, more_to_count, past, ap (λ (p : Counts). p.delta) represents.completed)

  -- what contracts see of the server at a place
  read_server : (i : ℕ) {found : Option ServerCounts} → slice_get items i ≡ found → slice_get now.servers i ≡ option_map (numbers_now counting comps) found
  read_server i e =
      ap (λ (n : Numbers). slice_get n.servers i) (sym view) ∙ slice_get-map (numbers_now counting comps) items i ∙ ap (option_map (numbers_now counting comps)) e

  pub none_pending : {i : ℕ} → length items ≤ i → {found : Option (ℕ × ℕ)} → found ≡ None → found ≡ option_map pending_pair (slice_get now.servers i)
  none_pending {i = i} past e = e ∙ sym (ap (option_map pending_pair) (read_server i (slice_get_past items i past)))

  -- a call that writes one server
  pub keeps_all : (comps' : Counts) (i : ℕ) (y : ServerCounts) → Keeps now (view_of counting most comps' (set items i y))
  keeps_all comps' i y = record {
    counting = ap (λ (n : Numbers). n.counting) view;
    most = ap (λ (n : Numbers). n.most) view;
    servers = length-map (set items i y) (numbers_now counting comps') ∙ length-set items i y ∙ sym as_many;
  }

  -- ---- at server s, which keeps x

  module _ {s : ServerId} (within : s.0 < length now.servers) {x : ServerCounts} (at : x ≡ get_or items s.0 x) where
    inside : s.0 < length items
    inside = omega (arith, within, as_many)

    kept_at : IsKept counting most comps x
    kept_at = rw at (kept.each s.0 x inside)

    pub sent_within : x.sent.delta ≤ most
    sent_within = kept_at.sent_most

    pub own_part : IsPart x.own comps
    own_part = kept_at.own

    pub mark_part : {counted : Counts} → counted ≡ counted_at counting comps x → IsPart x.mark counted
    mark_part e = rw e kept_at.mark

    pub pending_there : {counted left : Counts} → counted ≡ counted_at counting comps x → left ≡ minus counted x.mark → {d r : ℕ} → ◌≡◌ {A = Counts} (record { delta = d; rho = r }) left → ◌≡◌ {A = Option (ℕ × ℕ)} (Some (d, r)) (option_map pending_pair (slice_get now.servers s.0))
    pending_there counted_is left_is e =
        ap {B = Option (ℕ × ℕ)} (λ (p : Counts). Some (p.delta, p.rho)) (e ∙ left_is ∙ ap (λ c. minus c x.mark) counted_is)
        ∙ sym (ap (option_map pending_pair) (read_server s.0 (slice_get-get_or items s.0 x inside ∙ ap Some (sym at))))

    -- ---- a response

    module _ (phase : PhaseType) (cost : ℕ) {response : Counts} (response_is : response ≡ completed_in phase cost) (fits : now.completions.delta + cost ≤ now.most) where
      room_for_response : comps.delta + cost ≤ most
      room_for_response = omega (arith, fits, ap (λ (n : Numbers). n.completions.delta) view, ap (λ (n : Numbers). n.most) view)

      costs : (response.delta ≡ cost) × (response.rho ≤ cost)
      costs = rw response_is (completed_delta phase cost, omega (arith, completed_delta phase cost, completed_rho phase cost))

      comps_fit : (comps.delta + response.delta < 2 ^ 64) × (comps.rho + response.rho < 2 ^ 64)
      comps_fit = (
        omega (arith, room_for_response, costs.0, kept.max_limit),
        omega (arith, room_for_response, costs.1, kept.completions_rho, kept.max_limit),
      )

      pub own_fits : (x.own.delta + response.delta < 2 ^ 64) × (x.own.rho + response.rho < 2 ^ 64)
      own_fits =
          (omega (arith, comps_fit.0, own_part.delta), omega (arith, comps_fit.1, own_part.rho))

      module _ {comps' own' : Counts} (comps_are : comps' ≡ plus comps response) (own_is : own' ≡ plus x.own response) where
        pub response_kept : AreKept counting most comps' (set items s.0 (record { sent = x.sent; skipped = x.skipped; own = own'; mark = x.mark }))
        response_kept =
            rw (comps_are, own_is, response_is) (AreKept-response counting most comps items s x phase cost kept inside at room_for_response)

        pub response_seen : view_of counting most comps' (set items s.0 (record { sent = x.sent; skipped = x.skipped; own = own'; mark = x.mark })) ≡ after_response s phase cost now
        response_seen =
            rw (comps_are, own_is, response_is) (view-response counting most comps items s x phase cost kept inside at)
            ∙ ap (after_response s phase cost) view

    -- ---- what is pending, and a skip

    module _ {counted left : Counts} (counted_is : counted ≡ counted_at counting comps x) (left_is : left ≡ minus counted x.mark) where
      part : IsPart x.mark counted
      part = mark_part counted_is

      left_rho : left.rho ≤ left.delta
      left_rho = rw left_is (omega (arith, part.rest, part.delta, part.rho))

      counted_comps : counted.delta ≤ comps.delta
      counted_comps = rw counted_is (at_form counting) where
        at_form : (form : Counting) → (counted_at form comps x).delta ≤ comps.delta
        at_form All = omega arith
        at_form Others = omega arith

      -- with what was skipped it is no more than the completions
      left_most : x.skipped.delta + left.delta ≤ most
      left_most =
          let is = ap (λ (p : Counts). p.delta) left_is in
          omega (arith, is, part.delta, kept_at.skipped_mark, counted_comps, kept.completions_most)

      pub skipped_fits : (x.skipped.delta + left.delta < 2 ^ 64) × (x.skipped.rho + left.rho < 2 ^ 64)
      skipped_fits = (
        omega (arith, left_most, kept.max_limit),
        omega (arith, left_most, left_rho, kept_at.skipped_rho, kept.max_limit),
      )

      module _ {skipped' : Counts} (skipped_is : skipped' ≡ plus x.skipped left) where
        pub skip_kept : AreKept counting most comps (set items s.0 (record { sent = x.sent; skipped = skipped'; own = x.own; mark = counted }))
        skip_kept = rw (skipped_is, left_is, counted_is) (AreKept-skip counting most comps items s x kept inside at)

        pub skip_seen : view_of counting most comps (set items s.0 (record { sent = x.sent; skipped = skipped'; own = x.own; mark = counted })) ≡ after_skip s now
        skip_seen = rw (skipped_is, left_is, counted_is) (view-skip counting most comps items s x inside at) ∙ ap (after_skip s) view

      -- ---- a stamp

      module _ {cost : ℕ} {own : Counts} (own_is : own ≡ own_share counting cost) (narrow : cost < 2 ^ 32) where
        next_is : next_counts now s cost ≡ plus left own
        next_is =
            ap (λ n. next_counts n s cost) (sym view)
            ∙ next_counts-view counting most cost comps items s x inside at
            ∙ rw (left_is, counted_is, own_is) refl

        share : (own.rho ≤ own.delta) × (own.delta ≤ cost)
        share = rw own_is (at_form counting) where
          at_form : (form : Counting) → ((own_share form cost).rho ≤ (own_share form cost).delta) × ((own_share form cost).delta ≤ cost)
          at_form All = (omega arith, omega arith)
          at_form Others = (omega arith, omega arith)

        pub params_fit : (left.delta + own.delta < 2 ^ 64) × (left.rho + own.rho < 2 ^ 64)
        params_fit = (
          omega (arith, left_most, share, narrow, kept.max_limit),
          omega (arith, left_most, left_rho, share, narrow, kept.max_limit),
        )

        module _ {params : Counts} (params_is : params ≡ plus left own) where
          params_delta : params.delta ≡ left.delta + own.delta
          params_delta = ap (λ (p : Counts). p.delta) params_is

          carried : params ≡ next_counts now s cost
          carried = params_is ∙ sym next_is

          is_params : params.rho ≤ params.delta
          is_params = rw params_is (omega (arith, left_rho, share))

          computed : params ≡ plus (numbers_now counting comps x).pending (own_share counting cost)
          computed = rw (params_is, left_is, own_is, counted_is) refl

          sent_now : (numbers_at now s).sent.delta ≡ x.sent.delta
          sent_now =
              ap (λ n. (numbers_at n s).sent.delta) (sym view)
              ∙ ap (λ (n : ServerNumbers). n.sent.delta) (seen_at counting most comps items s x inside at)

          -- the test of a stamp: its sum fits, and what it says
          pub sum_fits : x.sent.delta + params.delta < 2 ^ 64
          sum_fits = omega (arith, params_delta, left_most, share, narrow, kept_at.sent_most, kept.max_limit)

          seen_full : IsTooMuch counting most x.sent.delta params.delta ≡ IsTooMuch now.counting now.most (numbers_at now s).sent.delta (next_counts now s cost).delta
          seen_full =
              ap (λ (n : Numbers). IsTooMuch n.counting n.most x.sent.delta params.delta) view
              ∙ ap (λ n. IsTooMuch now.counting now.most n params.delta) (sym sent_now)
              ∙ ap (λ (p : Counts). IsTooMuch now.counting now.most (numbers_at now s).sent.delta p.delta) carried

          pub is_full : IsTooMuch counting most x.sent.delta params.delta → IsFullAt now s cost
          is_full h = record { within = within; past = subst (λ (t : Type 0). t) seen_full h }

          pub is_not_full : (IsTooMuch counting most x.sent.delta params.delta → ⊥) → IsFullAt now s cost → ⊥
          is_not_full none h = none (subst (λ (t : Type 0). t) (sym seen_full) h.past)

          module _ (fits : IsTooMuch counting most x.sent.delta params.delta → ⊥) where
            bounds : (params.delta ≤ max_count) × (x.sent.delta + params.delta ≤ most)
            bounds = by counting kept_at.sent_all own_is fits where
              by : (form : Counting) → (form ≡ All → plus x.sent x.skipped ≡ x.mark) → own ≡ own_share form cost
                  → (IsTooMuch form most x.sent.delta params.delta → ⊥) → (params.delta ≤ max_count) × (x.sent.delta + params.delta ≤ most)
              by All sums none fits =
                  let sum = ap (λ (p : Counts). p.delta) (sums refl) in
                  let zero = ap (λ (p : Counts). p.delta) none in
                  let is = ap (λ (p : Counts). p.delta) left_is in (
                    elim (cases_lt max_count params.delta) [ inl l ↦ absurd (fits l) | inr l ↦ l ],
                    omega (arith, params_delta, is, zero, sum, part.delta, counted_comps, kept.completions_most),
                  )
              by Others sums none fits = (
                elim (cases_lt max_count params.delta) [ inl l ↦ absurd (fits (inl l)) | inr l ↦ l ],
                elim (cases_lt most (x.sent.delta + params.delta)) [ inl l ↦ absurd (fits (inr l)) | inr l ↦ l ],
              )

            pub sent_bound : (numbers_at now s).sent.delta + (next_counts now s cost).delta ≤ now.most
            sent_bound =
                omega (arith, bounds.1, sent_now, ap (λ (p : Counts). p.delta) carried, ap (λ (n : Numbers). n.most) view)

            pub count_bound : (next_counts now s cost).delta ≤ max_count
            count_bound = omega (arith, bounds.0, ap (λ (p : Counts). p.delta) carried)

          -- ---- what the test let through

          module _ (not_full : IsFullAt now s cost → ⊥) where
            limits : (params.delta ≤ max_count) × (x.sent.delta + params.delta ≤ most)
            limits = bounds (λ h. not_full (is_full h))

            room : x.sent.delta + params.delta ≤ most
            room = limits.1

            pub sent_fits : (x.sent.delta + params.delta < 2 ^ 64) × (x.sent.rho + params.rho < 2 ^ 64)
            sent_fits =
                (omega (arith, room, kept.max_limit), omega (arith, room, is_params, kept_at.sent_rho, kept.max_limit))

            pub stamp_kept : {sent' : Counts} → sent' ≡ plus x.sent params → AreKept counting most comps (set items s.0 (record { sent = sent'; skipped = x.skipped; own = x.own; mark = counted }))
            stamp_kept e =
                rw (e, counted_is) (AreKept-stamp counting most cost comps params items s x kept inside at computed room)

            pub stamp_seen : {sent' : Counts} → sent' ≡ plus x.sent params → view_of counting most comps (set items s.0 (record { sent = sent'; skipped = x.skipped; own = x.own; mark = counted })) ≡ after_stamp s cost now
            stamp_seen e =
                rw (e, counted_is) (view-stamp counting most cost comps params items s x inside at computed) ∙ ap (after_stamp s cost) view

            -- what is handed out is what was computed, with the cost
            pub narrow_stamp : params.delta ≤ max_count
            narrow_stamp = limits.0

            pub ordered_stamp : params.rho ≤ params.delta
            ordered_stamp = is_params

            pub handed_out : {given : Params} → given ≡ params_with params cost → given ≡ next_params now s cost
            handed_out e = e ∙ ap (λ p. params_with p cost) carried

-- the list after a stamp
pub represents_after : {now new : Numbers} {s : ServerId} {cost : ℕ} {params : Params} → s.0 < length now.servers → new ≡ after_stamp s cost now → params ≡ next_params now s cost
    → (events : List TrackerEvent) → RepresentsEvents now events → (params ≡ demanded now.counting s cost events) × RepresentsEvents new (events ++ Stamp s params ∷ [])
represents_after {now} {s = s} {cost = cost} {params = params} within e p events represents =
    (p ∙ next_params-represents now events s cost within represents, rw (e, p) (RepresentsEvents-stamp now events s cost within represents))

-- the list after a skip
pub represents_after_skip : {now new : Numbers} {s : ServerId} → s.0 < length now.servers → new ≡ after_skip s now → (events : List TrackerEvent) → RepresentsEvents now events → RepresentsEvents new (events ++ Skip s ∷ [])
represents_after_skip {now} {s = s} within e events represents = rw e (RepresentsEvents-skip now events s within represents)

-- the list after a response
pub represents_after_response : {now new : Numbers} (s : ServerId) (phase : PhaseType) (cost : ℕ) → new ≡ after_response s phase cost now → (events : List TrackerEvent) → RepresentsEvents now events → RepresentsEvents new (events ++ Response s phase cost ∷ [])
represents_after_response {now} s phase cost e events represents = rw e (RepresentsEvents-response now events s phase cost represents)

-- what is full by the numbers is so by the list
module _ {now : Numbers} {s : ServerId} (cost : ℕ) {events : List TrackerEvent} (represents : RepresentsEvents now events) where
  same_test : s.0 < length now.servers → IsTooMuch now.counting now.most (numbers_at now s).sent.delta (next_counts now s cost).delta ≡ IsStampFull now.counting now.most s cost events
  same_test within =
      ap (λ (n : ServerNumbers). IsTooMuch now.counting now.most n.sent.delta (plus n.pending (own_share now.counting cost)).delta) (represents.each s within)

  pub full_by_list : {A : Type 0} → A ↔ IsFullAt now s cost → A ↔ ((s.0 < length now.servers) × IsStampFull now.counting now.most s cost events)
  full_by_list is = (
    λ a. let f = is.0 a in (f.within, subst (λ (t : Type 0). t) (same_test f.within) f.past),
    λ h. is.1 (record { within = h.0; past = subst (λ (t : Type 0). t) (sym (same_test h.0)) h.1 }),
  )
