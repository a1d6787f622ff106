-- The bounds of a span of a history, whatever is taken back.
use Rattle.std.proofs.Common.{◌≡◌, ℕ, suc, ◌+◌, ◌*◌, ◌-◌, ◌<◌, ◌≤◌, false, List, [], ◌∷◌, ◌++◌, map, length, drop, take, Some, refl, sym, ap, ◌∙◌, subst, arith, append_assoc, length-append}
use Rattle.std.specs.Prelude.{slice_get}
use Rattle.std.specs.Option.{option_map}
use Rattle.std.specs.List.{AllByRecursion}
use Rattle.std.specs.Cmp.{IsTotalOrder}
use Rattle.std.proofs.lemmas.List.{append-nil}
use Rattle.dmc_types.specs.Values.{Setting}
use Rattle.dmc_types.specs.declared.ids.ClientId.{ClientId}
use Rattle.dmc_types.specs.declared.ids.Token.{Token}
use Rattle.dmc_types.specs.declared.command.Command.TheVariants.{Pull}
use Rattle.dmc_tag.specs.Replay.{after, replays}
use Rattle.dmc_tag.specs.State.{State, effective, opening, requests_of}
use Rattle.dmc_tag.specs.Step.{step}
use Rattle.dmc_tag.specs.Tag.{Fraction, Tagging, IsExact}
use Rattle.dmc_tag.specs.declared.event.Event.{Event}
use Rattle.dmc_tag.specs.declared.reply.Reply.TheVariants.{Granted}
use Rattle.dmc_history_laws.specs.Bounds.{AllKeep, Arrival, Arrives, IsOf, LimitBoundWithCancels, Numbered, ReservationBoundWithCancels, WaitingSpan, arrival_of, arrivals, asked_by, between, cost_between, given_back, given_back_from, given_back_of, numbered_from, priorities, still_waiting, sum_of, ticks, waiting, waiting_from}
use Rattle.dmc_history_laws.proofs.Counted.{Counts, IsArrival, Next, behind_all, counted_after, drop_on, step_counts}
use Rattle.dmc_history_laws.proofs.Given.{zero_first, zero_more}
use Rattle.dmc_history_laws.proofs.Granted.{IsSo, grant_within, opens, paced_after, rate_of}
use Rattle.dmc_history_laws.proofs.Histories.{after_from, after-append, replays_split, sound_after, sound_opening, sound_step}
use Rattle.dmc_history_laws.proofs.Side.{phase_of}
use Rattle.dmc_history_laws.proofs.Side.{Side, limits, reservations, count_in, taken_in}
use Rattle.dmc_history_laws.proofs.Since.{IsPacedIn}
use Rattle.dmc_history_laws.proofs.Parts.{arrivals-append, cut_at, take_both, take_one}
use Rattle.dmc_history_laws.proofs.Waiting.{asked_of, step_waits, waits_after}

-- ---- histories in two parts

module _ {T : Type 0} (id : ClientId) where
  more_arrived : (arrived : ℕ) (came : List Arrival) (es : List (Event T)) → arrived + length came + length (arrivals id es) ≡ arrived + length (came ++ arrivals id es)
  more_arrived arrived came es = omega (arith, length-append came (arrivals id es))

  pub waiting-append : (arrived : ℕ) (those : List Numbered) (xs ys : List (Event T)) → waiting_from id arrived those (xs ++ ys) ≡ waiting_from id (arrived + length (arrivals id xs)) (waiting_from id arrived those xs) ys
  waiting-append arrived those [] ys = ap (λ n. waiting_from id n those ys) (sym (zero_more arrived))
  waiting-append arrived those (x ∷ xs) ys =
      let came = arrival_of id x.command x.reply in
      let left = still_waiting id x.command x.reply those ++ numbered_from (suc arrived) came in
      waiting-append (arrived + length came) left xs ys ∙ ap (λ n. waiting_from id n (waiting_from id (arrived + length came) left xs) ys) (more_arrived arrived came xs)

  pub given-append : (arrived : ℕ) (those : List Numbered) (xs ys : List (Event T)) → given_back_from id arrived those (xs ++ ys) ≡ given_back_from id arrived those xs ++ given_back_from id (arrived + length (arrivals id xs)) (waiting_from id arrived those xs) ys
  given-append arrived those [] ys = ap (λ n. given_back_from id n those ys) (sym (zero_more arrived))
  given-append arrived those (x ∷ xs) ys =
      let came = arrival_of id x.command x.reply in
      let left = still_waiting id x.command x.reply those ++ numbered_from (suc arrived) came in
      let given = given_back_of id x.command x.reply those in
      let front = given_back_from id (arrived + length came) left xs in
      ap (λ ns. given ++ ns) (given-append (arrived + length came) left xs ys ∙ ap (λ n. front ++ given_back_from id n (waiting_from id (arrived + length came) left xs) ys) (more_arrived arrived came xs))
      ∙ sym (append_assoc given front (given_back_from id (arrived + length (came ++ arrivals id xs)) (waiting_from id (arrived + length came) left xs) ys))

-- ---- a history in parts: an accepted add, what comes behind it, and a grant

module _ {T : Type 0} (ops : Tagging T) (fraction : T → Fraction) (is_value : Fraction → Type 0) (exact : IsExact ops fraction is_value) (order : IsTotalOrder ops.compare) (config : Setting) (some : 0 < config.hz) where
  module _ (side : Side) (q : ℕ) (id : ClientId) (before second rest : List (Event T)) (add grant : Event T) where
    abbrev front : List (Event T)
    front = before ++ add ∷ second

    abbrev history : List (Event T)
    history = before ++ add ∷ (second ++ grant ∷ rest)

    abbrev all : List Arrival
    all = arrivals id history

    abbrev came : List Arrival
    came = arrival_of id add.command add.reply

    abbrev start : State T
    start = opening ops config

    abbrev added : State T
    added = (step ops (after_from ops start before) add.command).0

    abbrev number : ℕ
    number = 0 + length (arrivals id before) + length came

    record IsBounded (at : ℕ) (token : Token) (cost : ℕ) (n : Numbered) : Type 0 where
      arrival : IsArrival all n
      same : n.arrival.token ≡ token
      costs : n.arrival.params.cost ≡ cost
      within : config.hz * sum_of (count_in side) number n.number all ≤ q * (effective (after_from ops added second) at - added.last_moment) + config.hz * (0 + taken_in side (priorities id second) + cost_between number n.number (given_back_from id 0 [] front))

    first_of : (those : List Numbered) (n : Numbered) (P : Numbered → Type 0) → slice_get those 0 ≡ Some n → AllByRecursion P those → P n
    first_of [] n P e h = cc
    first_of (m ∷ those) n P e h = let same : m ≡ n = cc in subst P same h.0

    bounded : (at : ℕ) (token : Token) (cost : ℕ) (n : Numbered) → replays ops config history → Arrives id add.command add.reply → rate_of ops fraction is_value exact order config some id side q all added ≡ Some q → AllKeep id second
        → slice_get (waiting id front) 0 ≡ Some n → grant.command ≡ Pull at → grant.reply ≡ Granted id token (phase_of side) false cost → IsBounded at token cost n
    bounded at token cost n replay arrives has keeps here pulls grants =
        let parts = replays_split ops start before (add ∷ (second ++ grant ∷ rest)) replay in
        let later = replays_split ops added second (grant ∷ rest) parts.1.1 in
        let s0 = after_from ops start before in
        let s2 = after_from ops added second in
        let others = arrivals id (grant ∷ rest) in
        let behind = arrivals id second ++ others in
        let a0 = 0 + length (arrivals id before) in
        let those0 = waiting_from id 0 [] before in
        let back0 = given_back_from id 0 [] before in
        let given = given_back_of id add.command add.reply those0 in
        let those1 = still_waiting id add.command add.reply those0 ++ numbered_from (suc a0) came in
        let sound0 = sound_after ops fraction is_value exact order config some start before (sound_opening ops fraction is_value exact order config some) in
        let all_is : all ≡ arrivals id before ++ (came ++ behind) = arrivals-append id before (add ∷ (second ++ grant ∷ rest)) ∙ ap (λ qs. arrivals id before ++ (came ++ qs)) (arrivals-append id second (grant ∷ rest)) in
        let counted0 = counted_after all ops order id fraction is_value exact config some start before 0 [] [] (came ++ behind) (sound_opening ops fraction is_value exact order config some) parts.0 all_is (record { ascends = tt; below = tt; arrivals = tt; given = tt }) in
        let asked0 = waits_after ops fraction is_value exact order config some id start before 0 [] (sound_opening ops fraction is_value exact order config some) parts.0 refl in
        let on0 : drop a0 all ≡ came ++ behind = ap (λ m. drop m all) (zero_first (length (arrivals id before))) ∙ ap (drop (length (arrivals id before))) all_is ∙ behind_all (arrivals id before) (came ++ behind) in
        let on1 : drop (a0 + length came) all ≡ behind = drop_on a0 (length came) all ∙ ap (drop (length came)) on0 ∙ behind_all came behind in
        let opened = opens ops fraction is_value exact order config some id side q all s0 sound0 a0 those0 back0 counted0 asked0 add.command (subst (Arrives id add.command) parts.1.0 arrives) has in
        let so : IsSo ops fraction is_value exact order config some id side q all added.last_moment number 0 added number those1 (back0 ++ given) = record {
          sound = sound_step ops fraction is_value exact order config some s0 add.command sound0;
          counted = subst (λ r. Counts all ops order id add.command r) (sym parts.1.0) (step_counts all ops order id s0 sound0.turn add.command) a0 those0 back0 behind on0 counted0;
          asked = subst (λ r. map asked_by (requests_of id added.clients) ≡ map asked_of (still_waiting id add.command r those0 ++ numbered_from (suc a0) (arrival_of id add.command r))) (sym parts.1.0) (step_waits ops order id s0 sound0.turn add.command a0 those0 asked0);
          after = omega arith;
          since = omega arith;
          paced = subst (λ r. Next id (λ m ns ms. IsPacedIn ops fraction is_value exact order id side config.hz q added.last_moment m all 0 added m ns ms) add.command r a0 those0 back0) (sym parts.1.0) opened;
        } in
        let end = paced_after ops fraction is_value exact order config some id side q all added.last_moment number 0 added second number those1 (back0 ++ given) others so later.0 keeps on1 in
        let waits : waiting id front ≡ waiting_from id number those1 second = waiting-append id 0 [] before (add ∷ second) in
        let first : slice_get (waiting_from id number those1 second) 0 ≡ Some n = ap (λ ns. slice_get ns 0) (sym waits) ∙ here in
        let answer : (step ops s2 (Pull at)).1 ≡ Granted id token (phase_of side) false cost = sym (later.1.0 ∙ ap (λ d. (step ops s2 d).1) pulls) ∙ grants in
        let is = grant_within ops fraction is_value exact order config some id side q all added.last_moment number (0 + taken_in side (priorities id second)) s2 _ (waiting_from id number those1 second) _ n at token cost end first answer in
        let back_is : back0 ++ given ++ given_back_from id number those1 second ≡ given_back_from id 0 [] front = append_assoc back0 given (given_back_from id number those1 second) ∙ sym (given-append id 0 [] before (add ∷ second)) in
        record {
          arrival = first_of (waiting_from id number those1 second) n (IsArrival all) first end.counted.arrivals;
          same = is.same;
          costs = is.costs;
          within = subst (λ ns. config.hz * sum_of (count_in side) number n.number all ≤ q * (effective s2 at - added.last_moment) + config.hz * (0 + taken_in side (priorities id second) + cost_between number n.number ns)) back_is is.within;
        }

  -- ---- a span

  module _ (side : Side) (q : ℕ) (id : ClientId) (history : List (Event T)) (span : WaitingSpan id (phase_of side) history) where
    abbrev before : List (Event T)
    before = take span.arrived history

    abbrev second : List (Event T)
    second = between span.arrived span.granted history

    abbrev rest : List (Event T)
    rest = drop (suc span.granted) history

    up_to_add : take (suc span.arrived) history ≡ before ++ span.add ∷ []
    up_to_add = take_one span.arrived history span.add span.add_is

    up_to_pull : take span.granted history ≡ before ++ span.add ∷ second
    up_to_pull = sym (take_both (suc span.arrived) span.granted history (omega (arith, span.later))) ∙ ap (λ xs. xs ++ second) up_to_add ∙ append_assoc before (span.add ∷ []) second

    whole : history ≡ before ++ span.add ∷ (second ++ span.grant ∷ rest)
    whole = cut_at span.granted history span.grant span.grant_is ∙ ap (λ xs. xs ++ span.grant ∷ rest) up_to_pull ∙ append_assoc before (span.add ∷ second) (span.grant ∷ rest)

    -- the first of those that wait
    numbered : (those : List Numbered) → option_map (λ n. n.number) (slice_get those 0) ≡ Some span.k → (n : Numbered) × (slice_get those 0 ≡ Some n) × (n.number ≡ span.k)
    numbered [] e = cc
    numbered (n ∷ those) e = (n, refl, cc)

    spanned : replays ops config history → rate_of ops fraction is_value exact order config some id side q [] (after ops config (take (suc span.arrived) history)) ≡ Some q
        → IsOf span.token span.cost span.k (arrivals id history)
        × (config.hz * sum_of (count_in side) span.i span.k (arrivals id history)
        ≤ q * ticks ops config history span.arrived span.granted span.moment + config.hz * (0 + taken_in side (priorities id second) + given_back id span.i span.k (take span.granted history)))
    spanned replay has =
        let start = opening ops config in
        let came = arrival_of id span.add.command span.add.reply in
        let added = (step ops (after_from ops start before) span.add.command).0 in
        let added_is : after ops config (take (suc span.arrived) history) ≡ added = ap (after ops config) up_to_add ∙ after-append ops start before (span.add ∷ []) in
        let pulled_is : after ops config (take span.granted history) ≡ after_from ops added second = ap (after ops config) up_to_pull ∙ after-append ops start before (span.add ∷ second) in
        let first = numbered (waiting id (before ++ span.add ∷ second)) (subst (λ es. option_map (λ (n : Numbered). n.number) (slice_get (waiting id es) 0) ≡ Some span.k) up_to_pull span.k_is) in
        let is = bounded side q id before second rest span.add span.grant span.moment span.token span.cost first.0 (subst (replays ops config) whole replay) span.arrives (subst (λ s. rate_of ops fraction is_value exact order config some id side q [] s ≡ Some q) added_is has) span.kept first.1 span.pulls span.grants in
        let all_is : arrivals id (before ++ span.add ∷ (second ++ span.grant ∷ rest)) ≡ arrivals id history = ap (arrivals id) (sym whole) in
        let i_is : 0 + length (arrivals id before) + length came ≡ span.i = sum (length (arrivals id before)) (length came) ∙ sym (length-append (arrivals id before) came) ∙ ap (λ qs. length (arrivals id before ++ qs)) (sym (append-nil came)) ∙ ap length (sym (arrivals-append id before (span.add ∷ []))) ∙ ap (λ es. length (arrivals id es)) (sym up_to_add) ∙ sym span.i_is in (
          record {
            arrival = first.0.arrival;
            here = subst (λ k. slice_get (arrivals id history) (k - 1) ≡ Some first.0.arrival) first.2 (subst (λ qs. slice_get qs (first.0.number - 1) ≡ Some first.0.arrival) all_is is.arrival);
            same = is.same;
            costs = is.costs;
          },
          subst (λ es. config.hz * sum_of (count_in side) span.i span.k (arrivals id history) ≤ q * ticks ops config history span.arrived span.granted span.moment + config.hz * (0 + taken_in side (priorities id second) + given_back id span.i span.k es)) (sym up_to_pull)
              (subst (λ s. config.hz * sum_of (count_in side) span.i span.k (arrivals id history) ≤ q * (effective s span.moment - (after ops config (take (suc span.arrived) history)).last_moment) + config.hz * (0 + taken_in side (priorities id second) + given_back id span.i span.k (before ++ span.add ∷ second))) (sym pulled_is)
              (subst (λ s. config.hz * sum_of (count_in side) span.i span.k (arrivals id history) ≤ q * (effective (after_from ops added second) span.moment - s.last_moment) + config.hz * (0 + taken_in side (priorities id second) + given_back id span.i span.k (before ++ span.add ∷ second))) (sym added_is)
              (subst (λ qs. config.hz * sum_of (count_in side) span.i span.k qs ≤ q * (effective (after_from ops added second) span.moment - added.last_moment) + config.hz * (0 + taken_in side (priorities id second) + given_back id span.i span.k (before ++ span.add ∷ second))) all_is
              (subst (λ k. config.hz * sum_of (count_in side) span.i k (arrivals id (before ++ span.add ∷ (second ++ span.grant ∷ rest))) ≤ q * (effective (after_from ops added second) span.moment - added.last_moment) + config.hz * (0 + taken_in side (priorities id second) + given_back id span.i k (before ++ span.add ∷ second))) first.2
              (subst (λ i. config.hz * sum_of (count_in side) i first.0.number (arrivals id (before ++ span.add ∷ (second ++ span.grant ∷ rest))) ≤ q * (effective (after_from ops added second) span.moment - added.last_moment) + config.hz * (0 + taken_in side (priorities id second) + given_back id i first.0.number (before ++ span.add ∷ second))) i_is is.within))))),
        )
      where
        sum : (a b : ℕ) → 0 + a + b ≡ a + b
        sum a b = omega arith

  pub holds_limit_with_cancels : LimitBoundWithCancels ops config
  holds_limit_with_cancels = λ history replay id l span limited.
      let is = spanned limits l id history span replay limited in
      (is.0, nothing_taken _ _ config.hz _ is.1)
    where
      nothing_taken : (a b hz g : ℕ) → a ≤ b + hz * (0 + 0 + g) → a ≤ b + hz * g
      nothing_taken a b hz g h = let e : 0 + 0 + g ≡ g = omega arith in subst (λ n. a ≤ b + hz * n) e h

  pub holds_reservation_with_cancels : ReservationBoundWithCancels ops config
  holds_reservation_with_cancels = λ history replay id r span reserved.
      let is = spanned reservations r id history span replay reserved in
      (is.0, both _ _ config.hz _ _ is.1)
    where
      both : (a b hz w g : ℕ) → a ≤ b + hz * (0 + w + g) → a ≤ b + hz * w + hz * g
      both a b hz w g h = let e : hz * (0 + w + g) ≡ hz * w + hz * g = omega arith in omega (arith, h, e)
