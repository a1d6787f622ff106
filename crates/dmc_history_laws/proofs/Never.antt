-- Of a client that was never cancelled, the first that waits is the one behind those that left, and nothing was given back.
use Rattle.std.proofs.Common.{◌≡◌, ℕ, suc, ◌+◌, ◌*◌, ◌-◌, ◌<◌, ◌≤◌, Bool, true, false, List, [], ◌∷◌, ◌++◌, map, length, drop, take, Some, refl, sym, ap, ◌∙◌, subst, arith, length-append}
use Rattle.std.specs.Prelude.{filter, slice_get, if◌then◌else◌}
use Rattle.std.specs.Option.{option_map}
use Rattle.std.specs.Cmp.{IsTotalOrder}
use Rattle.std.proofs.lemmas.List.{length-map}
use Rattle.dmc_types.specs.Values.{Setting}
use Rattle.dmc_types.specs.declared.ids.ClientId.{ClientId}
use Rattle.dmc_types.specs.declared.ids.Token.{Token}
use Rattle.dmc_types.specs.declared.config.Counting.TheVariants.{All, Others}
use Rattle.dmc_types.specs.declared.config.PhaseType.{PhaseType}
use Rattle.dmc_types.specs.declared.config.PhaseType.TheVariants.{Reservation, Priority}
use Rattle.dmc_types.specs.declared.command.Command.{Command}
use Rattle.dmc_types.specs.declared.command.Command.TheVariants.{Register, Update, Add, Pull, Remove, Cancel, Clean}
use Rattle.dmc_tag.specs.Replay.{replays, replays_from}
use Rattle.dmc_tag.specs.Rules as rules_of
use Rattle.dmc_tag.specs.State.{State, opening, requests_of}
use Rattle.dmc_tag.specs.Step.{step}
use Rattle.dmc_tag.specs.Tag.{Fraction, Tagging, IsExact}
use Rattle.dmc_tag.specs.declared.event.Event.{Event}
use Rattle.dmc_tag.specs.declared.reply.Reply.{Reply}
use Rattle.dmc_tag.specs.declared.reply.Reply.TheVariants.{Registered, Updated, Tagged, Granted, Later, Nothing, Removed, Cleaned, Refused}
use Rattle.dmc_tag.proofs.Ids.{itself_id}
use Rattle.dmc_history_laws.specs.Bounds.{Asked, IsFirstThatWaits, LimitBound, NeverCancelled, NotCancelled, Numbered, ReservationBound, Span, WaitingSpan, arrival_of, arrivals, asked_by, cost_between, departures, given_back, given_back_from, given_back_of, has_token, numbered_from, still_waiting, waiting, waiting_from}
use Rattle.dmc_history_laws.proofs.Becomes.{step_becomes}
use Rattle.dmc_history_laws.proofs.Counted.{Next, none_comes, one_comes}
use Rattle.dmc_history_laws.proofs.Given.{zero_more}
use Rattle.dmc_history_laws.proofs.Histories.{IsSound, Takes, after_from, event_moves, front, never_split, never_to, queued_is, replays_split, sound_after, sound_opening, sound_step}
use Rattle.dmc_history_laws.proofs.InTurn.{AreInTurn}
use Rattle.dmc_history_laws.proofs.Parts.{cut_at}
use Rattle.dmc_history_laws.proofs.Waiting.{asked_of, waits_after}
use Rattle.dmc_history_laws.proofs.Spans.{holds_limit_with_cancels, holds_reservation_with_cancels}

-- ---- nothing is given back

module _ {T : Type 0} (id : ClientId) where
  none_of : (c : Command) (reply : Reply T) (those : List Numbered) → NotCancelled id c reply → given_back_of id c reply those ≡ []
  none_of (Register client info at) reply those never = refl
  none_of (Update client info at) reply those never = refl
  none_of (Add client token params at) reply those never = refl
  none_of (Pull at) reply those never = refl
  none_of (Remove client) reply those never = refl
  none_of (Cancel client token All) reply those never = refl
  none_of (Cancel client token Others) Registered those never = refl
  none_of (Cancel client token Others) Updated those never = refl
  none_of (Cancel client token Others) (Tagged tags) those never = refl
  none_of (Cancel client token Others) (Granted other taken phase beyond cost) those never = refl
  none_of (Cancel client token Others) (Later m) those never = refl
  none_of (Cancel client token Others) Nothing those never = refl
  none_of (Cancel client token Others) (Removed count) those never = ap (λ b. if b then filter (has_token token) those else []) never
  none_of (Cancel client token Others) (Cleaned idled erased) those never = refl
  none_of (Cancel client token Others) (Refused refusal) those never = refl
  none_of (Clean at) reply those never = refl

  pub none_given : (arrived : ℕ) (those : List Numbered) (es : List (Event T)) → NeverCancelled id es → given_back_from id arrived those es ≡ []
  none_given arrived those [] never = refl
  none_given arrived those (e ∷ es) never =
      let came = arrival_of id e.command e.reply in
      let left = still_waiting id e.command e.reply those ++ numbered_from (suc arrived) came in
      ap (λ ns. ns ++ given_back_from id (arrived + length came) left es) (none_of e.command e.reply those never.0) ∙ none_given (arrived + length came) left es never.1

-- ---- those that wait are the last ones

abbrev Runs : (arrived left : ℕ) → List Numbered → Type 0
Runs arrived left [] = arrived ≡ left
Runs arrived left (n ∷ ns) = (n.number ≡ suc left) × Runs arrived (suc left) ns

runs_next : (arrived left : ℕ) (ns : List Numbered) (n : Numbered) → n.number ≡ suc arrived → Runs arrived left ns → Runs (suc arrived) left (ns ++ n ∷ [])
runs_next arrived left [] n e h = (e ∙ ap suc h, ap suc h)
runs_next arrived left (m ∷ ns) n e h = (h.0, runs_next arrived (suc left) ns n e h.1)

runs_out : (arrived left : ℕ) (ns : List Numbered) → Runs arrived left ns → arrived ≡ left + length ns
runs_out arrived left [] h = h ∙ sym (zero_more left)
runs_out arrived left (n ∷ ns) h = let rest = runs_out arrived (suc left) ns h.1 in omega (arith, rest)

-- their numbers are the last ones, one after the other
abbrev HasRun : ℕ → List Numbered → Type 0
HasRun arrived those = (left : ℕ) × Runs arrived left those

run_without_first : (arrived : ℕ) (ns : List Numbered) → HasRun arrived ns → HasRun arrived (drop 1 ns)
run_without_first arrived [] h = h
run_without_first arrived (n ∷ ns) h = (suc h.0, h.1.1)

module _ {T : Type 0} (ops : Tagging T) (order : IsTotalOrder ops.compare) (id : ClientId) (s : State T) (turn : AreInTurn ops order s) where
  abbrev Run : ℕ → List Numbered → List Numbered → Type 0
  Run arrived those back = HasRun arrived those

  abbrev Goes : Command → Reply T → Type 0
  Goes c reply = NotCancelled id c reply → (arrived : ℕ) (those : List Numbered) → HasRun arrived those → Next id Run c reply arrived those []

  is_own : (b : Bool) → ◌≡◌ {A = ℕ} (if b then 1 else 0) 1 → b ≡ true
  is_own true e = refl
  is_own false e = cc

  not_both : {X : Type 0} {b : Bool} → b ≡ false → b ≡ true → X
  not_both p q = cc

  step_runs : (c : Command) → Goes c ((step ops s c).1)
  step_runs = step_becomes ops order id s turn (λ c reply new. Goes c reply)
      (λ c reply new o says stay like next never arrived those h. none_comes id Run c reply arrived those [] those [] says.came_is (stay those).0 (stay those).1 h)
      (λ client info at new own none next never arrived those h. none_comes {T = T} id Run (Register client info at) Registered arrived those [] those [] refl refl refl h)
      (λ client info at new c own named next never arrived those h. none_comes {T = T} id Run (Update client info at) Updated arrived those [] those [] refl refl refl h)
      (λ client token params at new c d tags slack says named like given next last slack_is never arrived those h.
      let n : Numbered = record { number = suc arrived; arrival = record { token = token; params = params } } in
      one_comes {T = T} id Run (Add client token params at) (Tagged tags) arrived those [] n.arrival says.came_is refl refl (h.0, runs_next arrived h.0 those n refl h.1))
      (λ at new found amount phase beyond says g named next never arrived those h. none_comes id Run (Pull at) (rules_of.granted found phase beyond) arrived those [] (drop 1 those) [] refl (ap (λ b. if b then drop 1 those else those) (is_own _ says.left_is)) refl (run_without_first arrived those h))
      (λ client new c own says named next never arrived those h. none_comes {T = T} id Run (Remove client) (Removed (length c.requests)) arrived those [] [] [] refl (ap (λ b. if b then [] else those) own) refl (arrived, refl))
      (λ client token counting new c own named next never. not_both never own)

module _ {T : Type 0} (ops : Tagging T) (fraction : T → Fraction) (is_value : Fraction → Type 0) (exact : IsExact ops fraction is_value) (order : IsTotalOrder ops.compare) (config : Setting) (some : 0 < config.hz) (id : ClientId) where
  abbrev start : State T
  start = opening ops config

  opened : IsSound ops fraction is_value exact order config some start
  opened = sound_opening ops fraction is_value exact order config some

  run_after : (s : State T) (es : List (Event T)) (arrived : ℕ) (those : List Numbered) → IsSound ops fraction is_value exact order config some s → replays_from ops s es → NeverCancelled id es → HasRun arrived those → HasRun (arrived + length (arrivals id es)) (waiting_from id arrived those es)
  run_after s [] arrived those sound h never run = subst (λ n. HasRun n those) (sym (zero_more arrived)) run
  run_after s (x ∷ es) arrived those sound h never run =
      let next = (step ops s x.command).0 in
      let came = arrival_of id x.command x.reply in
      let left = still_waiting id x.command x.reply those ++ numbered_from (suc arrived) came in
      let now = subst (λ r. Goes ops order id s sound.turn x.command r) (sym h.0) (step_runs ops order id s sound.turn x.command) never.0 arrived those run in
      let sum : arrived + length came + length (arrivals id es) ≡ arrived + length (came ++ arrivals id es) = omega (arith, length-append came (arrivals id es)) in
      subst (λ n. HasRun n (waiting_from id (arrived + length came) left es)) sum (run_after next es (arrived + length came) left (sound_step ops fraction is_value exact order config some s x.command sound) h.1 never.1 now)

  first_of : (xs : List Asked) (x : Asked) → front ops order id xs ≡ Some x → (others : List Asked) × (xs ≡ x ∷ others)
  first_of [] x e = cc
  first_of (y ∷ xs) x e = let same : y ≡ x = cc in (xs, ap (λ z. z ∷ xs) same)

  taken_asked : (c : Command) (reply : Reply T) (at : ℕ) (token : Token) (cost : ℕ) (phase : PhaseType) (asked : List Asked) → c ≡ Pull at → reply ≡ Granted id token phase false cost → Takes ops order id c reply asked → front ops order id asked ≡ Some (record { token = token; cost = cost })
  taken_asked c reply at token cost phase asked p e h = subst (λ r. Takes ops order id (Pull at) r asked) e (subst (λ d. Takes ops order id d reply asked) p h) (itself_id id)

  -- the first of those that wait has the number behind those that left
  numbered_by : (left : ℕ) (those : List Numbered) (x : Asked) (others : List Asked) (arrived : ℕ) → x ∷ others ≡ map asked_of those → Runs arrived left those → option_map (λ n. n.number) (slice_get those 0) ≡ Some (suc left)
  numbered_by left [] x others arrived e h = cc
  numbered_by left (n ∷ those) x others arrived e h = ap Some h.0

  -- it has a queued request
  pub first_number : (xs : List (Event T)) (x : Asked) (others : List Asked) → replays ops config xs → NeverCancelled id xs → map asked_by (requests_of id (after_from ops start xs).clients) ≡ x ∷ others → IsFirstThatWaits id (suc (departures id xs)) xs
  first_number xs x others replay never queued =
      let asked = waits_after ops fraction is_value exact order config some id start xs 0 [] opened replay refl in
      let run = run_after start xs 0 [] opened replay never (0, refl) in
      let count = queued_is ops fraction is_value exact order config some id xs replay never in
      let size : length (map asked_by (requests_of id (after_from ops start xs).clients)) ≡ length (waiting id xs) = ap length asked ∙ length-map (waiting id xs) asked_of in
      let left_is : run.0 ≡ departures id xs = left (length (arrivals id xs)) run.0 (departures id xs) (length (waiting id xs)) (runs_out (0 + length (arrivals id xs)) run.0 (waiting id xs) run.1) (sym size ∙ count.0) count.1 in
      subst (λ n. option_map (λ (m : Numbered). m.number) (slice_get (waiting id xs) 0) ≡ Some (suc n)) left_is (numbered_by run.0 (waiting id xs) x others (0 + length (arrivals id xs)) (sym queued ∙ asked) run.1)
    where
      left : (a l d n : ℕ) → 0 + a ≡ l + n → n ≡ a - d → d ≤ a → l ≡ d
      left a l d n e f h = omega (arith, e, f, h)

  -- it is granted
  granted_number : (xs rest : List (Event T)) (grant : Event T) (at : ℕ) (token : Token) (cost : ℕ) (phase : PhaseType) → replays ops config (xs ++ grant ∷ rest) → NeverCancelled id (xs ++ grant ∷ rest) → grant.command ≡ Pull at → grant.reply ≡ Granted id token phase false cost → IsFirstThatWaits id (suc (departures id xs)) xs
  granted_number xs rest grant at token cost phase replay never pulls grants =
      let parts = replays_split ops start xs (grant ∷ rest) replay in
      let nevers = never_split id xs (grant ∷ rest) never in
      let s = after_from ops start xs in
      let sound = sound_after ops fraction is_value exact order config some start xs opened in
      let moves = event_moves ops fraction is_value exact order config some id s grant sound parts.1.0 nevers.1.0 in
      let next = first_of (map asked_by (requests_of id s.clients)) (record { token = token; cost = cost }) (taken_asked grant.command grant.reply at token cost phase _ pulls grants moves.2) in
      first_number xs (record { token = token; cost = cost }) next.0 parts.0 nevers.0 next.1

-- ---- the bounds of such a client

module _ {T : Type 0} (ops : Tagging T) (fraction : T → Fraction) (is_value : Fraction → Type 0) (exact : IsExact ops fraction is_value) (order : IsTotalOrder ops.compare) (config : Setting) (some : 0 < config.hz) where
  module _ (id : ClientId) (phase : PhaseType) (history : List (Event T)) (replay : replays ops config history) (never : NeverCancelled id history) (span : Span id phase history) where
    whole : history ≡ take span.granted history ++ span.grant ∷ drop (suc span.granted) history
    whole = cut_at span.granted history span.grant span.grant_is

    abbrev waits : WaitingSpan id phase history
    waits = record {
      i = span.i;
      k = span.k;
      arrived = span.arrived;
      granted = span.granted;
      later = span.later;
      add = span.add;
      add_is = span.add_is;
      arrives = span.arrives;
      i_is = span.i_is;
      grant = span.grant;
      grant_is = span.grant_is;
      moment = span.moment;
      pulls = span.pulls;
      token = span.token;
      cost = span.cost;
      grants = span.grants;
      k_is = granted_number ops fraction is_value exact order config some id (take span.granted history) (drop (suc span.granted) history) span.grant span.moment span.token span.cost phase (subst (replays ops config) whole replay) (subst (NeverCancelled id) whole never) span.pulls span.grants ∙ ap Some (sym span.k_is);
      kept = span.kept;
    }

    nothing : given_back id span.i span.k (take span.granted history) ≡ 0
    nothing = ap (cost_between span.i span.k) (none_given id 0 [] (take span.granted history) (never_to id span.granted history never))

  less : (a b hz g : ℕ) → g ≡ 0 → a ≤ b + hz * g → a ≤ b
  less a b hz g e h = let none : hz * 0 ≡ 0 = omega arith in let with_none : a ≤ b + hz * 0 = subst (λ n. a ≤ b + hz * n) e h in omega (arith, none, with_none)

  pub holds_limit : LimitBound ops config
  holds_limit = λ history replay id l span never limited.
      let is = holds_limit_with_cancels ops fraction is_value exact order config some history replay id l (waits id Priority history replay never span) limited in
      (is.0, less _ _ config.hz _ (nothing id Priority history replay never span) is.1)

  pub holds_reservation : ReservationBound ops config
  holds_reservation = λ history replay id r span never reserved.
      let is = holds_reservation_with_cancels ops fraction is_value exact order config some history replay id r (waits id Reservation history replay never span) reserved in
      (is.0, less _ _ config.hz _ (nothing id Reservation history replay never span) is.1)
