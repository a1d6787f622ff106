-- Which of a client's arrivals wait: its queued requests, event by event.
use Rattle.std.proofs.Common.{◌≡◌, ℕ, suc, ◌+◌, ◌<◌, Bool, true, false, not, cond, List, [], ◌∷◌, ◌++◌, map, length, drop, Option, Some, None, refl, sym, ap, ◌∙◌, subst}
use Rattle.std.specs.Prelude.{◌==◌, filter, if◌then◌else◌}
use Rattle.std.specs.Option.{option_map_or}
use Rattle.std.specs.Cmp.{IsTotalOrder}
use Rattle.std.proofs.lemmas.List.{append-nil, map-append}
use Rattle.dmc_types.specs.Values.{Setting}
use Rattle.dmc_types.specs.declared.ids.ClientId.{ClientId}
use Rattle.dmc_types.specs.declared.ids.Token.{Token}
use Rattle.dmc_types.specs.declared.command.Command.{Command}
use Rattle.dmc_types.specs.declared.command.Command.TheVariants.{Pull, Remove, Cancel}
use Rattle.dmc_tag.specs.Cancel as cancels
use Rattle.dmc_tag.specs.Cancel.{charged_to, no_befores, staying, without_token}
use Rattle.dmc_tag.specs.Replay.{replays_from}
use Rattle.dmc_tag.specs.Rules as rules_of
use Rattle.dmc_tag.specs.State.{State, PlainClient, client_named, requests_of, opening}
use Rattle.dmc_tag.specs.Step.{step}
use Rattle.dmc_tag.specs.Tag.{Fraction, Tagging, IsExact}
use Rattle.dmc_tag.specs.declared.cancel.Befores.{Befores}
use Rattle.dmc_tag.specs.declared.event.Event.{Event}
use Rattle.dmc_tag.specs.declared.plain.QueuedRequest.{QueuedRequest}
use Rattle.dmc_tag.specs.declared.plain.Slack.{Slack}
use Rattle.dmc_tag.specs.declared.reply.Reply.{Reply}
use Rattle.dmc_tag.specs.declared.reply.Reply.TheVariants.{Removed}
use Rattle.dmc_history_laws.specs.Bounds.{Arrival, Asked, Numbered, arrival_of, asked_at, asked_by, has_token, numbered_from, still_waiting, waiting_from, InOrderOfArrival}
use Rattle.dmc_history_laws.proofs.Becomes.{step_becomes}
use Rattle.dmc_history_laws.proofs.Histories.{IsSound, after_from, asked_kept, like_reads, reduced_reads, sound_opening, sound_step}
use Rattle.dmc_history_laws.proofs.InTurn.{AreInTurn}

-- ---- lists

filter_mapped : {X Y : Type 0} (f : X → Y) (test : Y → Bool) (xs : List X) → map f (filter (λ x. test (f x)) xs) ≡ filter test (map f xs)
filter_mapped f test [] = refl
filter_mapped f test (x ∷ xs) = at (test (f x)) (filter_mapped f test xs) where
  at : (b : Bool) → map f (filter (λ x. test (f x)) xs) ≡ filter test (map f xs) → map f (cond b (x ∷ filter (λ x. test (f x)) xs) (filter (λ x. test (f x)) xs)) ≡ cond b (f x ∷ filter test (map f xs)) (filter test (map f xs))
  at true more = ap (λ ys. f x ∷ ys) more
  at false more = more

drop_one : {X Y : Type 0} (f : X → Y) (xs : List X) → map f (drop 1 xs) ≡ drop 1 (map f xs)
drop_one f [] = refl
drop_one f (x ∷ xs) = refl

-- ---- what those that wait are asked with

abbrev pub asked_of : Numbered → Asked
asked_of n = asked_at n.arrival

-- with another token
abbrev is_other : Token → Asked → Bool
is_other token a = not (a.token.0 == token.0)

-- a cancel leaves those with another token
asked_staying : {T : Type 0} (ops : Tagging T) (token : Token) (charged : ℕ → Slack T) (befores : Befores T) (rs : List (QueuedRequest T)) → map asked_by (staying ops token charged befores rs) ≡ filter (is_other token) (map asked_by rs)
asked_staying ops token charged befores [] = refl
asked_staying {T} ops token charged befores (r ∷ rs) = at (cancels.has_token token r) (asked_staying ops token charged (cancels.befores_next ops (cancels.has_token token r) (charged r.cost) befores r) rs) where
  at : (b : Bool) → map asked_by (staying ops token charged (cancels.befores_next ops b (charged r.cost) befores r) rs) ≡ filter (is_other token) (map asked_by rs)
      → map asked_by (if b then staying ops token charged (cancels.befores_next ops b (charged r.cost) befores r) rs else cancels.fallen_request ops befores r ∷ staying ops token charged (cancels.befores_next ops b (charged r.cost) befores r) rs) ≡ cond (not b) (asked_by r ∷ filter (is_other token) (map asked_by rs)) (filter (is_other token) (map asked_by rs))
  at true more = more
  at false more = ap (λ ys. asked_by r ∷ ys) more

-- ---- event by event

module _ {T : Type 0} (ops : Tagging T) (order : IsTotalOrder ops.compare) (id : ClientId) (s : State T) where
  abbrev queued : State T → List Asked
  queued s = map asked_by (requests_of id s.clients)

  abbrev asked_in : Option (PlainClient T) → List Asked
  asked_in o = map asked_by (option_map_or (λ (c : PlainClient T). c.requests) o [])

  -- so those wait that the command and its reply leave, and behind them what comes by it
  abbrev pub Waits : Command → Reply T → State T → Type 0
  Waits c reply new = (arrived : ℕ) (those : List Numbered) → queued s ≡ map asked_of those → queued new ≡ map asked_of (still_waiting id c reply those ++ numbered_from (suc arrived) (arrival_of id c reply))

  named : (new : State T) (o : Option (PlainClient T)) → client_named id new.clients ≡ o → queued new ≡ asked_in o
  named new o e = ap asked_in e

  -- nothing comes
  none_comes : (c : Command) (reply : Reply T) (new : State T) (left : List Numbered → List Numbered) → arrival_of id c reply ≡ [] → ((those : List Numbered) → still_waiting id c reply those ≡ left those) → ((those : List Numbered) → queued s ≡ map asked_of those → queued new ≡ map asked_of (left those)) → Waits c reply new
  none_comes c reply new left none leaves goes = λ arrived those e.
      goes those e
      ∙ ap (map asked_of) (sym (leaves those) ∙ sym (append-nil (still_waiting id c reply those)) ∙ ap (λ came. still_waiting id c reply those ++ numbered_from (suc arrived) came) (sym none))

  is_own : (b : Bool) → ◌≡◌ {A = ℕ} (if b then 1 else 0) 1 → b ≡ true
  is_own true e = refl
  is_own false e = cc

  pub step_waits : AreInTurn ops order s → (c : Command) → Waits c ((step ops s c).1) ((step ops s c).0)
  step_waits is = step_becomes ops order id s is Waits
      (λ c reply new o says stay like next. none_comes c reply new (λ those. those) says.came_is (λ those. (stay those).0) (λ those e. named new o next.named ∙ like_reads ops order id asked_by (λ a _. asked_at a) s (asked_kept ops s.config.shares) _ o like ∙ e))
      (λ client info at new own none next arrived those e. named new _ next.named ∙ sym (named s None none) ∙ e ∙ ap (map asked_of) (sym (append-nil those)))
      (λ client info at new c own mine next arrived those e. named new _ next.named ∙ sym (named s (Some c) mine) ∙ e ∙ ap (map asked_of) (sym (append-nil those)))
      (λ client token params at new c d tags slack says mine like given next last slack_is arrived those e.
      let a : Arrival = record { token = token; params = params } in
      named new _ next.named
      ∙ map-append asked_by d.requests _
      ∙ ap (λ asked. asked ++ asked_at a ∷ []) (like.asked ∙ sym (named s (Some c) mine) ∙ e)
      ∙ sym (map-append asked_of those (numbered_from (suc arrived) (a ∷ [])))
      ∙ ap (λ came. map asked_of (those ++ numbered_from (suc arrived) came)) (sym says.came_is))
      (λ at new found amount phase beyond says g mine next. none_comes (Pull at) (rules_of.granted found phase beyond) new (drop 1) refl (λ those. ap (λ b. if b then drop 1 those else those) (is_own _ says.left_is)) (λ those e.
      named new _ next.named
      ∙ reduced_reads ops order id asked_by (λ a _. asked_at a) s (asked_kept ops s.config.shares) found amount
      ∙ ap (drop 1) (sym (ap (map asked_by) g.first) ∙ sym (named s (Some found.client) mine) ∙ e)
      ∙ sym (drop_one asked_of those)))
      (λ client new c own says mine next. none_comes (Remove client) (Removed (length c.requests)) new (λ _. []) refl (λ those. ap (λ b. if b then [] else those) own) (λ those e. named new _ next.named))
      (λ client token counting new c own mine next. none_comes (Cancel client token counting) (Removed (length (filter (cancels.has_token token) c.requests))) new (filter (λ n. not (has_token token n))) refl (λ those. ap (λ b. if b then filter (λ n. not (has_token token n)) those else those) own) (λ those e.
      named new _ next.named
      ∙ asked_staying ops token (charged_to ops s.config.hz counting c) no_befores c.requests
      ∙ ap (filter (is_other token)) (sym (named s (Some c) mine) ∙ e)
      ∙ sym (filter_mapped asked_of (is_other token) those)))

-- ---- over a history

module _ {T : Type 0} (ops : Tagging T) (fraction : T → Fraction) (is_value : Fraction → Type 0) (exact : IsExact ops fraction is_value) (order : IsTotalOrder ops.compare) (config : Setting) (some : 0 < config.hz) where
  pub waits_after : (id : ClientId) (s : State T) (es : List (Event T)) (arrived : ℕ) (those : List Numbered) → IsSound ops fraction is_value exact order config some s → replays_from ops s es
      → map asked_by (requests_of id s.clients) ≡ map asked_of those → map asked_by (requests_of id (after_from ops s es).clients) ≡ map asked_of (waiting_from id arrived those es)
  waits_after id s [] arrived those is h e = e
  waits_after id s (x ∷ es) arrived those is h e =
      let next = (step ops s x.command).0 in
      let came = arrival_of id x.command x.reply in
      let now = subst (λ r. Waits ops order id s x.command r next) (sym h.0) (step_waits ops order id s is.turn x.command) arrived those e in
      waits_after id next es (arrived + length came) (still_waiting id x.command x.reply those ++ numbered_from (suc arrived) came) (sound_step ops fraction is_value exact order config some s x.command is) h.1 now

  pub in_order_of_arrival : InOrderOfArrival ops config
  in_order_of_arrival = λ id events replay. waits_after id (opening ops config) events 0 [] (sound_opening ops fraction is_value exact order config some) replay refl
