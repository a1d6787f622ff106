-- Whole histories: what stays so in each, and how the requests of a client came and left.
use Rattle.std.proofs.Common.{◌≡◌, ℕ, ◌≤◌, true, List, [], ◌∷◌, ◌++◌, map, length, take, drop, Option, Some, None, refl, sym, ap, ◌∙◌, subst, arith, zero, suc, ◌+◌, ◌-◌, ◌<◌, append_assoc, length-append, length-drop}
use Rattle.std.specs.Prelude.{⊤, Bool, false, slice_get, if◌then◌else◌}
use Rattle.std.specs.Cmp.{IsTotalOrder}
use Rattle.std.specs.Option.{option_map_or}
use Rattle.std.proofs.lemmas.List.{append-nil, length-map, map-append, take-append-drop}
use Rattle.dmc_types.specs.Values.{Params, Setting}
use Rattle.dmc_types.specs.declared.ids.ClientId.{ClientId}
use Rattle.dmc_types.specs.declared.ids.Token.{Token}
use Rattle.dmc_types.specs.declared.config.Shares.{Shares}
use Rattle.dmc_types.specs.declared.command.Command.{Command}
use Rattle.dmc_types.specs.declared.command.Command.TheVariants.{Register, Update, Add, Pull, Remove, Cancel, Clean}
use Rattle.dmc_tag.specs.Tag.{Tagging, Fraction, IsExact}
use Rattle.dmc_tag.specs.State.{State, PlainClient, is_client, client_named, requests_of, opening}
use Rattle.dmc_tag.specs.Best.{Found}
use Rattle.dmc_tag.specs.Rules as rules_of
use Rattle.dmc_tag.specs.Step.{step}
use Rattle.dmc_tag.specs.declared.plain.QueuedRequest.{QueuedRequest}
use Rattle.dmc_tag.specs.declared.plain.Slack.{Slack}
use Rattle.dmc_tag.specs.declared.reply.Reply.{Reply}
use Rattle.dmc_tag.specs.declared.reply.Tags.{Tags}
use Rattle.dmc_tag.specs.declared.reply.Reply.TheVariants.{Registered, Updated, Tagged, Granted, Later, Nothing, Removed, Cleaned, Refused}
use Rattle.dmc_history_laws.specs.Bounds.{Arrival, arrival_of, departed, arrivals, departures, Asked, asked_by, asked_at, NotCancelled, NeverCancelled, InOrderIfNeverCancelled}
use Rattle.dmc_history_laws.proofs.Becomes.{Says, IsLike, AreLike, step_becomes}
use Rattle.dmc_history_laws.proofs.InTurn.{AreInTurn}
use Rattle.dmc_tag.specs.Replay.{replays_from}
use Rattle.dmc_tag.specs.declared.event.Event.{Event}
pub use Rattle.dmc_tag.proofs.Running.{after_from}
use Rattle.dmc_history_laws.proofs.TurnSteps.{step_stays}

pub none_left : {X : Type 0} (xs : List X) → xs ≡ drop 0 (xs ++ [])
none_left xs = sym (append-nil xs)

pub all_left : {X : Type 0} (xs : List X) → [] ≡ drop (length xs) (xs ++ [])
all_left [] = refl
all_left (x ∷ xs) = all_left xs

-- What is read of a queued request, and what an arrival adds to that: nothing changes it while the request is queued.
pub record IsKept {T X : Type 0} (ops : Tagging T) (shares : Shares) (read : QueuedRequest T → X) (mark : Arrival → Reply T → X) : Type 0 where
  pub like : (c d : PlainClient T) → IsLike shares c d → map read d.requests ≡ map read c.requests
  pub reduced : (amount : T) (r : QueuedRequest T) → read (rules_of.less_reservation ops amount r) ≡ read r
  pub arrived : (token : Token) (params : Params) (tags : Tags T) (slack : Slack T) → read (record { token = token; cost = params.cost; tags = tags; slack = slack }) ≡ mark (record { token = token; params = params }) (Tagged tags)

-- so it is with tokens and costs
pub asked_kept : {T : Type 0} (ops : Tagging T) (shares : Shares) → IsKept ops shares (λ (r : QueuedRequest T). asked_by r) (λ a _. asked_at a)
asked_kept ops shares = record { like = λ c d l. l.asked; reduced = λ _ _. refl; arrived = λ _ _ _ _. refl }

module _ {T : Type 0} (ops : Tagging T) (order : IsTotalOrder ops.compare) (id : ClientId) where
  abbrev pub front : {X : Type 0} → List X → Option X
  front [] = None
  front (x ∷ xs) = Some x

  -- a grant is of the first
  abbrev pub Takes : Command → Reply T → List Asked → Type 0
  Takes (Pull at) (Granted client token phase beyond cost) asked = is_client id client ≡ true → front asked ≡ Some (record { token = token; cost = cost })
  Takes c reply asked = ⊤

  module _ {X : Type 0} (read : QueuedRequest T → X) (mark : Arrival → Reply T → X) where
    -- what is read of the client's queued requests
    abbrev pub reads_of : State T → List X
    reads_of s = map read (requests_of id s.clients)

    -- what its arrivals add to that
    abbrev pub marks_in : Command → Reply T → List X
    marks_in c reply = map (λ a. mark a reply) (arrival_of id c reply)

    abbrev pub marks : List (Event T) → List X
    marks [] = []
    marks (e ∷ es) = marks_in e.command e.reply ++ marks es

    abbrev pub Moves : Command → State T → Reply T → State T → Type 0
    Moves c s reply new = NotCancelled id c reply → (reads_of new ≡ drop (departed id c reply) (reads_of s ++ marks_in c reply)) × (departed id c reply ≤ length (reads_of s)) × Takes c reply (map asked_by (requests_of id s.clients))

  module _ {X : Type 0} (read : QueuedRequest T → X) (mark : Arrival → Reply T → X) (s : State T) (kept : IsKept ops s.config.shares read mark) where
    abbrev asked : List Asked
    asked = map asked_by (requests_of id s.clients)

    -- what is read of a record
    abbrev reads_at : Option (PlainClient T) → List X
    reads_at o = map read (option_map_or (λ c. c.requests) o [])

    pub named_reads : (new : State T) (o : Option (PlainClient T)) → client_named id new.clients ≡ o → reads_of read mark new ≡ reads_at o
    named_reads new o e = ap reads_at e

    pub like_reads : (o p : Option (PlainClient T)) → AreLike s.config.shares o p → reads_at p ≡ reads_at o
    like_reads None None h = refl
    like_reads None (Some d) h = absurd h
    like_reads (Some c) None h = ap (map read) (sym h)
    like_reads (Some c) (Some d) h = kept.like c d h

    moved : (c : Command) (reply : Reply T) (new : State T) (came : List Arrival) (left prior : ℕ) → Says id c reply came left prior → reads_of read mark new ≡ drop left (reads_of read mark s ++ map (λ a. mark a reply) came) → left ≤ length (reads_of read mark s) → Takes c reply asked → Moves read mark c s reply new
    moved c reply new came left prior says now within takes = λ _. (
      now ∙ ap (λ n. drop n (reads_of read mark s ++ map (λ a. mark a reply) came)) (sym says.left_is) ∙ ap (λ them. drop (departed id c reply) (reads_of read mark s ++ map (λ a. mark a reply) them)) (sym says.came_is),
      subst (λ n. n ≤ length (reads_of read mark s)) (sym says.left_is) within,
      takes,
    )

    -- a grant of another client takes none
    takes_none : (c : Command) (reply : Reply T) → departed id c reply ≡ 0 → Takes c reply asked
    takes_none (Register client info at) reply e = tt
    takes_none (Update client info at) reply e = tt
    takes_none (Add client token params at) reply e = tt
    takes_none (Pull at) Registered e = tt
    takes_none (Pull at) Updated e = tt
    takes_none (Pull at) (Tagged tags) e = tt
    takes_none (Pull at) (Granted client token phase beyond cost) e = λ own. let one : 1 ≡ 0 = sym (ap (λ b. if b then 1 else 0) own) ∙ e in absurd (omega (arith, one))
    takes_none (Pull at) (Later m) e = tt
    takes_none (Pull at) Nothing e = tt
    takes_none (Pull at) (Removed count) e = tt
    takes_none (Pull at) (Cleaned idled erased) e = tt
    takes_none (Pull at) (Refused refusal) e = tt
    takes_none (Remove client) reply e = tt
    takes_none (Cancel client token counting) reply e = tt
    takes_none (Clean at) reply e = tt

    not_both : {Q : Type 0} {b : Bool} → b ≡ false → b ≡ true → Q
    not_both p q = cc

    pub reduced_reads : (found : Found T) (amount : Option T) → map read (rules_of.after_grant ops found amount).requests ≡ map read found.others
    reduced_reads found None = refl
    reduced_reads found (Some amount) = same found.others where
      same : (xs : List (QueuedRequest T)) → map read (map (rules_of.less_reservation ops amount) xs) ≡ map read xs
      same [] = refl
      same (x ∷ xs) = ap (λ y. y ∷ map read (map (rules_of.less_reservation ops amount) xs)) (kept.reduced amount x) ∙ ap (λ ys. read x ∷ ys) (same xs)

    pub step_moves : (c : Command) → AreInTurn ops order s → Moves read mark c s ((step ops s c).1) ((step ops s c).0)
    step_moves c is = step_becomes ops order id s is (λ c reply new. Moves read mark c s reply new)
        (λ c reply new o says stay like next. moved c reply new [] 0 0 says (named_reads new o next.named ∙ like_reads _ o like ∙ none_left _) (omega arith) (takes_none c reply says.left_is))
        (λ client info at new own none next. moved (Register client info at) Registered new [] 0 0 (record { came_is = refl; left_is = refl; prior_is = refl }) (named_reads new _ next.named ∙ ap (λ ts. ts ++ []) (sym (named_reads s None none))) (omega arith) tt)
        (λ client info at new c own named next. moved (Update client info at) Updated new [] 0 0 (record { came_is = refl; left_is = refl; prior_is = refl }) (named_reads new _ next.named ∙ sym (named_reads s (Some c) named) ∙ none_left _) (omega arith) tt)
        (λ client token params at new c d tags slack says named like assigned next last slack_is. moved (Add client token params at) (Tagged tags) new _ 0 0 says (named_reads new _ next.named ∙ map-append read d.requests _ ∙ ap (λ x. map read d.requests ++ x ∷ []) (kept.arrived token params tags slack) ∙ ap (λ ts. ts ++ mark (record { token = token; params = params }) (Tagged tags) ∷ []) (kept.like c d like ∙ sym (named_reads s (Some c) named))) (omega arith) tt)
        (λ at new found amount phase beyond says g named next.
        let here : reads_of read mark s ≡ read found.request ∷ map read found.others = named_reads s (Some found.client) named ∙ ap (map read) g.first in
        let first : asked ≡ asked_by found.request ∷ map asked_by found.others = ap (λ o. map asked_by (option_map_or (λ (c : PlainClient T). c.requests) o [])) named ∙ ap (map asked_by) g.first in
        moved (Pull at) (rules_of.granted found phase beyond) new [] 1 _ says (named_reads new _ next.named ∙ reduced_reads found amount ∙ none_left _ ∙ ap (λ ts. drop 1 (ts ++ [])) (sym here)) (subst (λ ts. 1 ≤ length ts) (sym here) (omega arith)) (λ own. ap front first))
        (λ client new c own says named next.
        let here = named_reads s (Some c) named in
        let size : length (reads_of read mark s) ≡ length c.requests = ap length here ∙ length-map c.requests read in
        moved (Remove client) (Removed (length c.requests)) new [] (length c.requests) 0 says (named_reads new _ next.named ∙ all_left (reads_of read mark s) ∙ ap (λ n. drop n (reads_of read mark s ++ [])) size) (omega arith) tt)
        (λ client token counting new c own named next never. not_both never own)
        c

-- ---- lists

pub drop-more : {X : Type 0} (d e : ℕ) (xs ys : List X) → d ≤ length xs → drop e (drop d xs ++ ys) ≡ drop (d + e) (xs ++ ys)
drop-more zero e xs ys h = let z : e ≡ 0 + e = omega arith in ap (λ k. drop k (xs ++ ys)) z
drop-more (suc d) e [] ys h = absurd (omega arith)
drop-more (suc d) e (x ∷ xs) ys h = let z : suc (d + e) ≡ suc d + e = omega arith in drop-more d e xs ys (omega arith) ∙ ap (λ k. drop k (x ∷ (xs ++ ys))) z

pub longer : {X : Type 0} (d : ℕ) (xs ys : List X) → d ≤ length xs → d ≤ length (xs ++ ys)
longer d xs ys h = omega (arith, length-append xs ys)

-- ---- runs in two parts

module _ {T : Type 0} (ops : Tagging T) where
  pub after-append : (s : State T) (xs ys : List (Event T)) → after_from ops s (xs ++ ys) ≡ after_from ops (after_from ops s xs) ys
  after-append s [] ys = refl
  after-append s (x ∷ xs) ys = after-append ((step ops s x.command).0) xs ys

  pub replays_split : (s : State T) (xs ys : List (Event T)) → replays_from ops s (xs ++ ys) → replays_from ops s xs × replays_from ops (after_from ops s xs) ys
  replays_split s [] ys h = (tt, h)
  replays_split s (x ∷ xs) ys h = let more = replays_split ((step ops s x.command).0) xs ys h.1 in ((h.0, more.0), more.1)

-- ---- a client that is never cancelled

module _ {T : Type 0} (id : ClientId) where
  pub never_split : (xs ys : List (Event T)) → NeverCancelled id (xs ++ ys) → NeverCancelled id xs × NeverCancelled id ys
  never_split [] ys h = (tt, h)
  never_split (x ∷ xs) ys h = let more = never_split xs ys h.1 in ((h.0, more.0), more.1)

  pub never_to : (n : ℕ) (history : List (Event T)) → NeverCancelled id history → NeverCancelled id (take n history)
  never_to n history h = (never_split (take n history) (drop n history) (subst (NeverCancelled id) (sym (take-append-drop n history)) h)).0

  pub never_at : (n : ℕ) (history : List (Event T)) (e : Event T) → NeverCancelled id history → slice_get history n ≡ Some e → NotCancelled id e.command e.reply
  never_at n [] e h here = cc
  never_at zero (x ∷ xs) e h here = let same : x ≡ e = cc in subst (λ z. NotCancelled id z.command z.reply) same h.0
  never_at (suc n) (x ∷ xs) e h here = never_at n xs e h.1 here

-- ---- what stays so

module _ {T : Type 0} (ops : Tagging T) (fraction : T → Fraction) (is_value : Fraction → Type 0) (exact : IsExact ops fraction is_value) (order : IsTotalOrder ops.compare) (config : Setting) (some : 0 < config.hz) where
  pub record IsSound (s : State T) : Type 0 where
    pub turn : AreInTurn ops order s
    pub same : s.config ≡ config

  pub sound_step : (s : State T) (c : Command) → IsSound s → IsSound ((step ops s c).0)
  sound_step s c is =
      let stays = step_stays ops fraction is_value exact order s c (subst (λ k. 0 < k.hz) (sym is.same) some) is.turn in
      record { turn = stays.0; same = stays.1 ∙ is.same }

  pub sound_after : (s : State T) (es : List (Event T)) → IsSound s → IsSound (after_from ops s es)
  sound_after s [] is = is
  sound_after s (e ∷ es) is = sound_after ((step ops s e.command).0) es (sound_step s e.command is)

  pub sound_opening : IsSound (opening ops config)
  sound_opening = record { turn = record { clients = tt; distinct = tt }; same = refl }

  module _ (id : ClientId) where
    module _ {X : Type 0} (read : QueuedRequest T → X) (mark : Arrival → Reply T → X) (kept : IsKept ops config.shares read mark) where
      pub marks_move : (s : State T) (e : Event T) → IsSound s → e.reply ≡ (step ops s e.command).1 → Moves ops order id read mark e.command s e.reply ((step ops s e.command).0)
      marks_move s e is h = subst (λ r. Moves ops order id read mark e.command s r ((step ops s e.command).0)) (sym h) (step_moves ops order id read mark s (subst (λ k. IsKept ops k.shares read mark) (sym is.same) kept) e.command is.turn)

      abbrev reads : State T → List X
      reads s = reads_of ops order id read mark s

      abbrev came : List (Event T) → List X
      came es = marks ops order id read mark es

      -- queued are those before and those that came, without as many as left; and no more leave than there are
      pub marks_after : (s : State T) (es : List (Event T)) → IsSound s → replays_from ops s es → NeverCancelled id es → (reads (after_from ops s es) ≡ drop (departures id es) (reads s ++ came es)) × (departures id es ≤ length (reads s) + length (arrivals id es))
      marks_after s [] is h never = (none_left _, omega arith)
      marks_after s (e ∷ es) is h never =
          let next = (step ops s e.command).0 in
          let moves = marks_move s e is h.0 never.0 in
          let now = marks_in ops order id read mark e.command e.reply in
          let d = departed id e.command e.reply in
          let rest = marks_after next es (sound_step s e.command is) h.1 never.1 in (
            rest.0
                ∙ ap (λ ts. drop (departures id es) (ts ++ came es)) moves.0
                ∙ drop-more d (departures id es) (reads s ++ now) (came es) (longer d (reads s) now moves.1)
                ∙ ap (drop (d + departures id es)) (append_assoc (reads s) now (came es)),
            counts (reads next) (reads s) now (arrival_of id e.command e.reply) (arrivals id es) d (departures id es) (ap length moves.0) moves.1 rest.1 (length-map (arrival_of id e.command e.reply) (λ a. mark a e.reply)),
          )
        where
          counts : (next here now : List X) (mine later : List Arrival) (d ds : ℕ) → length next ≡ length (drop d (here ++ now)) → d ≤ length here → ds ≤ length next + length later → length now ≡ length mine → d + ds ≤ length here + length (mine ++ later)
          counts next here now mine later d ds e h k n = omega (arith, length-drop d (here ++ now), length-append here now, length-append mine later)

    -- ---- the tokens and costs of the queued requests

    abbrev asked_mark : Arrival → Reply T → Asked
    asked_mark a reply = asked_at a

    abbrev pub queued : State T → List Asked
    queued s = map asked_by (requests_of id s.clients)

    abbrev pub sent : List Arrival → List Asked
    sent qs = map asked_at qs

    pub event_moves : (s : State T) (e : Event T) → IsSound s → e.reply ≡ (step ops s e.command).1 → Moves ops order id asked_by asked_mark e.command s e.reply ((step ops s e.command).0)
    event_moves = marks_move asked_by asked_mark (asked_kept ops config.shares)

    sent_are : (es : List (Event T)) → marks ops order id asked_by asked_mark es ≡ sent (arrivals id es)
    sent_are [] = refl
    sent_are (e ∷ es) = ap (λ ts. sent (arrival_of id e.command e.reply) ++ ts) (sent_are es) ∙ sym (map-append asked_at (arrival_of id e.command e.reply) (arrivals id es))

    pub asked_after : (s : State T) (es : List (Event T)) → IsSound s → replays_from ops s es → NeverCancelled id es → (queued (after_from ops s es) ≡ drop (departures id es) (queued s ++ sent (arrivals id es))) × (departures id es ≤ length (queued s) + length (arrivals id es))
    asked_after s es is h never = let all = marks_after asked_by asked_mark (asked_kept ops config.shares) s es is h never in (all.0 ∙ ap (λ ts. drop (departures id es) (queued s ++ ts)) (sent_are es), all.1)

    -- how many are queued
    pub queued_is : (es : List (Event T)) → replays_from ops (opening ops config) es → NeverCancelled id es → (length (queued (after_from ops (opening ops config) es)) ≡ length (arrivals id es) - departures id es) × (departures id es ≤ length (arrivals id es))
    queued_is es h never =
        let after = asked_after (opening ops config) es sound_opening h never in
        (ap length after.0 ∙ sizes (departures id es) (sent (arrivals id es)) (length-map (arrivals id es) asked_at), within after.1)
      where
        sizes : (d : ℕ) (xs : List Asked) → length xs ≡ length (arrivals id es) → length (drop d xs) ≡ length (arrivals id es) - d
        sizes d xs e = omega (arith, length-drop d xs)

        within : departures id es ≤ 0 + length (arrivals id es) → departures id es ≤ length (arrivals id es)
        within h = omega arith

  pub in_order_if_never_cancelled : InOrderIfNeverCancelled ops config
  in_order_if_never_cancelled = λ id events replay never. (asked_after id (opening ops config) events sound_opening replay never).0
