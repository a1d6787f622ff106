-- What a command makes of one client's record, by cases. What holds of each case holds of every command.
use Rattle.std.proofs.Common.{◌≡◌, ℕ, ◌≤◌, max, Bool, true, false, not, cond, List, [], ◌∷◌, ◌++◌, map, drop, length, Option, Some, None, Ok, Err, refl, sym, ap, ◌∙◌, subst, arith}
use Rattle.std.specs.Prelude.{⊤, ◌&&◌, if◌then◌else◌, is_some, filter}
use Rattle.std.specs.Cmp.{IsTotalOrder}
use Rattle.std.specs.Option.{ok_or, option_map, option_and_then}
use Rattle.dmc_types.specs.Values.{Params, Rates}
use Rattle.dmc_types.specs.declared.ids.ClientId.{ClientId}
use Rattle.dmc_types.specs.declared.ids.Token.{Token}
use Rattle.dmc_types.specs.declared.config.Counting.{Counting}
use Rattle.dmc_types.specs.declared.config.Counting.TheVariants.{All, Others}
use Rattle.dmc_types.specs.declared.config.PhaseType.{PhaseType}
use Rattle.dmc_types.specs.declared.config.PhaseType.TheVariants.{Reservation, Priority}
use Rattle.dmc_types.specs.declared.config.Shares.{Shares}
use Rattle.dmc_types.specs.declared.config.Shares.TheVariants.{Virtual}
use Rattle.dmc_types.specs.declared.refusal.Refusal.{Refusal}
use Rattle.dmc_types.specs.declared.refusal.Refusal.TheVariants.{Known, Unknown}
use Rattle.dmc_types.specs.declared.command.Command.{Command}
use Rattle.dmc_types.specs.declared.command.Command.TheVariants.{Register, Update, Add, Pull, Remove, Cancel, Clean}
use Rattle.dmc_tag.specs.Tag.{Tagging}
use Rattle.dmc_tag.specs.Cancel.{cancelled, charged_to, has_token, without_token}
use Rattle.dmc_tag.specs.Outcome.{refuse_if}
use Rattle.dmc_tag.specs.State.{State, PlainClient, is_client, is_busy, client_named, effective}
use Rattle.dmc_tag.specs.Best.{Found}
use Rattle.dmc_tag.specs.Rules as rules_of
use Rattle.dmc_tag.specs.Rules.{Outcome, Addition}
use Rattle.dmc_tag.specs.Step.{answer_of, step}
use Rattle.dmc_tag.specs.declared.plain.Slack.{Slack}
use Rattle.dmc_tag.specs.declared.reply.Reply.{Reply}
use Rattle.dmc_tag.specs.declared.reply.Reply.TheVariants.{Registered, Updated, Tagged, Removed, Refused}
use Rattle.dmc_tag.specs.declared.reply.Tags.{Tags}
use Rattle.dmc_tag.proofs.Active.{either, granted_id, same_client, empty_if_not_busy}
use Rattle.dmc_tag.proofs.TagOrder.{bound, from_option}
use Rattle.dmc_history_laws.specs.Bounds.{Arrival, Numbered, has_token as waits_with, given_back_of, still_waiting, arrival_of, departed, prioritized, asked_by}
use Rattle.dmc_history_laws.proofs.Basics.{bind_goes, add_gives, allowed, named_same}
use Rattle.dmc_history_laws.proofs.InTurn.{IsGrant, pull_is, AreInTurn}
use Rattle.dmc_history_laws.proofs.Named.{named_mapped, named_own, named_other, named_next, named_before, named_kept, named_at}
use Rattle.dmc_history_laws.proofs.Pairs.{AreDistinct}

-- the cost of a Priority grant, and nothing for one by reservation
abbrev pub grants_in : PhaseType → ℕ → ℕ
grants_in Priority cost = cost
grants_in Reservation cost = 0

-- what comes of the client by the command and its reply, how many requests leave, and the cost of what leaves by weight
pub record Says {T : Type 0} (id : ClientId) (c : Command) (reply : Reply T) (came : List Arrival) (left prior : ℕ) : Type 0 where
  pub came_is : arrival_of id c reply ≡ came
  pub left_is : departed id c reply ≡ left
  pub prior_is : prioritized id c reply ≡ prior

-- none of those that wait leaves, and nothing is given back
abbrev pub NoneLeaves : {T : Type 0} → ClientId → Command → Reply T → Type 0
NoneLeaves id c reply = (those : List Numbered) → (still_waiting id c reply those ≡ those) × (given_back_of id c reply those ≡ [])

-- a client's record that differs in its P tags and its idle mark alone; under Shares::Virtual in its idle mark alone
pub record IsLike {T : Type 0} (shares : Shares) (c d : PlainClient T) : Type 0 where
  pub info : d.info ≡ c.info
  pub previous_r : d.previous.r ≡ c.previous.r
  pub previous_l : d.previous.l ≡ c.previous.l
  pub asked : map asked_by d.requests ≡ map asked_by c.requests
  pub reservations : map (λ r. r.tags.r) d.requests ≡ map (λ r. r.tags.r) c.requests
  pub limits : map (λ r. r.tags.l) d.requests ≡ map (λ r. r.tags.l) c.requests
  pub slacks : map (λ r. r.slack) d.requests ≡ map (λ r. r.slack) c.requests
  pub previous_slack : d.previous.slack ≡ c.previous.slack
  pub previous_cancelled : d.previous.cancelled ≡ c.previous.cancelled
  pub previous_p : shares ≡ Virtual → d.previous.p ≡ c.previous.p
  pub weights : shares ≡ Virtual → map (λ r. r.tags.p) d.requests ≡ map (λ r. r.tags.p) c.requests

-- a client that goes has nothing queued
abbrev pub AreLike : {T : Type 0} → Shares → Option (PlainClient T) → Option (PlainClient T) → Type 0
AreLike shares None None = ⊤
AreLike shares None (Some d) = ⊥
AreLike shares (Some c) None = c.requests ≡ []
AreLike shares (Some c) (Some d) = IsLike shares c d

-- the client's record in the state after, which is no earlier
pub record IsNext {T : Type 0} (id : ClientId) (s new : State T) (record_is : Option (PlainClient T)) : Type 0 where
  pub named : client_named id new.clients ≡ record_is
  pub later : s.last_moment ≤ new.last_moment

-- what a change does not touch is read as before
map_reads : {A B : Type 0} (proj : A → B) (f : A → A) → ((x : A) → proj (f x) ≡ proj x) → (xs : List A) → map proj (map f xs) ≡ map proj xs
map_reads proj f same [] = refl
map_reads proj f same (x ∷ xs) = ap (λ y. y ∷ map proj (map f xs)) (same x) ∙ ap (λ ys. proj x ∷ ys) (map_reads proj f same xs)

-- what a shift leaves of a client
abbrev pub shifted_record : {T : Type 0} → Tagging T → Option T → PlainClient T → PlainClient T
shifted_record ops None c = c
shifted_record ops (Some amount) c = rules_of.shifted_client ops amount c

module _ {T : Type 0} (shares : Shares) where
  pub like_itself : (c : PlainClient T) → IsLike shares c c
  like_itself c = record { info = refl; previous_r = refl; previous_l = refl; asked = refl; reservations = refl; limits = refl; slacks = refl; previous_slack = refl; previous_cancelled = refl; previous_p = λ v. refl; weights = λ v. refl }

  pub same_record : (o : Option (PlainClient T)) → AreLike shares o o
  same_record None = tt
  same_record (Some c) = like_itself c

  pub like_shifted : (ops : Tagging T) (amount : T) (c : PlainClient T) → (shares ≡ Virtual → ⊥) → IsLike shares c (rules_of.shifted_client ops amount c)
  like_shifted ops amount c not_so = either (IsLike shares c) c.idle c (rules_of.less_shares ops amount c) (like_itself c) (record {
    info = refl;
    previous_r = refl;
    previous_l = refl;
    asked = map_reads asked_by (rules_of.less_share ops amount) (λ r. refl) c.requests;
    reservations = map_reads (λ r. r.tags.r) (rules_of.less_share ops amount) (λ r. refl) c.requests;
    limits = map_reads (λ r. r.tags.l) (rules_of.less_share ops amount) (λ r. refl) c.requests;
    slacks = map_reads (λ r. r.slack) (rules_of.less_share ops amount) (λ r. refl) c.requests;
    previous_slack = refl;
    previous_cancelled = refl;
    previous_p = λ v. absurd (not_so v);
    weights = λ v. absurd (not_so v);
  })

  pub like_left : (ops : Tagging T) (shift : Option T) (c : PlainClient T) → (shares ≡ Virtual → shift ≡ None) → IsLike shares c (shifted_record ops shift c)
  like_left ops None c none = like_itself c
  like_left ops (Some amount) c none = like_shifted ops amount c (λ v. let e = none v in cc)

  -- there is no shift under Shares::Virtual
  pub none_shifted : (ops : Tagging T) (clients : List (PlainClient T)) (c : PlainClient T) (t : T) (shift : Option T) → rules_of.shift_of ops shares clients c t ≡ Ok shift → shares ≡ Virtual → shift ≡ None
  none_shifted ops clients c t shift e v = let found = subst (λ k. rules_of.shift_of ops k clients c t ≡ Ok shift) v e in cc

-- What holds of each of these cases holds of every command, from a state whose clients are in turn.
module _ {T : Type 0} (ops : Tagging T) (order : IsTotalOrder ops.compare) (id : ClientId) (s : State T) (is : AreInTurn ops order s) (P : Command → Reply T → State T → Type 0) (quiet : (c : Command) (reply : Reply T) (new : State T) (o : Option (PlainClient T)) → Says id c reply [] 0 0 → NoneLeaves id c reply → AreLike s.config.shares (client_named id s.clients) o → IsNext id s new o → P c reply new) (registers : (client : ClientId) (info : Rates) (at : ℕ) (new : State T) → is_client id client ≡ true → client_named id s.clients ≡ None → IsNext id s new (Some (rules_of.newcomer ops client info (effective s at))) → P (Register client info at) Registered new) (updates : (client : ClientId) (info : Rates) (at : ℕ) (new : State T) (c : PlainClient T) → is_client id client ≡ true → client_named id s.clients ≡ Some c → IsNext id s new (Some (rules_of.with_info info c)) → P (Update client info at) Updated new) (arrives : (client : ClientId) (token : Token) (params : Params) (at : ℕ) (new : State T) (c d : PlainClient T) (tags : Tags T) (slack : Slack T) → Says {T = T} id (Add client token params at) (Tagged tags) (record { token = token; params = params } ∷ []) 0 0 → client_named id s.clients ≡ Some c → IsLike s.config.shares c d → rules_of.assigned ops s.config.hz c params (ops.of_moment (effective s at)) (rules_of.share_floor ops s (ops.of_moment (effective s at))) ≡ Ok tags → IsNext id s new (Some (rules_of.after_arrival (record { token = token; cost = params.cost; tags = tags; slack = slack }) (effective s at) d)) → new.last_moment ≡ effective s at → rules_of.slack_of ops c.previous tags (ops.of_moment (effective s at)) (rules_of.share_floor ops s (ops.of_moment (effective s at))) ≡ slack → P (Add client token params at) (Tagged tags) new) (grants : (at : ℕ) (new : State T) (found : Found T) (amount : Option T) (phase : PhaseType) (beyond : Bool) → Says id (Pull at) (rules_of.granted found phase beyond) [] 1 (grants_in phase found.request.cost) → IsGrant ops s (effective s at) found amount phase beyond → client_named id s.clients ≡ Some found.client → IsNext id s new (Some (rules_of.after_grant ops found amount)) → P (Pull at) (rules_of.granted found phase beyond) new) (removes : (client : ClientId) (new : State T) (c : PlainClient T) → is_client id client ≡ true → Says {T = T} id (Remove client) (Removed (length c.requests)) [] (length c.requests) 0 → client_named id s.clients ≡ Some c → IsNext id s new (Some (rules_of.with_requests [] c)) → P (Remove client) (Removed (length c.requests)) new) (cancels : (client : ClientId) (token : Token) (counting : Counting) (new : State T) (c : PlainClient T) → is_client id client ≡ true → client_named id s.clients ≡ Some c → IsNext id s new (Some (without_token ops token (charged_to ops s.config.hz counting c) c)) → P (Cancel client token counting) (Removed (length (filter (has_token token) c.requests))) new) where
  abbrev old : Option (PlainClient T)
  old = client_named id s.clients

  abbrev Goes : Command → Outcome T → Type 0
  Goes c o = P c ((answer_of s o).1) ((answer_of s o).0)

  in_time : (at last : ℕ) → last ≤ max at last
  in_time at last = omega arith

  -- nothing of the client comes or goes
  pub silent : (c : Command) (e : Refusal) → Says {T = T} id c (Refused e) [] 0 0
  silent (Register client info at) e = record { came_is = refl; left_is = refl; prior_is = refl }
  silent (Update client info at) e = record { came_is = refl; left_is = refl; prior_is = refl }
  silent (Add client token params at) e = record { came_is = refl; left_is = refl; prior_is = refl }
  silent (Pull at) e = record { came_is = refl; left_is = refl; prior_is = refl }
  silent (Remove client) e = record { came_is = refl; left_is = refl; prior_is = refl }
  silent (Cancel client token counting) e = record { came_is = refl; left_is = refl; prior_is = refl }
  silent (Clean at) e = record { came_is = refl; left_is = refl; prior_is = refl }

  none_leaves : (c : Command) (e : Refusal) → NoneLeaves {T = T} id c (Refused e)
  none_leaves (Register client info at) e those = (refl, refl)
  none_leaves (Update client info at) e those = (refl, refl)
  none_leaves (Add client token params at) e those = (refl, refl)
  none_leaves (Pull at) e those = (refl, refl)
  none_leaves (Remove client) e those = (refl, refl)
  none_leaves (Cancel client token All) e those = (refl, refl)
  none_leaves (Cancel client token Others) e those = (refl, refl)
  none_leaves (Clean at) e those = (refl, refl)

  refused : (c : Command) (e : Refusal) → Goes c (Err e)
  refused c e = quiet c (Refused e) s old (silent c e) (none_leaves c e) (same_record s.config.shares old) (record { named = refl; later = omega arith })

  -- the same clients at a moment
  unchanged : (c : Command) (reply : Reply T) (at : ℕ) → Says id c reply [] 0 0 → NoneLeaves id c reply → P c reply (record s { last_moment = effective s at })
  unchanged c reply at says stay = quiet c reply (record s { last_moment = effective s at }) old says stay (same_record s.config.shares old) (record { named = refl; later = in_time at s.last_moment })

  not_named : (o : Option (PlainClient T)) → is_some o ≡ false → o ≡ None
  not_named None e = refl
  not_named (Some c) e = cc

  register_is : (client : ClientId) (info : Rates) (at : ℕ) → Goes (Register client info at) (rules_of.registered ops s client info (effective s at))
  register_is client info at = bind_goes (Goes (Register client info at)) (rules_of.can_register ops s client info) _ (refused (Register client info at)) (λ u e.
      let known = bound (refuse_if (is_some (client_named client s.clients)) Known) _ u e in
      by (not_named _ (allowed _ Known known.0 known.1)) (is_client id client) refl)
    where
      newcomer : PlainClient T
      newcomer = rules_of.newcomer ops client info (effective s at)

      by : client_named client s.clients ≡ None → (own : Bool) → is_client id client ≡ own → P (Register client info at) Registered (record s { clients = s.clients ++ newcomer ∷ []; last_moment = effective s at })
      by none true own =
          let mine = named_same id client s.clients own ∙ none in
          registers client info at _ own mine (record { named = named_next id s.clients newcomer own mine; later = in_time at s.last_moment })
      by none false other = quiet (Register client info at) Registered _ old (record { came_is = refl; left_is = refl; prior_is = refl }) (λ those. (refl, refl)) (same_record s.config.shares old) (record { named = named_before id s.clients newcomer other; later = in_time at s.last_moment })

  update_is : (client : ClientId) (info : Rates) (at : ℕ) → Goes (Update client info at) (rules_of.updated ops s client info (effective s at))
  update_is client info at = bind_goes (Goes (Update client info at)) (rules_of.can_update ops s client info) _ (refused (Update client info at)) (λ u e.
      let known = bound (ok_or (client_named client s.clients) Unknown) _ u e in
      by known.0 (from_option _ _ _ known.1) (is_client id client) refl)
    where
      by : (c : PlainClient T) → client_named client s.clients ≡ Some c → (own : Bool) → is_client id client ≡ own → P (Update client info at) Updated (record s { clients = rules_of.change_client client (rules_of.with_info info) s.clients; last_moment = effective s at })
      by c named true own =
          let mine = named_same id client s.clients own ∙ named in
          updates client info at _ c own mine (record { named = named_own id client (rules_of.with_info info) (λ d _. refl) own s.clients c mine; later = in_time at s.last_moment })
      by c named false other = quiet (Update client info at) Updated _ old (record { came_is = refl; left_is = refl; prior_is = refl }) (λ those. (refl, refl)) (same_record s.config.shares old) (record { named = named_other id client (rules_of.with_info info) (λ d _. refl) other s.clients; later = in_time at s.last_moment })

  -- ---- add

  shifted_id : (amount : T) (c : PlainClient T) → (rules_of.shifted_client ops amount c).id ≡ c.id
  shifted_id amount c = either (λ z. z.id ≡ c.id) c.idle c _ refl refl

  named_shifted : (shift : Option T) → client_named id (rules_of.shifted_by ops shift s.clients) ≡ option_map (shifted_record ops shift) old
  named_shifted None = unmapped old where
    unmapped : (o : Option (PlainClient T)) → o ≡ option_map (shifted_record ops None) o
    unmapped None = refl
    unmapped (Some c) = refl
  named_shifted (Some amount) = named_mapped id (rules_of.shifted_client ops amount) (shifted_id amount) s.clients

  like_mapped : (shift : Option T) → (s.config.shares ≡ Virtual → shift ≡ None) → (o : Option (PlainClient T)) → AreLike s.config.shares o (option_map (shifted_record ops shift) o)
  like_mapped shift none None = tt
  like_mapped shift none (Some c) = like_left s.config.shares ops shift c none

  add_is : (client : ClientId) (token : Token) (params : Params) (at : ℕ) → Goes (Add client token params at) (rules_of.added ops s client token params (effective s at))
  add_is client token params at = bind_goes (Goes (Add client token params at)) (rules_of.can_add ops s client params (effective s at)) _ (refused (Add client token params at)) (λ x e. by x e (is_client id client) refl) where
    unshifted : (x : Addition T) → rules_of.can_add ops s client params (effective s at) ≡ Ok x → s.config.shares ≡ Virtual → x.shift ≡ None
    unshifted x e = let c = add_gives ops s client params (effective s at) x e in none_shifted s.config.shares ops s.clients c.client _ x.shift c.shift

    by : (x : Addition T) → rules_of.can_add ops s client params (effective s at) ≡ Ok x → (own : Bool) → is_client id client ≡ own → P (Add client token params at) (Tagged x.tags) (rules_of.queued ops s x.shift client (rules_of.request_of token params.cost x) (effective s at))
    by x e true own =
        let c = add_gives ops s client params (effective s at) x e in
        let mine = named_same id client s.clients own ∙ c.named in
        let left = shifted_record ops x.shift c.client in
        let named : client_named id (rules_of.shifted_by ops x.shift s.clients) ≡ Some left = named_shifted x.shift ∙ ap (option_map (shifted_record ops x.shift)) mine in
        arrives client token params at _ c.client left x.tags x.slack (record { came_is = ap (λ b. if b then record { token = token; params = params } ∷ [] else []) own; left_is = refl; prior_is = refl }) mine (like_left s.config.shares ops x.shift c.client (unshifted x e)) c.tags (record { named = named_own id client (rules_of.after_arrival (rules_of.request_of token params.cost x) (effective s at)) (λ d _. refl) own (rules_of.shifted_by ops x.shift s.clients) left named; later = in_time at s.last_moment }) refl c.slack
    by x e false other = quiet (Add client token params at) (Tagged x.tags) _ (option_map (shifted_record ops x.shift) old)
        (record { came_is = ap (λ b. if b then record { token = token; params = params } ∷ [] else []) other; left_is = refl; prior_is = refl })
        (λ those. (refl, refl))
        (like_mapped x.shift (unshifted x e) old)
        (record { named = named_other id client (rules_of.after_arrival (rules_of.request_of token params.cost x) (effective s at)) (λ d _. refl) other (rules_of.shifted_by ops x.shift s.clients) ∙ named_shifted x.shift; later = in_time at s.last_moment })

  -- ---- pull

  grant_says : (at : ℕ) (found : Found T) (phase : PhaseType) (beyond own : Bool) → is_client id found.client.id ≡ own → Says id (Pull at) (rules_of.granted found phase beyond) [] (cond own 1 0) (cond own (grants_in phase found.request.cost) 0)
  grant_says at found Reservation beyond true e = record { came_is = refl; left_is = ap (λ b. if b then 1 else 0) e; prior_is = refl }
  grant_says at found Reservation beyond false e = record { came_is = refl; left_is = ap (λ b. if b then 1 else 0) e; prior_is = refl }
  grant_says at found Priority beyond true e = record { came_is = refl; left_is = ap (λ b. if b then 1 else 0) e; prior_is = ap (λ b. if b then found.request.cost else 0) e }
  grant_says at found Priority beyond false e = record { came_is = refl; left_is = ap (λ b. if b then 1 else 0) e; prior_is = ap (λ b. if b then found.request.cost else 0) e }

  grant_is : (at : ℕ) (found : Found T) (amount : Option T) (phase : PhaseType) (beyond : Bool) → IsGrant ops s (effective s at) found amount phase beyond → P (Pull at) (rules_of.granted found phase beyond) (rules_of.taken_out ops s (effective s at) found phase amount)
  grant_is at found amount phase beyond g = by (is_client id found.client.id) refl where
    after : PlainClient T → PlainClient T
    after c = rules_of.after_grant ops found amount

    ids : (c : PlainClient T) → is_client found.client.id c.id ≡ true → (after c).id ≡ c.id
    ids c e = granted_id ops found amount ∙ sym (same_client found.client.id c.id e)

    by : (own : Bool) → is_client id found.client.id ≡ own → P (Pull at) (rules_of.granted found phase beyond) (rules_of.taken_out ops s (effective s at) found phase amount)
    by true own =
        let mine : old ≡ Some found.client = ap (client_named id) g.whole ∙ named_at id g.front found.client g.back (subst AreDistinct g.whole is.distinct) own in
        grants at _ found amount phase beyond (grant_says at found phase beyond true own) g mine (record { named = named_own id found.client.id after ids own s.clients found.client mine; later = in_time at s.last_moment })
    by false other = quiet (Pull at) (rules_of.granted found phase beyond) _ old (grant_says at found phase beyond false other) (λ those. (ap (λ b. if b then drop 1 those else those) other, refl)) (same_record s.config.shares old) (record { named = named_other id found.client.id after ids other s.clients; later = in_time at s.last_moment })

  -- ---- remove, cancel, clean

  remove_is : (client : ClientId) → Goes (Remove client) (rules_of.removed s client)
  remove_is client = bind_goes (Goes (Remove client)) (rules_of.can_remove s client) _ (refused (Remove client)) (λ c e. by c (from_option _ _ _ e) (is_client id client) refl) where
    by : (c : PlainClient T) → client_named client s.clients ≡ Some c → (own : Bool) → is_client id client ≡ own → P (Remove client) (Removed (length c.requests)) (record s { clients = rules_of.change_client client (rules_of.with_requests []) s.clients })
    by c named true own =
        let mine = named_same id client s.clients own ∙ named in
        removes client _ c own (record { came_is = refl; left_is = ap (λ b. if b then length c.requests else 0) own; prior_is = refl }) mine (record { named = named_own id client (rules_of.with_requests []) (λ d _. refl) own s.clients c mine; later = omega arith })
    by c named false other = quiet (Remove client) (Removed (length c.requests)) _ old (record { came_is = refl; left_is = ap (λ b. if b then length c.requests else 0) other; prior_is = refl }) (λ those. (ap (λ b. if b then [] else those) other, refl)) (same_record s.config.shares old) (record { named = named_other id client (rules_of.with_requests []) (λ d _. refl) other s.clients; later = omega arith })

  -- nothing of another client is given back
  none_given : (client : ClientId) (token : Token) (counting : Counting) (count : ℕ) → is_client id client ≡ false → (those : List Numbered) → given_back_of {T = T} id (Cancel client token counting) (Removed count) those ≡ []
  none_given client token All count other those = refl
  none_given client token Others count other those = ap (λ b. if b then filter (waits_with token) those else []) other

  cancel_is : (client : ClientId) (token : Token) (counting : Counting) → Goes (Cancel client token counting) (cancelled ops s client token counting)
  cancel_is client token counting = bind_goes (Goes (Cancel client token counting)) (rules_of.can_remove s client) _ (refused (Cancel client token counting)) (λ c e. by c (from_option _ _ _ e) (is_client id client) refl) where
    by : (c : PlainClient T) → client_named client s.clients ≡ Some c → (own : Bool) → is_client id client ≡ own → P (Cancel client token counting) (Removed (length (filter (has_token token) c.requests))) (record s { clients = rules_of.change_client client (λ c. without_token ops token (charged_to ops s.config.hz counting c) c) s.clients })
    by c named true own =
        let mine = named_same id client s.clients own ∙ named in
        cancels client token counting _ c own mine (record { named = named_own id client (λ c. without_token ops token (charged_to ops s.config.hz counting c) c) (λ d _. refl) own s.clients c mine; later = omega arith })
    by c named false other = quiet (Cancel client token counting) (Removed (length (filter (has_token token) c.requests))) _ old (record { came_is = refl; left_is = refl; prior_is = refl }) (λ those. (ap (λ b. if b then filter (λ n. not (waits_with token n)) those else those) other, none_given client token counting (length (filter (has_token token) c.requests)) other those)) (same_record s.config.shares old) (record { named = named_other id client (λ c. without_token ops token (charged_to ops s.config.hz counting c) c) (λ d _. refl) other s.clients; later = omega arith })

  -- the record after a clean
  abbrev cleaned_record : ℕ → Option (PlainClient T) → Option (PlainClient T)
  cleaned_record t o = option_map (rules_of.with_idle_mark s t) (option_and_then (λ c. if not (rules_of.is_erased s t c) then Some c else None) o)

  like_cleaned : (t : ℕ) (o : Option (PlainClient T)) → AreLike s.config.shares o (cleaned_record t o)
  like_cleaned t None = tt
  like_cleaned t (Some c) = by (rules_of.is_erased s t c) refl where
    empty : (b e : Bool) → is_busy c ≡ b → (not b && e) ≡ true → c.requests ≡ []
    empty true e q h = cc
    empty false e q h = empty_if_not_busy c.requests q

    by : (b : Bool) → rules_of.is_erased s t c ≡ b → AreLike s.config.shares (Some c) (option_map (rules_of.with_idle_mark s t) (if not b then Some c else None))
    by true e = empty (is_busy c) _ refl e
    by false e = record { info = refl; previous_r = refl; previous_l = refl; asked = refl; reservations = refl; limits = refl; slacks = refl; previous_slack = refl; previous_cancelled = refl; previous_p = λ v. refl; weights = λ v. refl }

  clean_is : (at : ℕ) → Goes (Clean at) (rules_of.cleaned s (effective s at))
  clean_is at =
      let t = effective s at in
      let named : client_named id _ ≡ cleaned_record t old = named_mapped id (rules_of.with_idle_mark s t) (λ c. refl) _ ∙ ap (option_map (rules_of.with_idle_mark s t)) (named_kept id (λ c. not (rules_of.is_erased s t c)) s.clients is.distinct) in
      quiet (Clean at) _ _ (cleaned_record t old) (record { came_is = refl; left_is = refl; prior_is = refl }) (λ those. (refl, refl)) (like_cleaned t old) (record { named = named; later = in_time at s.last_moment })

  -- ---- each command

  pub step_becomes : (c : Command) → P c ((step ops s c).1) ((step ops s c).0)
  step_becomes (Register client info at) = register_is client info at
  step_becomes (Update client info at) = update_is client info at
  step_becomes (Add client token params at) = add_is client token params at
  step_becomes (Pull at) = pull_is ops order s (effective s at) is.clients (Goes (Pull at)) (refused (Pull at)) (λ m. unchanged (Pull at) _ at (record { came_is = refl; left_is = refl; prior_is = refl }) (λ those. (refl, refl))) (unchanged (Pull at) _ at (record { came_is = refl; left_is = refl; prior_is = refl }) (λ those. (refl, refl))) (grant_is at)
  step_becomes (Remove client) = remove_is client
  step_becomes (Cancel client token counting) = cancel_is client token counting
  step_becomes (Clean at) = clean_is at
