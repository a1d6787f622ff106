-- A client that asks all the time, whatever is taken back: its P and the virtual time are at most at what it sent since its request h.
use Rattle.std.proofs.Common.{◌≡◌, ℕ, suc, ◌+◌, ◌<◌, ◌≤◌, Bool, true, false, not, ◌||◌, cond, List, [], ◌∷◌, ◌++◌, map, length, drop, Option, Some, None, Ok, refl, sym, ap, ◌∙◌, subst, arith}
use Rattle.std.specs.Prelude.{◌==◌, IfSome, ⊤, filter, slice_get, if◌then◌else◌}
use Rattle.std.specs.Option.{option_map, option_map_or}
use Rattle.std.specs.Cmp.{IsTotalOrder}
use Rattle.std.proofs.lemmas.List.{map-append}
use Rattle.dmc_types.specs.Values.{Params, Setting}
use Rattle.dmc_types.specs.declared.ids.ClientId.{ClientId}
use Rattle.dmc_types.specs.declared.ids.Token.{Token}
use Rattle.dmc_types.specs.declared.config.Counting.{Counting}
use Rattle.dmc_types.specs.declared.config.Counting.TheVariants.{All, Others}
use Rattle.dmc_types.specs.declared.config.PhaseType.{PhaseType}
use Rattle.dmc_types.specs.declared.config.Shares.TheVariants.{Virtual}
use Rattle.dmc_types.specs.declared.command.Command.{Command}
use Rattle.dmc_types.specs.declared.command.Command.TheVariants.{Register, Update, Add, Pull, Remove, Cancel}
use Rattle.dmc_tag.specs.Best.{Found}
use Rattle.dmc_tag.specs.Cancel as cancels
use Rattle.dmc_tag.specs.Cancel.{charged_to, no_befores}
use Rattle.dmc_tag.specs.Order.{AtMost}
use Rattle.dmc_tag.specs.Rules as rules_of
use Rattle.dmc_tag.specs.State.{State, PlainClient, is_client, client_named, effective, requests_of}
use Rattle.dmc_tag.specs.Step.{step}
use Rattle.dmc_tag.specs.Tag.{Fraction, Tagging, IsExact}
use Rattle.dmc_tag.specs.declared.cancel.Befores.{Befores}
use Rattle.dmc_tag.specs.declared.plain.Previous.{Previous}
use Rattle.dmc_tag.specs.declared.plain.QueuedRequest.{QueuedRequest}
use Rattle.dmc_tag.specs.declared.plain.Slack.{Slack}
use Rattle.dmc_tag.specs.declared.reply.Reply.{Reply}
use Rattle.dmc_tag.specs.declared.reply.Reply.TheVariants.{Registered, Updated, Tagged, Removed}
use Rattle.dmc_tag.specs.declared.reply.Tags.{Tags}
use Rattle.dmc_tag.proofs.TagOrder.{at_most_to}
use Rattle.dmc_history_laws.specs.Bounds.{Arrival, Asked, Keeps, Numbered, arrival_of, asked_by, has_token, sum_of}
use Rattle.dmc_history_laws.proofs.Becomes.{AreLike, IsLike, step_becomes}
use Rattle.dmc_history_laws.proofs.Counted.{Next, at_front, none_comes, one_comes}
use Rattle.dmc_history_laws.proofs.Falling.{share, Are, rest_are, falls}
use Rattle.dmc_history_laws.proofs.Given.{AreBelow, AscendsFrom, ascends_filtered, ascends_next, from_lower, sum_next}
use Rattle.dmc_history_laws.proofs.Histories.{IsSound}
use Rattle.dmc_history_laws.proofs.InTurn.{AreInTurn, IsGrant}
use Rattle.dmc_history_laws.proofs.Pace.{under_as}
use Rattle.dmc_history_laws.proofs.Scale.{NotBelow0}
use Rattle.dmc_history_laws.proofs.Spaced.{IsUpTo, next_within}
use Rattle.dmc_history_laws.proofs.TurnKept.{were_in_turn}
use Rattle.dmc_history_laws.proofs.TurnSteps.{found_turn, paid_by}
use Rattle.dmc_history_laws.proofs.VirtualTime.{steps_by_weight}
use Rattle.dmc_history_laws.proofs.Waiting.{asked_of}

-- ---- the first number grows

module _ {T : Type 0} (ops : Tagging T) (order : IsTotalOrder ops.compare) (id : ClientId) (s : State T) (turn : AreInTurn ops order s) where
  abbrev Above : ℕ → ℕ → List Numbered → List Numbered → Type 0
  Above low arrived those back = AscendsFrom low those

  abbrev Grows : Command → Reply T → Type 0
  Grows c reply = (low arrived : ℕ) (those back : List Numbered) → low ≤ arrived → AreBelow (suc arrived) those → AscendsFrom low those → Next id (Above low) c reply arrived those back

  is_own : (b : Bool) → ◌≡◌ {A = ℕ} (if b then 1 else 0) 1 → b ≡ true
  is_own true e = refl
  is_own false e = cc

  rest_above : (low : ℕ) (ns : List Numbered) → AscendsFrom low ns → AscendsFrom low (drop 1 ns)
  rest_above low [] h = h
  rest_above low (n ∷ ns) h = from_lower low n.number ns (omega (arith, h.0)) h.1

  cancel_grows : (client : ClientId) (token : Token) (counting : Counting) (count : ℕ) → is_client id client ≡ true → (low arrived : ℕ) (those back : List Numbered) → AscendsFrom low those → Next {T = T} id (Above low) (Cancel client token counting) (Removed count) arrived those back
  cancel_grows client token All count own low arrived those back h = none_comes {T = T} id (Above low) (Cancel client token All) (Removed count) arrived those back (filter (λ n. not (has_token token n)) those) [] refl (ap (λ b. if b then filter (λ n. not (has_token token n)) those else those) own) refl (ascends_filtered (λ n. not (has_token token n)) low those h)
  cancel_grows client token Others count own low arrived those back h = none_comes {T = T} id (Above low) (Cancel client token Others) (Removed count) arrived those back (filter (λ n. not (has_token token n)) those) (filter (has_token token) those) refl (ap (λ b. if b then filter (λ n. not (has_token token n)) those else those) own) (ap (λ b. if b then filter (has_token token) those else []) own) (ascends_filtered (λ n. not (has_token token n)) low those h)

  pub grows : (c : Command) → Grows c ((step ops s c).1)
  grows = step_becomes ops order id s turn (λ c reply new. Grows c reply)
      (λ c reply new o says stay like next low arrived those back le below h. none_comes id (Above low) c reply arrived those back those [] says.came_is (stay those).0 (stay those).1 h)
      (λ client info at new own none next low arrived those back le below h. none_comes {T = T} id (Above low) (Register client info at) Registered arrived those back those [] refl refl refl h)
      (λ client info at new c own named next low arrived those back le below h. none_comes {T = T} id (Above low) (Update client info at) Updated arrived those back those [] refl refl refl h)
      (λ client token params at new c d tags slack says named like assigned next last slack_is low arrived those back le below h. one_comes {T = T} id (Above low) (Add client token params at) (Tagged tags) arrived those back (record { token = token; params = params }) says.came_is refl refl (ascends_next low those (record { number = suc arrived; arrival = record { token = token; params = params } }) (omega (arith, le)) h below))
      (λ at new found amount phase beyond says g named next low arrived those back le below h. none_comes id (Above low) (Pull at) (rules_of.granted found phase beyond) arrived those back (drop 1 those) [] refl (ap (λ b. if b then drop 1 those else those) (is_own _ says.left_is)) refl (rest_above low those h))
      (λ client new c own says named next low arrived those back le below h. none_comes {T = T} id (Above low) (Remove client) (Removed (length c.requests)) arrived those back [] [] refl (ap (λ b. if b then [] else those) own) refl tt)
      (λ client token counting new c own named next low arrived those back le below h. cancel_grows client token counting (length (filter (cancels.has_token token) c.requests)) own low arrived those back h)

-- ---- tags that are at most at a level of their number

module _ {T : Type 0} (Up : ℕ → T → Type 0) where
  abbrev pub AreUp : List T → List Numbered → Type 0
  AreUp [] [] = ⊤
  AreUp [] (n ∷ ns) = ⊥
  AreUp (t ∷ ts) [] = ⊥
  AreUp (t ∷ ts) (n ∷ ns) = Up n.number t × AreUp ts ns

  pub up_rest : (t : T) (ts : List T) (ns : List Numbered) → AreUp (t ∷ ts) ns → AreUp ts (drop 1 ns)
  up_rest t ts [] h = absurd h
  up_rest t ts (n ∷ ns) h = h.1

  pub up_next : (t : T) (n : Numbered) (ts : List T) (ns : List Numbered) → Up n.number t → AreUp ts ns → AreUp (ts ++ t ∷ []) (ns ++ n ∷ [])
  up_next t n [] [] h k = (h, tt)
  up_next t n [] (m ∷ ns) h k = absurd k
  up_next t n (u ∷ ts) [] h k = absurd k
  up_next t n (u ∷ ts) (m ∷ ns) h k = (k.0, up_next t n ts ns h k.1)

  pub up_first : (ts : List T) (ns : List Numbered) (t : T) (k : ℕ) → slice_get ts 0 ≡ Some t → option_map (λ n. n.number) (slice_get ns 0) ≡ Some k → AreUp ts ns → Up k t
  up_first [] ns t k e f h = cc
  up_first (u ∷ ts) [] t k e f h = absurd h
  up_first (u ∷ ts) (n ∷ ns) t k e f h =
      let same : u ≡ t = cc in
      let number : n.number ≡ k = cc in
      subst (λ z. Up z t) number (subst (Up n.number) same h.0)

  -- ---- a cancel: no tag rises

  module _ (ops : Tagging T) (fraction : T → Fraction) (is_value : Fraction → Type 0) (exact : IsExact ops fraction is_value) (order : IsTotalOrder ops.compare) (lower : (k : ℕ) (t u : T) → AtMost ops t u → Up k u → Up k t) (token : Token) (charged : ℕ → Slack T) (paid : (cost : ℕ) → NotBelow0 ops fraction is_value exact (charged cost).p) where
    abbrev shares : List (QueuedRequest T) → List T
    shares rs = map (λ r. r.tags.p) rs

    abbrev Was : Befores T → List (QueuedRequest T) → Previous T → Type 0
    Was befores rs previous = Are ops fraction is_value exact order share token charged paid befores rs previous

    abbrev left_of : List Numbered → List Numbered
    left_of ns = filter (λ n. not (has_token token n)) ns

    abbrev Stays : Befores T → List (QueuedRequest T) → List Numbered → Bool → Previous T → ℕ → Type 0
    Stays befores rs ns cancelled previous k = AreUp (shares (cancels.staying ops token charged befores rs)) (left_of ns) × Up k (cancels.fallen_previous ops (cancels.befores_after ops token charged befores rs) cancelled previous).p

    pub up_stay : (befores : Befores T) (rs : List (QueuedRequest T)) (ns : List Numbered) (cancelled : Bool) (previous : Previous T) (k : ℕ) → Was befores rs previous → map asked_by rs ≡ map asked_of ns → AreUp (shares rs) ns → Up k previous.p → Stays befores rs ns cancelled previous k
    up_stay befores [] [] cancelled previous k are e h last = (tt, lower k _ previous.p (falls ops fraction is_value exact order befores.p (cancels.level previous.p previous.slack.p) are.fallen are.last are.left).under last)
    up_stay befores [] (n ∷ ns) cancelled previous k are e h last = cc
    up_stay befores (r ∷ rs) [] cancelled previous k are e h last = cc
    up_stay befores (r ∷ rs) (n ∷ ns) cancelled previous k are e h last =
        let first : asked_by r ≡ asked_of n = cc in
        let rest : map asked_by rs ≡ map asked_of ns = cc in
        let token_is : has_token token n ≡ cancels.has_token token r = sym (ap (λ (a : Asked). a.token.0 == token.0) first) in
        let fallen = (falls ops fraction is_value exact order befores.p (cancels.level r.tags.p r.slack.p) are.fallen are.follow.0 are.slacks.0).under in
        by (cancels.has_token token r) (has_token token n) token_is (lower n.number _ r.tags.p fallen h.0)
        (up_stay (cancels.befores_next ops (cancels.has_token token r) (charged r.cost) befores r) rs ns cancelled previous k (rest_are ops fraction is_value exact order share token charged paid befores r rs previous (cancels.has_token token r) are) rest h.1 last)
      where
        by : (b d : Bool) → d ≡ b → Up n.number (cancels.fallen_request ops befores r).tags.p → Stays (cancels.befores_next ops b (charged r.cost) befores r) rs ns cancelled previous k
            → AreUp (shares (if b then cancels.staying ops token charged (cancels.befores_next ops b (charged r.cost) befores r) rs else cancels.fallen_request ops befores r ∷ cancels.staying ops token charged (cancels.befores_next ops b (charged r.cost) befores r) rs)) (cond (not d) (n ∷ left_of ns) (left_of ns)) × Up k (cancels.fallen_previous ops (cancels.befores_after ops token charged (cancels.befores_next ops b (charged r.cost) befores r) rs) cancelled previous).p
        by true true e up more = more
        by true false e up more = cc
        by false true e up more = cc
        by false false e up more = ((up, more.0), more.1)

-- ---- each command

module _ {T : Type 0} (ops : Tagging T) (fraction : T → Fraction) (is_value : Fraction → Type 0) (exact : IsExact ops fraction is_value) (order : IsTotalOrder ops.compare) (config : Setting) (some : 0 < config.hz) (virtual : config.shares ≡ Virtual) (id : ClientId) (w i : ℕ) (all : List Arrival) (base : Fraction) where
  -- what was sent from h up to a number
  abbrev pub sent_to : ℕ → ℕ
  sent_to k = sum_of (λ p. p.delta) i k all

  abbrev pub Up : ℕ → T → Type 0
  Up k t = IsUpTo config.hz w base (sent_to k) (fraction t)

  pub lower_up : (k : ℕ) (t u : T) → AtMost ops t u → Up k u → Up k t
  lower_up k t u le h = under_as (fraction t) (fraction u) _ _ (exact.denom u) (at_most_to ops fraction is_value exact t u le) h

  pub record IsUnderClient (arrived : ℕ) (those : List Numbered) (c : PlainClient T) : Type 0 where
    pub weight : c.info.weight ≡ w
    pub queued : AreUp Up (map (λ r. r.tags.p) c.requests) those
    pub last : Up arrived c.previous.p

  abbrev pub IsUnderIn : State T → ℕ → List Numbered → List Numbered → Type 0
  IsUnderIn s arrived those back = IfSome (client_named id s.clients) (IsUnderClient arrived those)

  same_shares : (amount : Option T) (c : PlainClient T) → map (λ r. r.tags.p) (rules_of.reduced_by ops amount c).requests ≡ map (λ r. r.tags.p) c.requests
  same_shares None c = refl
  same_shares (Some amount) c = same c.requests where
    same : (xs : List (QueuedRequest T)) → map (λ r. r.tags.p) (map (rules_of.less_reservation ops amount) xs) ≡ map (λ r. r.tags.p) xs
    same [] = refl
    same (x ∷ xs) = ap (λ ts. x.tags.p ∷ ts) (same xs)

  reduced_client : (amount : Option T) (arrived : ℕ) (those : List Numbered) (c : PlainClient T) → IsUnderClient arrived those c → IsUnderClient arrived those (rules_of.reduced_by ops amount c)
  reduced_client None arrived those c h = h
  reduced_client (Some amount) arrived those c h = record { weight = h.weight; queued = subst (λ ts. AreUp Up ts those) (sym (same_shares (Some amount) c)) h.queued; last = h.last }

  module _ (s : State T) (sound : IsSound ops fraction is_value exact order config some s) (arrived : ℕ) (those back : List Numbered) (asked : map asked_by (requests_of id s.clients) ≡ map asked_of those) (since : i ≤ arrived) (floor_up : (t : T) → Up (suc arrived) (rules_of.share_floor ops s t)) (is : IsUnderIn s arrived those back) where
    shares_are : s.config.shares ≡ Virtual
    shares_are = ap (λ k. k.shares) sound.same ∙ virtual

    hz_is : s.config.hz ≡ config.hz
    hz_is = ap (λ k. k.hz) sound.same

    own_of : (c : PlainClient T) → client_named id s.clients ≡ Some c → IsUnderClient arrived those c
    own_of c named = subst (λ o. IfSome o (IsUnderClient arrived those)) named is

    like_client : (c d : PlainClient T) → IsLike s.config.shares c d → IsUnderClient arrived those c → IsUnderClient arrived those d
    like_client c d like h = record { weight = ap (λ r. r.weight) like.info ∙ h.weight; queued = subst (λ ts. AreUp Up ts those) (sym (like.weights shares_are)) h.queued; last = subst (Up arrived) (sym (like.previous_p shares_are)) h.last }

    like_record : (o p : Option (PlainClient T)) → AreLike s.config.shares o p → IfSome o (IsUnderClient arrived those) → IfSome p (IsUnderClient arrived those)
    like_record None None like h = tt
    like_record None (Some d) like h = absurd like
    like_record (Some c) None like h = tt
    like_record (Some c) (Some d) like h = like_client c d like h

    arrived_client : (token : Token) (params : Params) (t : ℕ) (c d : PlainClient T) (tags : Tags T) (slack : Slack T) → client_named id s.clients ≡ Some c → IsLike s.config.shares c d → rules_of.assigned ops s.config.hz c params (ops.of_moment t) (rules_of.share_floor ops s (ops.of_moment t)) ≡ Ok tags
        → (rest : List Arrival) → drop arrived all ≡ record { token = token; params = params } ∷ rest
        → IsUnderClient (suc arrived) (those ++ record { number = suc arrived; arrival = record { token = token; params = params } } ∷ []) (rules_of.after_arrival (record { token = token; cost = params.cost; tags = tags; slack = slack }) t d)
    arrived_client token params t c d tags slack named like assigned rest next =
        let a : Arrival = record { token = token; params = params } in
        let n : Numbered = record { number = suc arrived; arrival = a } in
        let mine = own_of c named in
        let as_before = like_client c d like mine in
        let floor = rules_of.share_floor ops s (ops.of_moment t) in
        let by = steps_by_weight ops s.config.hz c params (ops.of_moment t) floor tags assigned in
        let spaced : ops.spacing config.hz w ≡ Some by.spacing = ap (λ h. ops.spacing h w) (sym hz_is) ∙ ap (ops.spacing s.config.hz) (sym mine.weight) ∙ by.spaced in
        let sum_is : sent_to (suc arrived) ≡ sent_to arrived + params.delta = sum_next (λ p. p.delta) i arrived all a since (at_front arrived all a rest next) in
        let floor_at = subst (λ m. IsUpTo config.hz w base m (fraction floor)) sum_is (floor_up (ops.of_moment t)) in
        let up : Up (suc arrived) tags.p = subst (λ m. IsUpTo config.hz w base m (fraction tags.p)) (sym sum_is) (next_within config.hz w base ops fraction is_value exact order c.previous.p by.spacing tags.p floor (sent_to arrived) params.delta spaced by.next floor_at mine.last) in
        record {
          weight = as_before.weight;
          queued = subst (λ ts. AreUp Up ts (those ++ n ∷ [])) (sym (map-append (λ (r : QueuedRequest T). r.tags.p) d.requests _)) (up_next Up tags.p n (map (λ (r : QueuedRequest T). r.tags.p) d.requests) those up as_before.queued);
          last = up;
        }

    granted_client : (t : ℕ) (found : Found T) (amount : Option T) (phase : PhaseType) (beyond : Bool) → IsGrant ops s t found amount phase beyond → client_named id s.clients ≡ Some found.client → IsUnderClient arrived (drop 1 those) (rules_of.after_grant ops found amount)
    granted_client t found amount phase beyond g named =
        let mine = own_of found.client named in
        reduced_client amount arrived (drop 1 those) (rules_of.with_requests found.others found.client) (record { weight = mine.weight; queued = up_rest Up found.request.tags.p (map (λ (r : QueuedRequest T). r.tags.p) found.others) those (subst (λ rs. AreUp Up (map (λ (r : QueuedRequest T). r.tags.p) rs) those) g.first mine.queued); last = mine.last })

    abbrev others : Token → List Numbered
    others token = filter (λ n. not (has_token token n)) those

    cancelled_client : (token : Token) (counting : Counting) (c : PlainClient T) → client_named id s.clients ≡ Some c → IsUnderClient arrived (others token) (cancels.without_token ops token (charged_to ops s.config.hz counting c) c)
    cancelled_client token counting c named =
        let mine = own_of c named in
        let turn = found_turn ops fraction is_value exact order s.clients id c named sound.turn.clients in
        let charged = charged_to ops s.config.hz counting c in
        let paid = paid_by ops fraction is_value exact order s.config.hz counting c (subst (λ n. 0 < n) (sym hz_is) some) in
        let asked_as : map asked_by c.requests ≡ map asked_of those = sym (ap (λ o. map asked_by (option_map_or (λ (d : PlainClient T). d.requests) o [])) named) ∙ asked in
        let stay = up_stay Up ops fraction is_value exact order lower_up token charged (λ cost. paid cost share) no_befores c.requests those (c.previous.cancelled || cancels.last_has_token token c.requests) c.previous arrived (were_in_turn ops order fraction is_value exact c token charged paid turn share) asked_as mine.queued mine.last in
        record { weight = mine.weight; queued = stay.0; last = stay.1 }

    -- ---- each command

    abbrev Goes : Command → Reply T → State T → Type 0
    Goes c reply new = Keeps id c reply → (rest : List Arrival) → drop arrived all ≡ arrival_of id c reply ++ rest → Next id (IsUnderIn new) c reply arrived those back

    not_both : {X : Type 0} {b : Bool} → b ≡ false → b ≡ true → X
    not_both p q = cc

    own_grant : (b : Bool) → ◌≡◌ {A = ℕ} (if b then 1 else 0) 1 → b ≡ true
    own_grant true e = refl
    own_grant false e = cc

    found_in : (new : State T) (o : Option (PlainClient T)) (arrived : ℕ) (those back : List Numbered) → client_named id new.clients ≡ o → IfSome o (IsUnderClient arrived those) → IsUnderIn new arrived those back
    found_in new o arrived those back e h = subst (λ p. IfSome p (IsUnderClient arrived those)) (sym e) h

    cancel_goes : (client : ClientId) (token : Token) (counting : Counting) (count : ℕ) (new : State T) → is_client id client ≡ true → IfSome (client_named id new.clients) (IsUnderClient arrived (others token)) → Next {T = T} id (IsUnderIn new) (Cancel client token counting) (Removed count) arrived those back
    cancel_goes client token All count new own h = none_comes {T = T} id (IsUnderIn new) (Cancel client token All) (Removed count) arrived those back (others token) [] refl (ap (λ b. if b then others token else those) own) refl h
    cancel_goes client token Others count new own h = none_comes {T = T} id (IsUnderIn new) (Cancel client token Others) (Removed count) arrived those back (others token) (filter (has_token token) those) refl (ap (λ b. if b then others token else those) own) (ap (λ b. if b then filter (has_token token) those else []) own) h

    pub step_under : (c : Command) → Goes c ((step ops s c).1) ((step ops s c).0)
    step_under = step_becomes ops order id s sound.turn Goes
        (λ c reply new o says stay like next keeps rest e. none_comes id (IsUnderIn new) c reply arrived those back those [] says.came_is (stay those).0 (stay those).1 (found_in new o arrived those (back ++ []) next.named (like_record (client_named id s.clients) o like is)))
        (λ client info at new own none next keeps rest e. not_both keeps own)
        (λ client info at new c own named next keeps rest e. not_both keeps own)
        (λ client token params at new c d tags slack says named like assigned next last slack_is keeps rest e.
        let a : Arrival = record { token = token; params = params } in
        one_comes {T = T} id (IsUnderIn new) (Add client token params at) (Tagged tags) arrived those back a says.came_is refl refl (found_in new _ (suc arrived) (those ++ record { number = suc arrived; arrival = a } ∷ []) back next.named (arrived_client token params (effective s at) c d tags slack named like assigned rest (e ∙ ap (λ came. came ++ rest) says.came_is))))
        (λ at new found amount phase beyond says g named next keeps rest e. none_comes id (IsUnderIn new) (Pull at) (rules_of.granted found phase beyond) arrived those back (drop 1 those) [] refl (ap (λ b. if b then drop 1 those else those) (own_grant _ says.left_is)) refl (found_in new _ arrived (drop 1 those) (back ++ []) next.named (granted_client (effective s at) found amount phase beyond g named)))
        (λ client new c own says named next keeps rest e. none_comes {T = T} id (IsUnderIn new) (Remove client) (Removed (length c.requests)) arrived those back [] [] refl (ap (λ b. if b then [] else those) own) refl (found_in new _ arrived [] (back ++ []) next.named (record { weight = (own_of c named).weight; queued = tt; last = (own_of c named).last })))
        (λ client token counting new c own named next keeps rest e. cancel_goes client token counting (length (filter (cancels.has_token token) c.requests)) new own (subst (λ o. IfSome o (IsUnderClient arrived (others token))) (sym next.named) (cancelled_client token counting c named)))
