-- The bounds whatever is taken back: from right after an add, event by event, to a grant.
use Rattle.std.proofs.Common.{◌≡◌, ℕ, suc, ◌+◌, ◌*◌, ◌-◌, ◌<◌, ◌≤◌, Bool, true, false, List, [], ◌∷◌, ◌++◌, map, length, drop, Option, Some, None, Ok, refl, sym, ap, ◌∙◌, subst, arith, append_assoc, length-append}
use Rattle.std.specs.Prelude.{pos, ◌-ℤ◌, ◌≤ℤ◌, IfSome, nat_lt, slice_get, if◌then◌else◌}
use Rattle.std.specs.Option.{option_and_then, option_map_or}
use Rattle.std.specs.List.{AllByRecursion}
use Rattle.std.specs.Cmp.{IsTotalOrder}
use Rattle.std.proofs.lemmas.Bool.{ltb-true, ltb-false}
use Rattle.std.proofs.lemmas.Int.{ints}
use Rattle.std.proofs.lemmas.List.{append-nil, length-map, map-append}
use Rattle.dmc_types.specs.Values.{Params, Setting}
use Rattle.dmc_types.specs.declared.ids.ClientId.{ClientId}
use Rattle.dmc_types.specs.declared.ids.Token.{Token}
use Rattle.dmc_types.specs.declared.command.Command.{Command}
use Rattle.dmc_types.specs.declared.command.Command.TheVariants.{Register, Update, Add, Pull, Remove, Cancel, Clean}
use Rattle.dmc_tag.specs.Best.{is_due}
use Rattle.dmc_tag.specs.Order.{AtMost}
use Rattle.dmc_tag.specs.Replay.{replays_from}
use Rattle.dmc_tag.specs.Rules as rules_of
use Rattle.dmc_tag.specs.State.{State, PlainClient, is_client, client_named, effective, requests_of}
use Rattle.dmc_tag.specs.Step.{answer_of, step}
use Rattle.dmc_tag.specs.Tag.{Fraction, Tagging, IsExact}
use Rattle.dmc_tag.specs.declared.event.Event.{Event}
use Rattle.dmc_tag.specs.declared.plain.QueuedRequest.{QueuedRequest}
use Rattle.dmc_tag.specs.declared.plain.Slack.{Slack}
use Rattle.dmc_tag.specs.declared.reply.Reply.{Reply}
use Rattle.dmc_tag.specs.declared.reply.Reply.TheVariants.{Registered, Updated, Tagged, Granted, Later, Nothing, Removed, Cleaned, Refused}
use Rattle.dmc_tag.specs.declared.reply.Tags.{Tags}
use Rattle.dmc_tag.proofs.Ids.{itself_id}
use Rattle.dmc_lemmas.proofs.Lists.{all_as, all_mapped}
use Rattle.dmc_history_laws.specs.Bounds.{AllKeep, Arrival, Arrives, Asked, Numbered, arrival_of, arrivals, asked_by, cost_between, given_back_from, given_back_of, numbered_from, priorities, prioritized, still_waiting, sum_of, waiting_from}
use Rattle.dmc_history_laws.proofs.Becomes.{step_becomes}
use Rattle.dmc_history_laws.proofs.Behind.{kind_of, previous_is, tag_is}
use Rattle.dmc_history_laws.proofs.Chain.{earlier, itself, behind_under, level_of}
use Rattle.dmc_history_laws.proofs.Counted.{Counts, IsCounted, Next, drop_on, behind_all, one_comes, step_counts}
use Rattle.dmc_history_laws.proofs.Falling.{Kind, slack_in}
use Rattle.dmc_history_laws.proofs.Given.{between_early, mark_before, mark_itself, mark_later, mark_of, marks_of, sum_none, zero_more}
use Rattle.dmc_history_laws.proofs.Histories.{IsSound, after_from, sound_step}
use Rattle.dmc_history_laws.proofs.InTurn.{IsDueIn, IsInTurn, pull_is}
use Rattle.dmc_history_laws.proofs.Marked.{Comes, Kept, first_at, keeps_opened, start}
use Rattle.dmc_history_laws.proofs.Named.{named_at}
use Rattle.dmc_history_laws.proofs.Side.{phase_of}
use Rattle.dmc_history_laws.proofs.Pace.{due_within, moment_from}
use Rattle.dmc_history_laws.proofs.Pairs.{AreDistinct}
use Rattle.dmc_history_laws.proofs.Past.{IsBy, by_above}
use Rattle.dmc_history_laws.proofs.Side.{Side, limits, reservations, count_in, level_opens, previous_of, rate_in, steps_by, taken_in, tag_in as side_tag}
use Rattle.dmc_history_laws.proofs.Since.{IsPacedClient, IsPacedIn, step_paces}
use Rattle.dmc_history_laws.proofs.Slacks.{tag_from}
use Rattle.dmc_history_laws.proofs.TurnSteps.{found_turn}
use Rattle.dmc_history_laws.proofs.Waiting.{asked_of, step_waits}

-- ---- ticks

past : (q from t n w : ℕ) → from ≤ t → (pos (q * from + n) -ℤ pos w) ≤ℤ pos (q * t) → n ≤ q * (t - from) + w
past q from t n w since h = parted (t - from) (omega arith) (naturals _ _ _ h) where
  naturals : (a b c : ℕ) → (pos a -ℤ pos b) ≤ℤ pos c → a ≤ c + b
  naturals a b c h = omega (arith, ints)

  parted : (k : ℕ) → t ≡ from + k → q * from + n ≤ q * t + w → n ≤ q * k + w
  parted k e h = let more : q * from + n ≤ q * (from + k) + w = subst (λ u. q * from + n ≤ q * u + w) e h in omega arith

module _ {T : Type 0} (ops : Tagging T) (fraction : T → Fraction) (is_value : Fraction → Type 0) (exact : IsExact ops fraction is_value) (order : IsTotalOrder ops.compare) (config : Setting) (some : 0 < config.hz) (id : ClientId) (side : Side) (q : ℕ) (all : List Arrival) where
  abbrev kind : Kind
  kind = kind_of side

  abbrev part : Params → ℕ
  part = count_in side

  abbrev Sound : State T → Type 0
  Sound s = IsSound ops fraction is_value exact order config some s

  -- since a_i, which came at the moment `from`
  abbrev Paced : (from i taken : ℕ) → State T → ℕ → List Numbered → List Numbered → Type 0
  Paced from i taken s arrived those back = IsPacedIn ops fraction is_value exact order id side config.hz q from i all taken s arrived those back

  abbrev PacedClient : (from i taken arrived : ℕ) → List Numbered → List Numbered → PlainClient T → Type 0
  PacedClient from i taken arrived those back c = IsPacedClient ops fraction is_value exact order id side config.hz q from i all taken arrived those back c

  -- ---- right after an add

  module _ (token : Token) (params : Params) (t : ℕ) (floor : T) (c d : PlainClient T) (tags : Tags T) (slack : Slack T) (rated : rate_in side c.info ≡ Some q) (assigned : rules_of.assigned ops config.hz c params (ops.of_moment t) floor ≡ Ok tags) (slack_is : rules_of.slack_of ops c.previous tags (ops.of_moment t) floor ≡ slack) (same_rates : d.info ≡ c.info) (arrived : ℕ) (those back : List Numbered) (counted : IsCounted all arrived those back) (asked : map asked_by d.requests ≡ map asked_of those) where
    abbrev request : QueuedRequest T
    request = record { token = token; cost = params.cost; tags = tags; slack = slack }

    abbrev after_it : PlainClient T
    after_it = rules_of.after_arrival request t d

    abbrev i : ℕ
    i = suc arrived

    abbrev newest : Numbered
    newest = record { number = suc arrived; arrival = record { token = token; params = params } }

    slack_under : (tag : T) → side_tag side tags ≡ Some tag → AtMost ops (slack_in kind slack) (rules_of.above ops tag (ops.of_moment t))
    slack_under tag e = subst (λ z. AtMost ops (slack_in kind z) (rules_of.above ops tag (ops.of_moment t))) slack_is (at side e) where
      of_r : (o : Option T) → o ≡ Some tag → AtMost ops (option_map_or (λ r. rules_of.slack_behind ops c.previous.cancelled c.previous.slack.r (rules_of.above ops r (ops.of_moment t))) o c.previous.slack.r) (rules_of.above ops tag (ops.of_moment t))
      of_r o e = subst (λ p. AtMost ops (option_map_or (λ r. rules_of.slack_behind ops c.previous.cancelled c.previous.slack.r (rules_of.above ops r (ops.of_moment t))) p c.previous.slack.r) (rules_of.above ops tag (ops.of_moment t))) (sym e) (behind_under ops fraction is_value exact order q c.previous.cancelled c.previous.slack.r (rules_of.above ops tag (ops.of_moment t)))

      at : (side : Side) → side_tag side tags ≡ Some tag → AtMost ops (slack_in (kind_of side) (rules_of.slack_of ops c.previous tags (ops.of_moment t) floor)) (rules_of.above ops tag (ops.of_moment t))
      at limits e =
          let same : tags.l ≡ tag = cc in
          subst (λ z. AtMost ops (rules_of.slack_behind ops c.previous.cancelled c.previous.slack.l (rules_of.above ops tags.l (ops.of_moment t))) (rules_of.above ops z (ops.of_moment t))) same (behind_under ops fraction is_value exact order q c.previous.cancelled c.previous.slack.l (rules_of.above ops tags.l (ops.of_moment t)))
      at reservations e = of_r tags.r e

    opened_client : PacedClient t i 0 (suc arrived) (those ++ newest ∷ []) back after_it
    opened_client =
        let by = steps_by ops config.hz q c params (ops.of_moment t) floor tags assigned side rated in
        let comes : Comes ops fraction is_value exact order q kind config.hz t request after_it.previous by.tag = record {
          tag = tag_is side request ∙ by.tag_is;
          last = previous_is side after_it.previous ∙ previous_of side tags slack d.previous by.tag by.tag_is;
          slack = refl;
          kept = refl;
        } in
        let ms = marks_of part i all (λ k. cost_between i k back) those in
        let at = by_above ops fraction is_value exact q by.tag (ops.of_moment t) (slack_in kind slack) (pos (q * t)) (moment_from ops fraction is_value exact t t q (omega arith)) (tag_from ops fraction is_value exact order _ by.spacing (ops.of_moment t) by.tag _ by.next) (slack_under by.tag by.tag_is) in
        let begun = subst (IsBy ops fraction is_value exact q by.tag (slack_in kind slack)) (sym (level_opens fraction config.hz q t)) at in
        let size : length d.requests ≡ length ms = sym (length-map d.requests asked_by) ∙ ap length asked ∙ length-map those asked_of ∙ sym (length-map those (mark_of part i all (λ k. cost_between i k back))) in
        let early : AllByRecursion (λ m. m ≡ earlier) ms = all_mapped (λ n. n.number < suc arrived) (λ m. m ≡ earlier) (mark_of part i all (λ k. cost_between i k back)) (λ n h. mark_before part i all (λ k. cost_between i k back) n h) those counted.below in
        let kept = keeps_opened ops fraction is_value exact order q kind config.hz t request after_it.previous by.tag d.requests ms comes begun size early in
        let marks_are : marks_of part i all (λ k. cost_between i k back) (those ++ newest ∷ []) ≡ ms ++ itself ∷ [] = map-append _ those (newest ∷ []) ∙ ap (λ m. ms ++ m ∷ []) (mark_itself part i all (λ k. cost_between i k back) newest refl) in
        let none_sent : sum_of part i i all ≡ 0 = sum_none part i i all (omega arith) in
        let none_back : cost_between i (suc i) back ≡ 0 = between_early i (suc i) back (all_as (λ n. n.number < suc arrived) (λ n. n.number < suc i) (λ n h. omega (arith, h)) back counted.given) in
        record {
          rated = ap (rate_in side) same_rates ∙ rated;
          some = true;
          keeps = subst (λ n. Kept ops fraction is_value exact order q kind config.hz t 0 None after_it.requests (marks_of part i all (λ k. cost_between i k back) (those ++ newest ∷ [])) after_it.previous (sum_of part i i all) n) (sym none_back)
              (subst (λ n. Kept ops fraction is_value exact order q kind config.hz t 0 None after_it.requests (marks_of part i all (λ k. cost_between i k back) (those ++ newest ∷ [])) after_it.previous n 0) (sym none_sent)
              (subst (λ m. Kept ops fraction is_value exact order q kind config.hz t 0 None after_it.requests m after_it.previous 0 0) (sym marks_are) kept));
        }

  -- the client's rate
  abbrev pub rate_of : State T → Option ℕ
  rate_of s = option_and_then (λ c. rate_in side c.info) (client_named id s.clients)

  not_empty : {X : Type 0} {x : Arrival} → x ∷ [] ≡ [] → X
  not_empty e = cc

  -- no add of the client is accepted
  pub none_arrives : {X : Type 0} (c : Command) (reply : Reply T) → arrival_of id c reply ≡ [] → Arrives id c reply → X
  none_arrives (Register client info at) reply e a = absurd a
  none_arrives (Update client info at) reply e a = absurd a
  none_arrives (Add client token params at) Registered e a = absurd a
  none_arrives (Add client token params at) Updated e a = absurd a
  none_arrives (Add client token params at) (Tagged tags) e a = not_empty (sym (ap (λ b. if b then record { token = token; params = params } ∷ [] else []) a) ∙ e)
  none_arrives (Add client token params at) (Granted other taken phase beyond cost) e a = absurd a
  none_arrives (Add client token params at) (Later m) e a = absurd a
  none_arrives (Add client token params at) Nothing e a = absurd a
  none_arrives (Add client token params at) (Removed count) e a = absurd a
  none_arrives (Add client token params at) (Cleaned idled erased) e a = absurd a
  none_arrives (Add client token params at) (Refused refusal) e a = absurd a
  none_arrives (Pull at) reply e a = absurd a
  none_arrives (Remove client) reply e a = absurd a
  none_arrives (Cancel client token counting) reply e a = absurd a
  none_arrives (Clean at) reply e a = absurd a

  module _ (s : State T) (sound : Sound s) (arrived : ℕ) (those back : List Numbered) (counted : IsCounted all arrived those back) (asked : map asked_by (requests_of id s.clients) ≡ map asked_of those) where
    -- of it and of none before it something is counted
    abbrev Opened : State T → ℕ → List Numbered → List Numbered → Type 0
    Opened new i those back = Paced new.last_moment i 0 new i those back

    abbrev Opens : Command → Reply T → State T → Type 0
    Opens c reply new = Arrives id c reply → rate_of new ≡ Some q → Next id (Opened new) c reply arrived those back

    pub opens : (c : Command) → Opens c ((step ops s c).1) ((step ops s c).0)
    opens = step_becomes ops order id s sound.turn Opens
        (λ c reply new o says stay like next arrives has. none_arrives c reply says.came_is arrives)
        (λ client info at new own none next arrives has. absurd arrives)
        (λ client info at new c own named next arrives has. absurd arrives)
        (λ client token params at new c d tags slack says named like given next last slack_is arrives has.
        let t = effective s at in
        let floor = rules_of.share_floor ops s (ops.of_moment t) in
        let a : Arrival = record { token = token; params = params } in
        let rated : rate_in side c.info ≡ Some q = ap (rate_in side) (sym like.info) ∙ sym (ap (option_and_then (λ (e : PlainClient T). rate_in side e.info)) next.named) ∙ has in
        let queued : map asked_by d.requests ≡ map asked_of those = like.asked ∙ sym (ap (λ o. map asked_by (option_map_or (λ (e : PlainClient T). e.requests) o [])) named) ∙ asked in
        let own = opened_client token params t floor c d tags slack rated (subst (λ k. rules_of.assigned ops k.hz c params (ops.of_moment t) floor ≡ Ok tags) sound.same given) slack_is like.info arrived those back counted queued in
        one_comes {T = T} id (Opened new) (Add client token params at) (Tagged tags) arrived those back a says.came_is refl refl
        (subst (λ from. Paced from (suc arrived) 0 new (suc arrived) (those ++ record { number = suc arrived; arrival = a } ∷ []) back) (sym last)
        (subst (λ o. IfSome o (PacedClient t (suc arrived) 0 (suc arrived) (those ++ record { number = suc arrived; arrival = a } ∷ []) back)) (sym next.named) own)))
        (λ at new found amount phase beyond says g named next arrives has. absurd arrives)
        (λ client new c own says named next arrives has. absurd arrives)
        (λ client token counting new c own named next arrives has. absurd arrives)

  -- ---- event by event

  -- no moment is earlier
  step_later : (s : State T) → Sound s → (c : Command) → s.last_moment ≤ ((step ops s c).0).last_moment
  step_later s sound = step_becomes ops order id s sound.turn (λ c reply new. s.last_moment ≤ new.last_moment)
      (λ c reply new o says stay like next. next.later)
      (λ client info at new own none next. next.later)
      (λ client info at new c own named next. next.later)
      (λ client token params at new c d tags slack says named like given next last slack_is. next.later)
      (λ at new found amount phase beyond says g named next. next.later)
      (λ client new c own says named next. next.later)
      (λ client token counting new c own named next. next.later)

  taken_both : (taken a b : ℕ) → taken + taken_in side a + taken_in side b ≡ taken + taken_in side (a + b)
  taken_both taken a b = at side where
    at : (side : Side) → taken + taken_in side a + taken_in side b ≡ taken + taken_in side (a + b)
    at limits = omega arith
    at reservations = omega arith

  none_taken : (taken : ℕ) → taken ≡ taken + taken_in side 0
  none_taken taken = at side where
    at : (side : Side) → taken ≡ taken + taken_in side 0
    at limits = omega arith
    at reservations = omega arith

  -- what is so of a state
  pub record IsSo (from i taken : ℕ) (s : State T) (arrived : ℕ) (those back : List Numbered) : Type 0 where
    pub sound : Sound s
    pub counted : IsCounted all arrived those back
    pub asked : map asked_by (requests_of id s.clients) ≡ map asked_of those
    pub after : i ≤ arrived
    pub since : from ≤ s.last_moment
    pub paced : Paced from i taken s arrived those back

  pub paced_after : (from i taken : ℕ) (s : State T) (es : List (Event T)) (arrived : ℕ) (those back : List Numbered) (rest : List Arrival) → IsSo from i taken s arrived those back → replays_from ops s es → AllKeep id es → drop arrived all ≡ arrivals id es ++ rest
      → IsSo from i (taken + taken_in side (priorities id es)) (after_from ops s es) (arrived + length (arrivals id es)) (waiting_from id arrived those es) (back ++ given_back_from id arrived those es)
  paced_after from i taken s [] arrived those back rest is h keeps e =
      subst (λ n. IsSo from i n s (arrived + 0) those (back ++ [])) (none_taken taken) (subst (λ n. IsSo from i taken s n those (back ++ [])) (sym (zero_more arrived)) (subst (IsSo from i taken s arrived those) (sym (append-nil back)) is))
  paced_after from i taken s (x ∷ es) arrived those back rest is h keeps e =
      let next = (step ops s x.command).0 in
      let came = arrival_of id x.command x.reply in
      let more = arrivals id es in
      let given = given_back_of id x.command x.reply those in
      let left = still_waiting id x.command x.reply those ++ numbered_from (suc arrived) came in
      let whole : drop arrived all ≡ came ++ (more ++ rest) = e ∙ append_assoc came more rest in
      let on : drop (arrived + length came) all ≡ more ++ rest = drop_on arrived (length came) all ∙ ap (drop (length came)) whole ∙ behind_all came (more ++ rest) in
      let hz_is : s.config.hz ≡ config.hz = ap (λ k. k.hz) is.sound.same in
      let step = step_paces ops fraction is_value exact order id side config.hz q from i all taken arrived those back s hz_is (subst (λ n. 0 < n) (sym hz_is) some) is.sound.turn is.counted is.asked is.after is.paced x.command in
      let one : IsSo from i (taken + taken_in side (prioritized id x.command x.reply)) next (arrived + length came) left (back ++ given) = record {
        sound = sound_step ops fraction is_value exact order config some s x.command is.sound;
        counted = subst (λ r. Counts all ops order id x.command r) (sym h.0) (step_counts all ops order id s is.sound.turn x.command) arrived those back (more ++ rest) whole is.counted;
        asked = subst (λ r. map asked_by (requests_of id next.clients) ≡ map asked_of (still_waiting id x.command r those ++ numbered_from (suc arrived) (arrival_of id x.command r))) (sym h.0) (step_waits ops order id s is.sound.turn x.command arrived those is.asked);
        after = omega (arith, is.after);
        since = omega (arith, is.since, step_later s is.sound x.command);
        paced = subst (λ r. Next id (Paced from i (taken + taken_in side (prioritized id x.command r)) next) x.command r arrived those back) (sym h.0) (step (subst (λ r. AllKeep id (record x { reply = r } ∷ [])) h.0 (keeps.0, tt)).0 (more ++ rest) (subst (λ r. drop arrived all ≡ arrival_of id x.command r ++ (more ++ rest)) h.0 whole));
      } in
      let end = paced_after from i (taken + taken_in side (prioritized id x.command x.reply)) next es (arrived + length came) left (back ++ given) rest one h.1 keeps.1 on in
      let sum : arrived + length came + length more ≡ arrived + length (came ++ more) = omega (arith, length-append came more) in
      subst (λ n. IsSo from i n (after_from ops next es) (arrived + length (came ++ more)) (waiting_from id (arrived + length came) left es) (back ++ (given ++ given_back_from id (arrived + length came) left es))) (taken_both taken (prioritized id x.command x.reply) (priorities id es))
      (subst (λ n. IsSo from i (taken + taken_in side (prioritized id x.command x.reply) + taken_in side (priorities id es)) (after_from ops next es) n (waiting_from id (arrived + length came) left es) (back ++ (given ++ given_back_from id (arrived + length came) left es))) sum
      (subst (IsSo from i (taken + taken_in side (prioritized id x.command x.reply) + taken_in side (priorities id es)) (after_from ops next es) (arrived + length came + length more) (waiting_from id (arrived + length came) left es)) (append_assoc back given (given_back_from id (arrived + length came) left es)) end))

  -- ---- a grant of the first that waits

  due_tag : (t : ℕ) (r : QueuedRequest T) → IsDueIn ops t (phase_of side) false r → is_due ops t (side_tag side r.tags) ≡ true
  due_tag t r = at side where
    at : (side : Side) → IsDueIn ops t (phase_of side) false r → is_due ops t (side_tag side r.tags) ≡ true
    at limits h = h
    at reservations h = h

  pub record IsGranted (from i taken t : ℕ) (back : List Numbered) (token : Token) (cost : ℕ) (n : Numbered) : Type 0 where
    pub same : n.arrival.token ≡ token
    pub costs : n.arrival.params.cost ≡ cost
    pub within : config.hz * sum_of part i n.number all ≤ q * (t - from) + config.hz * (taken + cost_between i n.number back)

  first_within : (from i taken t : ℕ) (r : QueuedRequest T) (rs : List (QueuedRequest T)) (arrived : ℕ) (n : Numbered) (ns back : List Numbered) (c : PlainClient T) → from ≤ t → is_due ops t (side_tag side r.tags) ≡ true → c.requests ≡ r ∷ rs → IsInTurn ops order c → PacedClient from i taken arrived (n ∷ ns) back c → config.hz * sum_of part i n.number all ≤ q * (t - from) + config.hz * (taken + cost_between i n.number back)
  first_within from i taken t r rs arrived n ns back c since due first turn is = by (nat_lt i n.number) refl where
    by : (b : Bool) → nat_lt i n.number ≡ b → config.hz * sum_of part i n.number all ≤ q * (t - from) + config.hz * (taken + cost_between i n.number back)
    by false e =
        let none : sum_of part i n.number all ≡ 0 = sum_none part i n.number all (ltb-false i n.number e) in
        subst (λ m. config.hz * m ≤ q * (t - from) + config.hz * (taken + cost_between i n.number back)) (sym none) (omega arith)
    by true e =
        let slack = (subst (λ xs. AllByRecursion (λ (x : QueuedRequest T). AtMost ops (ops.of_moment 0) (slack_in kind x.slack)) xs) first (all_as _ _ (λ x h. h kind) c.requests turn.slacks)).0 in
        let kept = subst (λ m. Kept ops fraction is_value exact order q kind config.hz from taken (start ops fraction is_value exact order q kind config.hz from is.some) (r ∷ rs) (m ∷ marks_of part i all (λ k. cost_between i k back) ns) c.previous (sum_of part i arrived all) (cost_between i (suc arrived) back)) (mark_later part i all (λ k. cost_between i k back) n (ltb-true i n.number e)) (subst (λ xs. Kept ops fraction is_value exact order q kind config.hz from taken (start ops fraction is_value exact order q kind config.hz from is.some) xs (marks_of part i all (λ k. cost_between i k back) (n ∷ ns)) c.previous (sum_of part i arrived all) (cost_between i (suc arrived) back)) first is.keeps) in
        let at = first_at ops fraction is_value exact order q kind config.hz from taken is.some r rs (sum_of part i n.number all) (cost_between i n.number back) _ c.previous (sum_of part i arrived all) (cost_between i (suc arrived) back) slack kept in
        let tagged : side_tag side r.tags ≡ Some at.0 = sym (tag_is side r) ∙ at.1 in
        past q from t (config.hz * sum_of part i n.number all) (config.hz * (taken + cost_between i n.number back)) since (due_within ops fraction is_value exact at.0 t q (level_of ops fraction is_value exact order q kind config.hz from taken (sum_of part i n.number all) (cost_between i n.number back)) (subst (λ o. is_due ops t o ≡ true) tagged due) at.2)

  pub grant_within : (from i taken : ℕ) (s : State T) (arrived : ℕ) (those back : List Numbered) (n : Numbered) (at : ℕ) (token : Token) (cost : ℕ) → IsSo from i taken s arrived those back → slice_get those 0 ≡ Some n → (step ops s (Pull at)).1 ≡ Granted id token (phase_of side) false cost → IsGranted from i taken (effective s at) back token cost n
  grant_within from i taken s arrived [] back n at token cost is here = cc
  grant_within from i taken s arrived (m ∷ ns) back n at token cost is here = pull_is ops order s (effective s at) is.sound.turn.clients (λ o. (answer_of s o).1 ≡ Granted id token (phase_of side) false cost → Bound) (λ e k. cc) (λ m k. cc) (λ k. cc) (λ found amount phase beyond g k.
      let same : found.client.id ≡ id = cc in
      let own : is_client id found.client.id ≡ true = ap (is_client id) same ∙ itself_id id in
      let named : client_named id s.clients ≡ Some found.client = ap (client_named id) g.whole ∙ named_at id g.front found.client g.back (subst AreDistinct g.whole is.sound.turn.distinct) own in
      let phase_is : phase ≡ phase_of side = cc in
      let beyond_is : beyond ≡ false = cc in
      let token_is : found.request.token ≡ token = cc in
      let cost_is : found.request.cost ≡ cost = cc in
      let due : IsDueIn ops (effective s at) (phase_of side) false found.request = subst (λ b. IsDueIn ops (effective s at) (phase_of side) b found.request) beyond_is (subst (λ p. IsDueIn ops (effective s at) p beyond found.request) phase_is g.due) in
      let asked : asked_by found.request ∷ map asked_by found.others ≡ asked_of m ∷ map asked_of ns = sym (ap (map asked_by) g.first) ∙ sym (ap (λ o. map asked_by (option_map_or (λ (c : PlainClient T). c.requests) o [])) named) ∙ is.asked in
      let first : asked_by found.request ≡ asked_of m = cc in
      let number : m ≡ n = cc in
      let paced = subst (λ o. IfSome o (PacedClient from i taken arrived (m ∷ ns) back)) named is.paced in
      subst Bounded number (record {
        same = sym (ap (λ (a : Asked). a.token) first) ∙ token_is;
        costs = sym (ap (λ (a : Asked). a.cost) first) ∙ cost_is;
        within = first_within from i taken (effective s at) found.request found.others arrived m ns back found.client (omega (arith, is.since)) (due_tag (effective s at) found.request due) g.first (found_turn ops fraction is_value exact order s.clients id found.client named is.sound.turn.clients) paced;
      })) where
        Bounded : Numbered → Type 0
        Bounded n = IsGranted from i taken (effective s at) back token cost n

        Bound : Type 0
        Bound = Bounded n
