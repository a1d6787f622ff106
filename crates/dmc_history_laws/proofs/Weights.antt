-- Event by event under Shares::Virtual, whatever is taken back: how far a client's P are past that of one of its requests, x.
use Rattle.std.proofs.Common.{◌≡◌, ℕ, suc, ◌+◌, ◌*◌, ◌<◌, ◌≤◌, Bool, true, false, not, List, [], ◌∷◌, ◌++◌, map, length, drop, Option, Some, None, Ok, refl, sym, ap, ◌∙◌, subst, arith}
use Rattle.std.specs.Prelude.{ℤ, pos, ◌≤ℤ◌, IfSome, filter, slice_get, if◌then◌else◌}
use Rattle.std.specs.Option.{option_map_or}
use Rattle.std.specs.Cmp.{IsTotalOrder}
use Rattle.std.proofs.lemmas.Int.{ints}
use Rattle.std.proofs.lemmas.List.{append-nil, length-map, map-append}
use Rattle.dmc_types.specs.Values.{Params, Setting}
use Rattle.dmc_types.specs.declared.ids.ClientId.{ClientId}
use Rattle.dmc_types.specs.declared.ids.Token.{Token}
use Rattle.dmc_types.specs.declared.config.Counting.{Counting}
use Rattle.dmc_types.specs.declared.config.Counting.TheVariants.{All, Others}
use Rattle.dmc_types.specs.declared.config.PhaseType.{PhaseType}
use Rattle.dmc_types.specs.declared.config.Shares.TheVariants.{Virtual}
use Rattle.dmc_types.specs.declared.command.Command.{Command}
use Rattle.dmc_types.specs.declared.command.Command.TheVariants.{Add, Pull, Remove, Cancel}
use Rattle.dmc_tag.specs.Best.{Found}
use Rattle.dmc_tag.specs.Cancel as cancels
use Rattle.dmc_tag.specs.Cancel.{charged_to, no_befores}
use Rattle.dmc_tag.specs.Rules as rules_of
use Rattle.dmc_tag.specs.State.{State, PlainClient, is_client, client_named, effective, requests_of}
use Rattle.dmc_tag.specs.Step.{step}
use Rattle.dmc_tag.specs.Tag.{Fraction, Tagging, IsExact}
use Rattle.dmc_tag.specs.declared.plain.Previous.{Previous}
use Rattle.dmc_tag.specs.declared.plain.QueuedRequest.{QueuedRequest}
use Rattle.dmc_tag.specs.declared.plain.Slack.{Slack}
use Rattle.dmc_tag.specs.declared.reply.Reply.{Reply}
use Rattle.dmc_tag.specs.declared.reply.Reply.TheVariants.{Tagged, Removed}
use Rattle.dmc_tag.specs.declared.reply.Tags.{Tags}
use Rattle.dmc_history_laws.specs.Bounds.{Arrival, Arrives, Keeps, Numbered, arrival_of, asked_by, cost_between, departed, has_token, sum_of}
use Rattle.dmc_history_laws.proofs.Apart.{Apart, Falls, HasItself, Waits, apart_as, apart_more, apart_none, apart_opened, apart_rest, level_of, pass_apart, waited, waited_left, waited_rest}
use Rattle.dmc_history_laws.proofs.Becomes.{AreLike, IsLike, step_becomes}
use Rattle.dmc_history_laws.proofs.Chain.{Mark, earlier, itself, later, back_after}
use Rattle.dmc_history_laws.proofs.Charges.{counted_in, weighed_worth}
use Rattle.dmc_history_laws.proofs.Counted.{IsCounted, Next, at_front, none_back, none_comes, one_comes}
use Rattle.dmc_history_laws.proofs.Falling.{share}
use Rattle.dmc_history_laws.proofs.Given.{AreBelow, between_all, between_both, between_early, between_sum, links, mark_before, mark_itself, mark_later, mark_of, marks_of, nothing_counted, sum_next, sum_none, zero_first}
use Rattle.dmc_history_laws.proofs.Granted.{none_arrives}
use Rattle.dmc_history_laws.proofs.Histories.{IsSound}
use Rattle.dmc_history_laws.proofs.InTurn.{IsGrant}
use Rattle.dmc_history_laws.proofs.Past.{HasRoom, IsBy, IsWorth, by_itself, by_next, room_itself}
use Rattle.dmc_history_laws.proofs.Side.{level_opens, level_sent, limits}
use Rattle.dmc_history_laws.proofs.TurnKept.{were_in_turn}
use Rattle.dmc_history_laws.proofs.TurnSteps.{found_turn, paid_by}
use Rattle.dmc_history_laws.proofs.VirtualTime.{steps_by_weight}
use Rattle.dmc_history_laws.proofs.Waiting.{asked_of}
use Rattle.dmc_lemmas.proofs.Lists.{all_as}

module _ {T : Type 0} (ops : Tagging T) (fraction : T → Fraction) (is_value : Fraction → Type 0) (exact : IsExact ops fraction is_value) (order : IsTotalOrder ops.compare) (config : Setting) (some : 0 < config.hz) (virtual : config.shares ≡ Virtual) (id : ClientId) (w i : ℕ) (all : List Arrival) where
  abbrev part : Params → ℕ
  part p = p.delta

  abbrev hz : ℕ
  hz = config.hz

  abbrev marks : List Numbered → List Numbered → List Mark
  marks those back = marks_of part i all (λ k. cost_between i k back) those

  abbrev Holds : Option T → List (QueuedRequest T) → List Mark → Previous T → (sent back : ℕ) → Type 0
  Holds so rs ms previous sent back = Apart ops fraction is_value exact order w hz so rs ms previous sent back

  -- the client's record, if so many arrived, those wait, and of those something was given back
  pub record IsApartClient (so : Option T) (arrived : ℕ) (those back : List Numbered) (c : PlainClient T) : Type 0 where
    pub weight : c.info.weight ≡ w
    pub apart : Waits so (marks those back) → Apart ops fraction is_value exact order w hz so c.requests (marks those back) c.previous (sum_of part i arrived all) (cost_between i (suc arrived) back)

  abbrev pub IsApartIn : Option T → State T → ℕ → List Numbered → List Numbered → Type 0
  IsApartIn so s arrived those back = IfSome (client_named id s.clients) (IsApartClient so arrived those back)

  -- the P of requests that differ in R alone
  same_shares : (amount : Option T) (c : PlainClient T) → map (λ r. r.tags.p) (rules_of.reduced_by ops amount c).requests ≡ map (λ r. r.tags.p) c.requests
  same_shares None c = refl
  same_shares (Some amount) c = same c.requests where
    same : (xs : List (QueuedRequest T)) → map (λ r. r.tags.p) (map (rules_of.less_reservation ops amount) xs) ≡ map (λ r. r.tags.p) xs
    same [] = refl
    same (x ∷ xs) = ap (λ ts. x.tags.p ∷ ts) (same xs)

  same_last : (amount : Option T) (c : PlainClient T) → (rules_of.reduced_by ops amount c).previous.p ≡ c.previous.p
  same_last None c = refl
  same_last (Some amount) c = refl

  same_weight : (amount : Option T) (c : PlainClient T) → (rules_of.reduced_by ops amount c).info.weight ≡ c.info.weight
  same_weight None c = refl
  same_weight (Some amount) c = refl

  module _ (s : State T) (sound : IsSound ops fraction is_value exact order config some s) (arrived : ℕ) (those back : List Numbered) (counted : IsCounted all arrived those back) (asked : map asked_by (requests_of id s.clients) ≡ map asked_of those) where
    shares_are : s.config.shares ≡ Virtual
    shares_are = ap (λ k. k.shares) sound.same ∙ virtual

    hz_is : s.config.hz ≡ hz
    hz_is = ap (λ k. k.hz) sound.same

    abbrev sent : ℕ
    sent = sum_of part i arrived all

    abbrev given : ℕ
    given = cost_between i (suc arrived) back

    is_own : (b : Bool) → ◌≡◌ {A = ℕ} (if b then 1 else 0) 1 → b ≡ true
    is_own true e = refl
    is_own false e = cc

    not_both : {X : Type 0} {b : Bool} → b ≡ false → b ≡ true → X
    not_both p q = cc

    asked_as : (c : PlainClient T) → client_named id s.clients ≡ Some c → map asked_by c.requests ≡ map asked_of those
    asked_as c named = sym (ap (λ o. map asked_by (option_map_or (λ (d : PlainClient T). d.requests) o [])) named) ∙ asked

    -- ---- from behind x on

    module _ (since : i ≤ arrived) (so : Option T) (is : IsApartIn so s arrived those back) where
      own_of : (c : PlainClient T) → client_named id s.clients ≡ Some c → IsApartClient so arrived those back c
      own_of c named = subst (λ o. IfSome o (IsApartClient so arrived those back)) named is

      like_client : (c d : PlainClient T) → IsLike s.config.shares c d → IsApartClient so arrived those back c → IsApartClient so arrived those back d
      like_client c d like h = record {
        weight = ap (λ r. r.weight) like.info ∙ h.weight;
        apart = λ waits. apart_as ops fraction is_value exact order w hz so c.requests d.requests (marks those back) c.previous d.previous sent given (like.weights shares_are) (like.previous_p shares_are) (h.apart waits);
      }

      like_record : (o p : Option (PlainClient T)) → AreLike s.config.shares o p → IfSome o (IsApartClient so arrived those back) → IfSome p (IsApartClient so arrived those back)
      like_record None None like h = tt
      like_record None (Some d) like h = absurd like
      like_record (Some c) None like h = tt
      like_record (Some c) (Some d) like h = like_client c d like h

      module _ (token : Token) (params : Params) (t : ℕ) (floor : T) (c d : PlainClient T) (tags : Tags T) (slack : Slack T) (named : client_named id s.clients ≡ Some c) (like : IsLike s.config.shares c d) (assigned : rules_of.assigned ops s.config.hz c params (ops.of_moment t) floor ≡ Ok tags) (rest : List Arrival) (next : drop arrived all ≡ record { token = token; params = params } ∷ rest) where
        abbrev arrival : Arrival
        arrival = record { token = token; params = params }

        abbrev request : QueuedRequest T
        request = record { token = token; cost = params.cost; tags = tags; slack = slack }

        abbrev after : PlainClient T
        after = rules_of.after_arrival request t d

        abbrev newest : Numbered
        newest = record { number = suc arrived; arrival = arrival }

        arrived_client : IsApartClient so (suc arrived) (those ++ newest ∷ []) back after
        arrived_client =
            let mine = like_client c d like (own_of c named) in
            let more = part params in
            let by = steps_by_weight ops s.config.hz c params (ops.of_moment t) floor tags assigned in
            let spaced : ops.spacing hz w ≡ Some by.spacing = ap (λ h. ops.spacing h w) (sym hz_is) ∙ ap (ops.spacing s.config.hz) (sym (own_of c named).weight) ∙ by.spaced in
            let steps = λ (x : T) (h : IsBy ops fraction is_value exact w d.previous.p x (level_of ops fraction is_value exact order w hz sent given)).
            subst (IsBy ops fraction is_value exact w tags.p x) (level_sent fraction hz w 0 given sent more) (by_next ops fraction is_value exact w order c.previous.p by.spacing tags.p floor x (level_of ops fraction is_value exact order w hz sent given) hz more spaced by.next (subst (λ p. IsBy ops fraction is_value exact w p x (level_of ops fraction is_value exact order w hz sent given)) (like.previous_p shares_are) h)) in
            let sum_is : sum_of part i (suc arrived) all ≡ sent + more = sum_next part i arrived all arrival since (at_front arrived all arrival rest next) in
            let back_is : cost_between i (suc (suc arrived)) back ≡ given = between_all i (λ cost. cost) (suc arrived) (suc (suc arrived)) back (omega arith) counted.given in
            let marks_are : marks (those ++ newest ∷ []) back ≡ marks those back ++ later (sent + more) given ∷ [] = map-append _ those (newest ∷ []) ∙ ap (λ m. marks those back ++ m ∷ []) (mark_later part i all (λ k. cost_between i k back) newest (omega (arith, since)) ∙ ap (λ n. later n given) sum_is) in
            record {
              weight = mine.weight;
              apart = λ waits.
                  let waited_before = waited ops fraction is_value exact order w hz sent given more request d.previous after.previous refl steps so (marks those back) (subst (Waits so) marks_are waits) in
                  subst (λ n. Holds so after.requests (marks (those ++ newest ∷ []) back) after.previous (sum_of part i (suc arrived) all) n) (sym back_is)
                  (subst (λ n. Holds so after.requests (marks (those ++ newest ∷ []) back) after.previous n given) (sym sum_is)
                  (subst (λ ms. Holds so after.requests ms after.previous (sent + more) given) (sym marks_are)
                  (apart_more ops fraction is_value exact order w hz sent given more request d.previous after.previous refl steps so d.requests (marks those back) (mine.apart waited_before))));
            }

      rest_of : (r : QueuedRequest T) (rs : List (QueuedRequest T)) (ns : List Numbered) (previous : Previous T) (m n : ℕ) → (Waits so (marks ns back) → Holds so (r ∷ rs) (marks ns back) previous m n) → Waits so (marks (drop 1 ns) back) → Holds so rs (marks (drop 1 ns) back) previous m n
      rest_of r rs [] previous m n h waits = none so (h waits) where
        none : (so : Option T) → Holds so (r ∷ rs) [] previous m n → Holds so rs [] previous m n
        none None h = absurd h
        none (Some p) h = absurd h
      rest_of r rs (n1 ∷ ns) previous m n h waits = apart_rest ops fraction is_value exact order w hz so r rs _ (marks ns back) previous m n waits (h (waited_rest ops fraction is_value exact order w hz so _ (marks ns back) waits))

      granted_client : (t : ℕ) (found : Found T) (amount : Option T) (phase : PhaseType) (beyond : Bool) → IsGrant ops s t found amount phase beyond → client_named id s.clients ≡ Some found.client → IsApartClient so arrived (drop 1 those) back (rules_of.after_grant ops found amount)
      granted_client t found amount phase beyond g named =
          let mine = own_of found.client named in
          let rest = rules_of.with_requests found.others found.client in
          record {
            weight = same_weight amount rest ∙ mine.weight;
            apart = λ waits. apart_as ops fraction is_value exact order w hz so found.others (rules_of.after_grant ops found amount).requests (marks (drop 1 those) back) found.client.previous (rules_of.after_grant ops found amount).previous sent given (same_shares amount rest) (same_last amount rest)
                (rest_of found.request found.others those found.client.previous sent given (λ waits. subst (λ rs. Holds so rs (marks those back) found.client.previous sent given) g.first (mine.apart waits)) waits);
          }

      removed_client : (c : PlainClient T) → client_named id s.clients ≡ Some c → IsApartClient so arrived [] back (rules_of.with_requests [] c)
      removed_client c named = record { weight = (own_of c named).weight; apart = by so (own_of c named).apart } where
        by : (so : Option T) → (Waits so (marks those back) → Holds so c.requests (marks those back) c.previous sent given) → Waits so [] → Holds so [] [] c.previous sent given
        by None h waits = absurd waits
        by (Some p) h waits = apart_none ops fraction is_value exact order w hz p c.requests (marks those back) c.previous sent given (h tt)

      abbrev taken_with : Token → Counting → List Numbered
      taken_with token All = []
      taken_with token Others = filter (has_token token) those

      abbrev others : Token → List Numbered
      others token = filter (λ n. not (has_token token n)) those

      gives_so : (token : Token) (counting : Counting) (k : ℕ) → cost_between i k (taken_with token counting) ≡ 0 + between_sum i (counted_in counting) k (filter (has_token token) those)
      gives_so token All k = sym (nothing_counted i k (filter (has_token token) those)) ∙ sym (zero_first (between_sum i (λ _. 0) k (filter (has_token token) those)))
      gives_so token Others k = sym (zero_first (between_sum i (λ cost. cost) k (filter (has_token token) those)))

      cancelled_client : (token : Token) (counting : Counting) (c : PlainClient T) → client_named id s.clients ≡ Some c → IsApartClient so arrived (others token) (back ++ taken_with token counting) (cancels.without_token ops token (charged_to ops s.config.hz counting c) c)
      cancelled_client token counting c named =
          let mine = own_of c named in
          let turn = found_turn ops fraction is_value exact order s.clients id c named sound.turn.clients in
          let charged = charged_to ops s.config.hz counting c in
          let paid = paid_by ops fraction is_value exact order s.config.hz counting c (subst (λ n. 0 < n) (sym hz_is) some) in
          let more = taken_with token counting in
          let worth = λ (cost : ℕ). subst (λ h. IsWorth ops fraction is_value exact w (charged cost).p (h * counted_in counting cost)) hz_is (weighed_worth ops fraction is_value exact w s.config.hz counting c cost mine.weight) in
          let now = links part i all token (counted_in counting) (λ k. cost_between i k back) (λ k. cost_between i k more) (λ k. cost_between i k (back ++ more)) (λ k. between_both i (λ cost. cost) k back more) 0 0 (suc arrived) c.requests those (asked_as c named) (omega arith) counted.ascends counted.below (λ k _. gives_so token counting k) in
          let result = cancels.without_token ops token charged c in
          let back_is : given + back_after token (counted_in counting) 0 c.requests (marks those back) ≡ cost_between i (suc arrived) (back ++ more) = ap (λ n. given + n) now.by_end ∙ sym (between_both i (λ cost. cost) (suc arrived) back more) in
          record {
            weight = mine.weight;
            apart = λ waits.
                let left = subst (Waits so) (sym now.left) waits in
                let end = pass_apart ops fraction is_value exact order w hz token charged (λ cost. paid cost share) (counted_in counting) worth 0 so so no_befores c.requests (marks those back) result.previous.cancelled c.previous sent given (were_in_turn ops order fraction is_value exact c token charged paid turn share) (begins so) left (mine.apart (waited_left ops fraction is_value exact order w hz so token (counted_in counting) 0 c.requests (marks those back) left)) in
                subst (λ n. Holds so result.requests (marks (others token) (back ++ more)) result.previous sent n) back_is
                (subst (λ ms. Holds so result.requests ms result.previous sent (given + back_after token (counted_in counting) 0 c.requests (marks those back))) now.left end);
          }
        where
          none_more : hz * 0 ≡ 0
          none_more = omega arith

          begins : (so : Option T) → Falls ops fraction is_value exact order w hz so so None (hz * 0)
          begins None = refl
          begins (Some p) = (p, refl, subst (HasRoom ops fraction is_value exact w p p (ops.of_moment 0)) (sym none_more) (room_itself ops fraction is_value exact w p))

      -- ---- each command

      abbrev pub Goes : Command → Reply T → State T → Type 0
      Goes c reply new = Keeps id c reply → (rest : List Arrival) → drop arrived all ≡ arrival_of id c reply ++ rest → Next id (IsApartIn so new) c reply arrived those back

      found_in : (new : State T) (o : Option (PlainClient T)) (arrived : ℕ) (those back : List Numbered) → client_named id new.clients ≡ o → IfSome o (IsApartClient so arrived those back) → IsApartIn so new arrived those back
      found_in new o arrived those back e h = subst (λ p. IfSome p (IsApartClient so arrived those back)) (sym e) h

      cancel_goes : (client : ClientId) (token : Token) (counting : Counting) (count : ℕ) (new : State T) → is_client id client ≡ true → IsApartIn so new arrived (others token) (back ++ taken_with token counting) → Next {T = T} id (IsApartIn so new) (Cancel client token counting) (Removed count) arrived those back
      cancel_goes client token All count new own h = none_comes {T = T} id (IsApartIn so new) (Cancel client token All) (Removed count) arrived those back (others token) [] refl (ap (λ b. if b then others token else those) own) refl h
      cancel_goes client token Others count new own h = none_comes {T = T} id (IsApartIn so new) (Cancel client token Others) (Removed count) arrived those back (others token) (filter (has_token token) those) refl (ap (λ b. if b then others token else those) own) (ap (λ b. if b then filter (has_token token) those else []) own) h

      pub step_goes : (c : Command) → Goes c ((step ops s c).1) ((step ops s c).0)
      step_goes = step_becomes ops order id s sound.turn Goes
          (λ c reply new o says stay like next keeps rest e. none_comes id (IsApartIn so new) c reply arrived those back those [] says.came_is (stay those).0 (stay those).1 (none_back id (IsApartIn so new) c reply arrived those back (found_in new o arrived those back next.named (like_record (client_named id s.clients) o like is))))
          (λ client info at new own none next keeps rest e. not_both keeps own)
          (λ client info at new c own named next keeps rest e. not_both keeps own)
          (λ client token params at new c d tags slack says named like assigned next last slack_is keeps rest e.
          let a : Arrival = record { token = token; params = params } in
          one_comes {T = T} id (IsApartIn so new) (Add client token params at) (Tagged tags) arrived those back a says.came_is refl refl (found_in new _ (suc arrived) (those ++ record { number = suc arrived; arrival = a } ∷ []) back next.named (arrived_client token params (effective s at) (rules_of.share_floor ops s (ops.of_moment (effective s at))) c d tags slack named like assigned rest (e ∙ ap (λ came. came ++ rest) says.came_is))))
          (λ at new found amount phase beyond says g named next keeps rest e. none_comes id (IsApartIn so new) (Pull at) (rules_of.granted found phase beyond) arrived those back (drop 1 those) [] refl (ap (λ b. if b then drop 1 those else those) (is_own _ says.left_is)) refl (subst (IsApartIn so new arrived (drop 1 those)) (sym (append-nil back)) (found_in new _ arrived (drop 1 those) back next.named (granted_client (effective s at) found amount phase beyond g named))))
          (λ client new c own says named next keeps rest e. none_comes {T = T} id (IsApartIn so new) (Remove client) (Removed (length c.requests)) arrived those back [] [] refl (ap (λ b. if b then [] else those) own) refl (subst (IsApartIn so new arrived []) (sym (append-nil back)) (found_in new _ arrived [] back next.named (removed_client c named))))
          (λ client token counting new c own named next keeps rest e. cancel_goes client token counting (length (filter (cancels.has_token token) c.requests)) new own (found_in new _ arrived (others token) (back ++ taken_with token counting) next.named (cancelled_client token counting c named)))

    -- ---- x arrives

    abbrev Opens : Command → Reply T → State T → Type 0
    Opens c reply new = Arrives id c reply → i ≡ suc arrived → IfSome (client_named id new.clients) (λ c. c.info.weight ≡ w) → Next id (IsApartIn None new) c reply arrived those back

    early : (rs : List (QueuedRequest T)) (ns : List Numbered) → length rs ≡ length ns → AreBelow i ns → map (λ _. earlier) rs ≡ marks ns back
    early [] [] e h = refl
    early [] (n ∷ ns) e h = absurd (omega (arith, e))
    early (r ∷ rs) [] e h = absurd (omega (arith, e))
    early (r ∷ rs) (n ∷ ns) e h = ap (λ m. m ∷ map (λ _. earlier) rs) (sym (mark_before part i all (λ k. cost_between i k back) n h.0)) ∙ ap (λ ms. mark_of part i all (λ k. cost_between i k back) n ∷ ms) (early rs ns (omega (arith, e)) h.1)

    opened_client : (token : Token) (params : Params) (t : ℕ) (c d : PlainClient T) (tags : Tags T) (slack : Slack T) → client_named id s.clients ≡ Some c → IsLike s.config.shares c d → i ≡ suc arrived → d.info.weight ≡ w → IsApartClient None (suc arrived) (those ++ record { number = suc arrived; arrival = record { token = token; params = params } } ∷ []) back (rules_of.after_arrival (record { token = token; cost = params.cost; tags = tags; slack = slack }) t d)
    opened_client token params t c d tags slack named like is weight =
        let newest : Numbered = record { number = suc arrived; arrival = record { token = token; params = params } } in
        let request : QueuedRequest T = record { token = token; cost = params.cost; tags = tags; slack = slack } in
        let after = rules_of.after_arrival request t d in
        let size : length d.requests ≡ length those = sym (length-map d.requests asked_by) ∙ ap length (like.asked ∙ asked_as c named) ∙ length-map those asked_of in
        let below : AreBelow i those = subst (λ n. AreBelow n those) (sym is) counted.below in
        let marks_are : marks (those ++ newest ∷ []) back ≡ marks those back ++ itself ∷ [] = map-append _ those (newest ∷ []) ∙ ap (λ m. marks those back ++ m ∷ []) (mark_itself part i all (λ k. cost_between i k back) newest (sym is)) in
        let none_sent : sum_of part i (suc arrived) all ≡ 0 = sum_none part i (suc arrived) all (omega (arith, is)) in
        let none_back : cost_between i (suc (suc arrived)) back ≡ 0 = between_early i (suc (suc arrived)) back (all_as (λ n. n.number < suc arrived) (λ n. n.number < suc i) (λ n h. omega (arith, h, is)) back counted.given) in
        let level_is : level_of ops fraction is_value exact order w hz 0 0 ≡ pos (w * 0) = level_opens fraction hz w 0 in
        let by = by_itself ops fraction is_value exact w tags.p (level_of ops fraction is_value exact order w hz 0 0) (nothing _ (w * 0) level_is (omega arith)) in
        record {
          weight = weight;
          apart = λ waits. subst (λ n. Holds None after.requests (marks (those ++ newest ∷ []) back) after.previous (sum_of part i (suc arrived) all) n) (sym none_back)
              (subst (λ n. Holds None after.requests (marks (those ++ newest ∷ []) back) after.previous n 0) (sym none_sent)
              (subst (λ ms. Holds None after.requests ms after.previous 0 0) (sym marks_are)
              (apart_opened ops fraction is_value exact order w hz request after.previous d.requests (marks those back) by (early d.requests those size below))));
        }
      where
        nothing : (m : ℤ) (n : ℕ) → m ≡ pos n → n ≡ 0 → m ≤ℤ pos 0
        nothing m n e f = omega (arith, ints)

    pub opens : (c : Command) → Opens c ((step ops s c).1) ((step ops s c).0)
    opens = step_becomes ops order id s sound.turn Opens
        (λ c reply new o says stay like next arrives is has. none_arrives ops fraction is_value exact order config some id limits w all c reply says.came_is arrives)
        (λ client info at new own none next arrives is has. absurd arrives)
        (λ client info at new c own named next arrives is has. absurd arrives)
        (λ client token params at new c d tags slack says named like assigned next last slack_is arrives is has.
        let a : Arrival = record { token = token; params = params } in
        one_comes {T = T} id (IsApartIn None new) (Add client token params at) (Tagged tags) arrived those back a says.came_is refl refl (subst (λ o. IfSome o (IsApartClient None (suc arrived) (those ++ record { number = suc arrived; arrival = a } ∷ []) back)) (sym next.named) (opened_client token params (effective s at) c d tags slack named like is (subst (λ o. IfSome o (λ e. e.info.weight ≡ w)) next.named has))))
        (λ at new found amount phase beyond says g named next arrives is has. absurd arrives)
        (λ client new c own says named next arrives is has. absurd arrives)
        (λ client token counting new c own named next arrives is has. absurd arrives)

    -- ---- x is granted

    abbrev Leaves : QueuedRequest T → Command → Reply T → State T → Type 0
    Leaves x c reply new = (at : ℕ) → c ≡ Pull at → departed id c reply ≡ 1 → slice_get (requests_of id s.clients) 0 ≡ Some x → (n : Numbered) → slice_get those 0 ≡ Some n → n.number ≡ i → Next id (IsApartIn (Some x.tags.p) new) c reply arrived those back

    left_client : (x : QueuedRequest T) (found : Found T) (amount : Option T) → client_named id s.clients ≡ Some found.client → found.client.requests ≡ found.request ∷ found.others → found.request ≡ x → (n : Numbered) → slice_get those 0 ≡ Some n → n.number ≡ i → IsApartIn None s arrived those back → IsApartClient (Some x.tags.p) arrived (drop 1 those) back (rules_of.after_grant ops found amount)
    left_client x found amount named first same n here is h =
        let mine = subst (λ o. IfSome o (IsApartClient None arrived those back)) named h in
        let rest = rules_of.with_requests found.others found.client in
        record {
          weight = same_weight amount rest ∙ mine.weight;
          apart = λ _. apart_as ops fraction is_value exact order w hz (Some x.tags.p) found.others (rules_of.after_grant ops found amount).requests (marks (drop 1 those) back) found.client.previous (rules_of.after_grant ops found amount).previous sent given (same_shares amount rest) (same_last amount rest)
              (subst (λ (z : QueuedRequest T). Holds (Some z.tags.p) found.others (marks (drop 1 those) back) found.client.previous sent given) same (by those here (λ waits. subst (λ rs. Holds None rs (marks those back) found.client.previous sent given) first (mine.apart waits))));
        }
      where
        by : (ns : List Numbered) → slice_get ns 0 ≡ Some n → (Waits {T = T} None (marks ns back) → Holds None (found.request ∷ found.others) (marks ns back) found.client.previous sent given) → Holds (Some found.request.tags.p) found.others (marks (drop 1 ns) back) found.client.previous sent given
        by [] here h = cc
        by (m ∷ ns) here h =
            let number : m ≡ n = cc in
            let mark_is : mark_of part i all (λ k. cost_between i k back) m ≡ itself = mark_itself part i all (λ k. cost_between i k back) m (ap (λ (z : Numbered). z.number) number ∙ is) in
            subst (λ z. Holds None (found.request ∷ found.others) (z ∷ marks ns back) found.client.previous sent given) mark_is (h (subst (λ z. HasItself (z ∷ marks ns back)) (sym mark_is) tt))

    pub leaves : (x : QueuedRequest T) → IsApartIn None s arrived those back → (c : Command) → Leaves x c ((step ops s c).1) ((step ops s c).0)
    leaves x h = step_becomes ops order id s sound.turn (Leaves x)
        (λ c reply new o says stay like next at pulls one first n here is. not_none (sym says.left_is ∙ one))
        (λ client info at new own none next m pulls one first n here is. cc)
        (λ client info at new c own named next m pulls one first n here is. cc)
        (λ client token params at new c d tags slack says named like assigned next last slack_is m pulls one first n here is. cc)
        (λ at new found amount phase beyond says g named next m pulls one first n here is.
        let same : found.request ≡ x = cc (ap (λ o. slice_get (option_map_or (λ (c : PlainClient T). c.requests) o []) 0) named ∙ ap (λ xs. slice_get xs 0) g.first, first) in
        none_comes id (IsApartIn (Some x.tags.p) new) (Pull at) (rules_of.granted found phase beyond) arrived those back (drop 1 those) [] refl (ap (λ b. if b then drop 1 those else those) (is_own _ says.left_is)) refl (subst (IsApartIn (Some x.tags.p) new arrived (drop 1 those)) (sym (append-nil back)) (subst (λ o. IfSome o (IsApartClient (Some x.tags.p) arrived (drop 1 those) back)) (sym next.named) (left_client x found amount named g.first same n here is h))))
        (λ client new c own says named next m pulls one first n here is. cc)
        (λ client token counting new c own named next m pulls one first n here is. cc)
      where
        not_none : {X : Type 0} → ◌≡◌ {A = ℕ} 0 1 → X
        not_none e = cc
