-- Event by event, whatever is taken back: a client's tags behind one of its adds, a_i, against what was sent and given back since.
use Rattle.std.proofs.Common.{◌≡◌, ℕ, suc, ◌+◌, ◌*◌, ◌<◌, ◌≤◌, Bool, true, false, not, ◌||◌, List, [], ◌∷◌, ◌++◌, map, length, drop, Option, Some, None, Ok, refl, sym, ap, ◌∙◌, subst, inl, arith}
use Rattle.std.specs.Prelude.{IfSome, filter, if◌then◌else◌}
use Rattle.std.specs.Option.{option_map_or}
use Rattle.std.specs.Cmp.{IsTotalOrder}
use Rattle.std.proofs.lemmas.List.{append-nil, map-append}
use Rattle.dmc_types.specs.Values.{Params}
use Rattle.dmc_types.specs.declared.ids.ClientId.{ClientId}
use Rattle.dmc_types.specs.declared.ids.Token.{Token}
use Rattle.dmc_types.specs.declared.config.Counting.{Counting}
use Rattle.dmc_types.specs.declared.config.Counting.TheVariants.{All, Others}
use Rattle.dmc_types.specs.declared.config.PhaseType.{PhaseType}
use Rattle.dmc_types.specs.declared.config.Shares.{Shares}
use Rattle.dmc_types.specs.declared.command.Command.{Command}
use Rattle.dmc_types.specs.declared.command.Command.TheVariants.{Add, Pull, Remove, Cancel}
use Rattle.dmc_tag.specs.Best.{Found}
use Rattle.dmc_tag.specs.Cancel as cancels
use Rattle.dmc_tag.specs.Cancel.{charged_to, no_befores}
use Rattle.dmc_tag.specs.Laws.{IsReduction}
use Rattle.dmc_tag.specs.Order.{AtMost}
use Rattle.dmc_tag.specs.Rules as rules_of
use Rattle.dmc_tag.specs.State.{State, PlainClient, is_client, client_named, effective, requests_of}
use Rattle.dmc_tag.specs.Step.{step}
use Rattle.dmc_tag.specs.Tag.{Fraction, Tagging, IsExact}
use Rattle.dmc_tag.specs.declared.cancel.Before.{Before}
use Rattle.dmc_tag.specs.declared.plain.Previous.{Previous}
use Rattle.dmc_tag.specs.declared.plain.QueuedRequest.{QueuedRequest}
use Rattle.dmc_tag.specs.declared.plain.Slack.{Slack}
use Rattle.dmc_tag.specs.declared.reply.Reply.{Reply}
use Rattle.dmc_tag.specs.declared.reply.Reply.TheVariants.{Tagged, Removed}
use Rattle.dmc_tag.specs.declared.reply.Tags.{Tags}
use Rattle.dmc_tag.proofs.Upto.{at_most_itself}
use Rattle.dmc_history_laws.specs.Bounds.{Arrival, Keeps, Numbered, arrival_of, asked_by, cost_between, has_token, prioritized, sum_of}
use Rattle.dmc_history_laws.proofs.Becomes.{AreLike, IsLike, grants_in, step_becomes}
use Rattle.dmc_history_laws.proofs.Behind.{kind_of, like_as, like_ends, like_previous, previous_is, reduced_as, tag_is}
use Rattle.dmc_history_laws.proofs.Chain.{Mark, later, Flagged, Goes, level_of, pass, last_from, marks_left, back_after}
use Rattle.dmc_history_laws.proofs.Charges.{charged_worth, counted_in}
use Rattle.dmc_history_laws.proofs.Counted.{IsCounted, Next, at_front, none_back, none_comes, one_comes}
use Rattle.dmc_history_laws.proofs.Falling.{Kind, reservation, limit, share, before_in, previous_in, slack_in, min_under_first}
use Rattle.dmc_history_laws.proofs.Given.{between_all, between_both, between_sum, last_is, links, mark_later, marks_of, nothing_counted, sum_next, zero_first}
use Rattle.dmc_history_laws.proofs.InTurn.{AreInTurn, IsGrant, IsInTurn}
use Rattle.dmc_history_laws.proofs.Marked.{Comes, Kept, Slacks, keeps_as, keeps_more, keeps_none, keeps_rest, start}
use Rattle.dmc_history_laws.proofs.Past.{IsBy, IsWorth, by_next, room_itself}
use Rattle.dmc_history_laws.proofs.Reducing.{info_reduced, off}
use Rattle.dmc_history_laws.proofs.Side.{Side, limits, reservations, count_in, level_sent, previous_of, rate_in, steps_by, taken_in, previous_in as side_previous}
use Rattle.dmc_history_laws.proofs.TurnKept.{were_in_turn}
use Rattle.dmc_history_laws.proofs.TurnSteps.{found_turn, paid_by}
use Rattle.dmc_history_laws.proofs.Waiting.{asked_of}
use Rattle.dmc_lemmas.proofs.Lists.{all_as}

module _ {T : Type 0} (ops : Tagging T) (fraction : T → Fraction) (is_value : Fraction → Type 0) (exact : IsExact ops fraction is_value) (order : IsTotalOrder ops.compare) (id : ClientId) (side : Side) (hz q from i : ℕ) (all : List Arrival) where
  abbrev kind : Kind
  kind = kind_of side

  abbrev none : T
  none = ops.of_moment 0

  abbrev part : Params → ℕ
  part = count_in side

  abbrev marks : List Numbered → List Numbered → List Mark
  marks those back = marks_of part i all (λ k. cost_between i k back) those

  abbrev first : Bool → Option T
  first some = start ops fraction is_value exact order q kind hz from some

  abbrev Holds : ℕ → Bool → List (QueuedRequest T) → List Mark → Previous T → (sent back : ℕ) → Type 0
  Holds taken some rs ms previous sent back = Kept ops fraction is_value exact order q kind hz from taken (first some) rs ms previous sent back

  -- the client's record, if so many arrived, those wait, and of those something was given back
  pub record IsPacedClient (taken arrived : ℕ) (those back : List Numbered) (c : PlainClient T) : Type 0 where
    pub rated : rate_in side c.info ≡ Some q
    pub some : Bool
    pub keeps : Kept ops fraction is_value exact order q kind hz from taken (first some) c.requests (marks those back) c.previous (sum_of part i arrived all) (cost_between i (suc arrived) back)

  abbrev pub IsPacedIn : ℕ → State T → ℕ → List Numbered → List Numbered → Type 0
  IsPacedIn taken s arrived those back = IfSome (client_named id s.clients) (IsPacedClient taken arrived those back)

  -- ---- a record that differs in P and in its mark alone

  like_client : (taken arrived : ℕ) (those back : List Numbered) {shares : Shares} (c d : PlainClient T) → IsLike shares c d → IsPacedClient taken arrived those back c → IsPacedClient taken arrived those back d
  like_client taken arrived those back c d like h = record {
    rated = ap (rate_in side) like.info ∙ h.rated;
    some = h.some;
    keeps = keeps_as ops fraction is_value exact order q kind hz from taken taken (first h.some) c.requests d.requests (marks those back) c.previous d.previous (sum_of part i arrived all) (cost_between i (suc arrived) back) (like_as ops fraction is_value exact order q hz from side taken c d like) (like_ends ops fraction is_value exact order q hz from side taken c d like) h.keeps;
  }

  like_record : (taken arrived : ℕ) (those back : List Numbered) (shares : Shares) (o p : Option (PlainClient T)) → AreLike shares o p → IfSome o (IsPacedClient taken arrived those back) → IfSome p (IsPacedClient taken arrived those back)
  like_record taken arrived those back shares None None like h = tt
  like_record taken arrived those back shares None (Some d) like h = absurd like
  like_record taken arrived those back shares (Some c) None like h = tt
  like_record taken arrived those back shares (Some c) (Some d) like h = like_client taken arrived those back c d like h

  none_before : (k : Kind) → before_in k (no_befores {T = T}) ≡ None
  none_before reservation = refl
  none_before limit = refl
  none_before share = refl

  start_goes : (some : Bool) (o : Option (Before T)) (n : ℕ) → o ≡ None → n ≡ 0 → Goes ops fraction is_value exact order q (first some) (first some) o n
  start_goes some o n e f = subst (λ b. Goes ops fraction is_value exact order q (first some) (first some) b n) (sym e) (subst (λ m. Goes ops fraction is_value exact order q (first some) (first some) None m) (sym f) (at some)) where
    at : (some : Bool) → Goes ops fraction is_value exact order q (first some) (first some) None 0
    at true = refl
    at false = (none, inl refl, at_most_itself ops order none, room_itself ops fraction is_value exact q none)

  start_flagged : (taken : ℕ) (some : Bool) (o : Option (Before T)) → o ≡ None → Flagged ops fraction is_value exact order q kind hz from taken (first some) o false
  start_flagged taken some o e = subst (λ b. Flagged ops fraction is_value exact order q kind hz from taken (first some) b false) (sym e) (at some) where
    at : (some : Bool) → Flagged ops fraction is_value exact order q kind hz from taken (first some) None false
    at true = tt
    at false = tt

  -- ---- the steps

  module _ (taken arrived : ℕ) (those back : List Numbered) (s : State T) (hz_is : s.config.hz ≡ hz) (some_hz : 0 < s.config.hz) (turn : AreInTurn ops order s) (counted : IsCounted all arrived those back) (asked : map asked_by (requests_of id s.clients) ≡ map asked_of those) (since : i ≤ arrived) (is : IsPacedIn taken s arrived those back) where
    own_of : (c : PlainClient T) → client_named id s.clients ≡ Some c → IsPacedClient taken arrived those back c
    own_of c named = subst (λ o. IfSome o (IsPacedClient taken arrived those back)) named is

    turn_of : (c : PlainClient T) → client_named id s.clients ≡ Some c → IsInTurn ops order c
    turn_of c named = found_turn ops fraction is_value exact order s.clients id c named turn.clients

    slacks_of : (c : PlainClient T) → IsInTurn ops order c → Slacks ops fraction is_value exact order q kind hz from c.requests
    slacks_of c is = all_as _ _ (λ r h. h kind) c.requests is.slacks

    abbrev sent : ℕ
    sent = sum_of part i arrived all

    abbrev given : ℕ
    given = cost_between i (suc arrived) back

    -- ---- an add

    module _ (token : Token) (params : Params) (t : ℕ) (floor : T) (c d : PlainClient T) (tags : Tags T) (slack : Slack T) (named : client_named id s.clients ≡ Some c) (like : IsLike s.config.shares c d) (assigned : rules_of.assigned ops s.config.hz c params (ops.of_moment t) floor ≡ Ok tags) (slack_is : rules_of.slack_of ops c.previous tags (ops.of_moment t) floor ≡ slack) (rest : List Arrival) (next : drop arrived all ≡ record { token = token; params = params } ∷ rest) where
      abbrev arrival : Arrival
      arrival = record { token = token; params = params }

      abbrev request : QueuedRequest T
      request = record { token = token; cost = params.cost; tags = tags; slack = slack }

      abbrev after : PlainClient T
      after = rules_of.after_arrival request t d

      abbrev newest : Numbered
      newest = record { number = suc arrived; arrival = arrival }

      -- behind a cancelled request the slack is at most what that had left
      capped : d.previous.cancelled ≡ true → AtMost ops (slack_in kind slack) (slack_in kind d.previous.slack)
      capped e =
          let was : c.previous.cancelled ≡ true = sym like.previous_cancelled ∙ e in
          subst (λ z. AtMost ops (slack_in kind slack) (slack_in kind z)) (sym like.previous_slack) (subst (λ z. AtMost ops (slack_in kind z) (slack_in kind c.previous.slack)) slack_is (at side was))
        where
          least : (b : Bool) → b ≡ true → (left more : T) → AtMost ops (rules_of.slack_behind ops b left more) left
          least true e left more = min_under_first ops fraction is_value exact order left more
          least false e left more = cc

          of_r : (o : Option T) → c.previous.cancelled ≡ true → AtMost ops (option_map_or (λ r. rules_of.slack_behind ops c.previous.cancelled c.previous.slack.r (rules_of.above ops r (ops.of_moment t))) o c.previous.slack.r) c.previous.slack.r
          of_r None was = at_most_itself ops order c.previous.slack.r
          of_r (Some r) was = least c.previous.cancelled was c.previous.slack.r (rules_of.above ops r (ops.of_moment t))

          at : (side : Side) → c.previous.cancelled ≡ true → AtMost ops (slack_in (kind_of side) (rules_of.slack_of ops c.previous tags (ops.of_moment t) floor)) (slack_in (kind_of side) c.previous.slack)
          at limits was = least c.previous.cancelled was c.previous.slack.l (rules_of.above ops tags.l (ops.of_moment t))
          at reservations was = of_r tags.r was

      arrived_client : IsPacedClient taken (suc arrived) (those ++ newest ∷ []) back after
      arrived_client =
          let mine = like_client taken arrived those back c d like (own_of c named) in
          let more = part params in
          let by = steps_by ops hz q c params (ops.of_moment t) floor tags (subst (λ h. rules_of.assigned ops h c params (ops.of_moment t) floor ≡ Ok tags) hz_is assigned) side (own_of c named).rated in
          let comes : Comes ops fraction is_value exact order q kind hz from request after.previous by.tag = record {
            tag = tag_is side request ∙ by.tag_is;
            last = previous_is side after.previous ∙ previous_of side tags slack d.previous by.tag by.tag_is;
            slack = refl;
            kept = refl;
          } in
          let before_is : side_previous side c.previous ≡ previous_in kind d.previous = sym (like_previous ops fraction is_value exact order q hz from side c d like) ∙ sym (previous_is side d.previous) in
          let steps = λ (x : T) (h : IsBy ops fraction is_value exact q (previous_in kind d.previous) x (level_of ops fraction is_value exact order q kind hz from taken sent given)).
          subst (IsBy ops fraction is_value exact q by.tag x) (level_sent fraction hz q from (taken + given) sent more) (by_next ops fraction is_value exact q order (side_previous side c.previous) by.spacing by.tag (ops.of_moment t) x (level_of ops fraction is_value exact order q kind hz from taken sent given) hz more by.spaced by.next (subst (λ p. IsBy ops fraction is_value exact q p x (level_of ops fraction is_value exact order q kind hz from taken sent given)) (sym before_is) h)) in
          let kept = keeps_more ops fraction is_value exact order q kind hz from taken sent given more request d.previous after.previous by.tag comes steps capped (first mine.some) d.requests (marks those back) mine.keeps in
          let sum_is : sum_of part i (suc arrived) all ≡ sent + more = sum_next part i arrived all arrival since (at_front arrived all arrival rest next) in
          let back_is : cost_between i (suc (suc arrived)) back ≡ given = between_all i (λ cost. cost) (suc arrived) (suc (suc arrived)) back (omega arith) counted.given in
          let marks_are : marks (those ++ newest ∷ []) back ≡ marks those back ++ later (sum_of part i (suc arrived) all) given ∷ [] = map-append _ those (newest ∷ []) ∙ ap (λ m. marks those back ++ m ∷ []) (mark_later part i all (λ k. cost_between i k back) newest (omega (arith, since))) in
          record {
            rated = mine.rated;
            some = mine.some;
            keeps = subst (λ n. Holds taken mine.some after.requests (marks (those ++ newest ∷ []) back) after.previous (sum_of part i (suc arrived) all) n) (sym back_is)
                (subst (λ ms. Holds taken mine.some after.requests ms after.previous (sum_of part i (suc arrived) all) given) (sym marks_are)
                (subst (λ n. Holds taken mine.some after.requests (marks those back ++ later n given ∷ []) after.previous n given) (sym sum_is) kept));
          }

    -- ---- a grant of the client

    rest_of : (some : Bool) (r : QueuedRequest T) (rs : List (QueuedRequest T)) (ns : List Numbered) (previous : Previous T) (m n : ℕ) → AtMost ops none (slack_in kind r.slack) → Holds taken some (r ∷ rs) (marks ns back) previous m n → (after : Bool) × Holds taken after rs (marks (drop 1 ns) back) previous m n
    rest_of some r rs [] previous m n slack h = absurd h
    rest_of some r rs (n1 ∷ ns) previous m n slack h = keeps_rest ops fraction is_value exact order q kind hz from taken some r rs _ (marks ns back) previous m n slack h

    granted_client : (t : ℕ) (found : Found T) (amount : Option T) (phase : PhaseType) (beyond : Bool) → IsGrant ops s t found amount phase beyond → client_named id s.clients ≡ Some found.client → IsPacedClient (taken + taken_in side (grants_in phase found.request.cost)) arrived (drop 1 those) back (rules_of.after_grant ops found amount)
    granted_client t found amount phase beyond g named =
        let mine = own_of found.client named in
        let rest = rules_of.with_requests found.others found.client in
        let slack = (subst (λ rs. Slacks ops fraction is_value exact order q kind hz from rs) g.first (slacks_of found.client (turn_of found.client named))).0 in
        let left = rest_of mine.some found.request found.others those found.client.previous sent given slack (subst (λ rs. Holds taken mine.some rs (marks those back) found.client.previous sent given) g.first mine.keeps) in
        let is_off = off ops fraction is_value exact hz q found.client side phase found.request.cost amount mine.rated (subst (λ n. IsReduction ops n found.client found.request.cost phase amount) hz_is g.reduction) in
        let reduced = reduced_as ops fraction is_value exact order q hz from side phase found.request.cost amount rest taken is_off g.can in
        record {
          rated = ap (rate_in side) (info_reduced ops fraction is_value exact hz q amount rest) ∙ mine.rated;
          some = left.0;
          keeps = keeps_as ops fraction is_value exact order q kind hz from taken (taken + taken_in side (grants_in phase found.request.cost)) (first left.0) found.others (rules_of.after_grant ops found amount).requests (marks (drop 1 those) back) found.client.previous (rules_of.after_grant ops found amount).previous sent given reduced.0 reduced.1 left.1;
        }

    -- ---- a removal

    removed_client : (c : PlainClient T) → client_named id s.clients ≡ Some c → IsPacedClient taken arrived [] back (rules_of.with_requests [] c)
    removed_client c named =
        let mine = own_of c named in
        record {
          rated = mine.rated;
          some = false;
          keeps = keeps_none ops fraction is_value exact order q kind hz from taken mine.some c.requests (marks those back) c.previous sent given (slacks_of c (turn_of c named)) ((turn_of c named).left kind) mine.keeps;
        }

    -- ---- a cancel

    abbrev taken_with : Token → Counting → List Numbered
    taken_with token All = []
    taken_with token Others = filter (has_token token) those

    abbrev others : Token → List Numbered
    others token = filter (λ n. not (has_token token n)) those

    gives_so : (token : Token) (counting : Counting) (k : ℕ) → cost_between i k (taken_with token counting) ≡ 0 + between_sum i (counted_in counting) k (filter (has_token token) those)
    gives_so token All k = sym (nothing_counted i k (filter (has_token token) those)) ∙ sym (zero_first (between_sum i (λ _. 0) k (filter (has_token token) those)))
    gives_so token Others k = sym (zero_first (between_sum i (λ cost. cost) k (filter (has_token token) those)))

    cancelled_client : (token : Token) (counting : Counting) (c : PlainClient T) → client_named id s.clients ≡ Some c → IsPacedClient taken arrived (others token) (back ++ taken_with token counting) (cancels.without_token ops token (charged_to ops s.config.hz counting c) c)
    cancelled_client token counting c named =
        let mine = own_of c named in
        let charged = charged_to ops s.config.hz counting c in
        let paid = paid_by ops fraction is_value exact order s.config.hz counting c some_hz in
        let more = taken_with token counting in
        let worth = λ (cost : ℕ). subst (λ h. IsWorth ops fraction is_value exact q (slack_in kind (charged cost)) (h * counted_in counting cost)) hz_is (charged_worth ops fraction is_value exact q s.config.hz side counting c cost mine.rated) in
        let asked_as : map asked_by c.requests ≡ map asked_of those = sym (ap (λ o. map asked_by (option_map_or (λ (d : PlainClient T). d.requests) o [])) named) ∙ asked in
        let now = links part i all token (counted_in counting) (λ k. cost_between i k back) (λ k. cost_between i k more) (λ k. cost_between i k (back ++ more)) (λ k. between_both i (λ cost. cost) k back more) 0 0 (suc arrived) c.requests those asked_as (omega arith) counted.ascends counted.below (λ k _. gives_so token counting k) in
        let end = pass ops fraction is_value exact order q kind hz from taken token charged (λ cost. paid cost kind) (counted_in counting) worth 0 (first mine.some) (first mine.some) false no_befores c.requests (marks those back) c.previous sent given
        (were_in_turn ops order fraction is_value exact c token charged paid (turn_of c named) kind)
        (start_flagged taken mine.some (before_in kind no_befores) (none_before kind))
        (start_goes mine.some (before_in kind no_befores) (hz * 0) (none_before kind) (omega arith))
        mine.keeps in
        let is = cancels.without_token ops token charged c in
        let flag : (c.previous.cancelled || last_from token false c.requests) ≡ (c.previous.cancelled || cancels.last_has_token token c.requests) = ap (λ b. c.previous.cancelled || b) (sym (last_is token c.requests)) in
        let back_is : given + back_after token (counted_in counting) 0 c.requests (marks those back) ≡ cost_between i (suc arrived) (back ++ more) = ap (λ n. given + n) now.by_end ∙ sym (between_both i (λ cost. cost) (suc arrived) back more) in
        record {
          rated = mine.rated;
          some = mine.some;
          keeps = subst (λ n. Holds taken mine.some is.requests (marks (others token) (back ++ more)) is.previous sent n) back_is
              (subst (λ ms. Holds taken mine.some is.requests ms is.previous sent (given + back_after token (counted_in counting) 0 c.requests (marks those back))) now.left
              (subst (λ b. Holds taken mine.some is.requests (marks_left token (counted_in counting) 0 c.requests (marks those back)) (cancels.fallen_previous ops (cancels.befores_after ops token charged no_befores c.requests) b c.previous) sent (given + back_after token (counted_in counting) 0 c.requests (marks those back))) flag end));
        }

    -- ---- each command

    abbrev pub Paces : Command → Reply T → State T → Type 0
    Paces c reply new = Keeps id c reply → (rest : List Arrival) → drop arrived all ≡ arrival_of id c reply ++ rest → Next id (IsPacedIn (taken + taken_in side (prioritized id c reply)) new) c reply arrived those back

    none_more : taken ≡ taken + taken_in side 0
    none_more = at side where
      at : (side : Side) → taken ≡ taken + taken_in side 0
      at limits = omega arith
      at reservations = omega arith

    -- none is granted by weight
    none_prior : (c : Command) (reply : Reply T) (new : State T) → prioritized id c reply ≡ 0 → Next id (IsPacedIn taken new) c reply arrived those back → Next id (IsPacedIn (taken + taken_in side (prioritized id c reply)) new) c reply arrived those back
    none_prior c reply new none h = subst (λ n. Next id (IsPacedIn n new) c reply arrived those back) (none_more ∙ ap (λ n. taken + taken_in side n) (sym none)) h

    not_both : {X : Type 0} {b : Bool} → b ≡ false → b ≡ true → X
    not_both p q = cc

    is_own : (b : Bool) → ◌≡◌ {A = ℕ} (if b then 1 else 0) 1 → b ≡ true
    is_own true e = refl
    is_own false e = cc

    found_in : (new : State T) (o : Option (PlainClient T)) (taken arrived : ℕ) (those back : List Numbered) → client_named id new.clients ≡ o → IfSome o (IsPacedClient taken arrived those back) → IsPacedIn taken new arrived those back
    found_in new o taken arrived those back e h = subst (λ p. IfSome p (IsPacedClient taken arrived those back)) (sym e) h

    cancel_paces : (client : ClientId) (token : Token) (counting : Counting) (count : ℕ) (new : State T) → is_client id client ≡ true → IsPacedIn taken new arrived (others token) (back ++ taken_with token counting) → Next {T = T} id (IsPacedIn taken new) (Cancel client token counting) (Removed count) arrived those back
    cancel_paces client token All count new own h = none_comes {T = T} id (IsPacedIn taken new) (Cancel client token All) (Removed count) arrived those back (others token) [] refl (ap (λ b. if b then others token else those) own) refl h
    cancel_paces client token Others count new own h = none_comes {T = T} id (IsPacedIn taken new) (Cancel client token Others) (Removed count) arrived those back (others token) (filter (has_token token) those) refl (ap (λ b. if b then others token else those) own) (ap (λ b. if b then filter (has_token token) those else []) own) h

    pub step_paces : (c : Command) → Paces c ((step ops s c).1) ((step ops s c).0)
    step_paces = step_becomes ops order id s turn Paces
        (λ c reply new o says stay like next keeps rest e. none_prior c reply new says.prior_is (none_comes id (IsPacedIn taken new) c reply arrived those back those [] says.came_is (stay those).0 (stay those).1 (none_back id (IsPacedIn taken new) c reply arrived those back (found_in new o taken arrived those back next.named (like_record taken arrived those back s.config.shares (client_named id s.clients) o like is)))))
        (λ client info at new own none next keeps rest e. not_both keeps own)
        (λ client info at new c own named next keeps rest e. not_both keeps own)
        (λ client token params at new c d tags slack says named like assigned next last slack_is keeps rest e.
        let a : Arrival = record { token = token; params = params } in
        none_prior (Add client token params at) (Tagged tags) new says.prior_is (one_comes {T = T} id (IsPacedIn taken new) (Add client token params at) (Tagged tags) arrived those back a says.came_is refl refl (found_in new _ taken (suc arrived) (those ++ record { number = suc arrived; arrival = a } ∷ []) back next.named (arrived_client token params (effective s at) (rules_of.share_floor ops s (ops.of_moment (effective s at))) c d tags slack named like assigned slack_is rest (e ∙ ap (λ came. came ++ rest) says.came_is)))))
        (λ at new found amount phase beyond says g named next keeps rest e.
        let more = taken + taken_in side (grants_in phase found.request.cost) in
        subst (λ n. Next id (IsPacedIn (taken + taken_in side n) new) (Pull at) (rules_of.granted found phase beyond) arrived those back) (sym says.prior_is) (none_comes id (IsPacedIn more new) (Pull at) (rules_of.granted found phase beyond) arrived those back (drop 1 those) [] refl (ap (λ b. if b then drop 1 those else those) (is_own _ says.left_is)) refl (subst (IsPacedIn more new arrived (drop 1 those)) (sym (append-nil back)) (found_in new _ more arrived (drop 1 those) back next.named (granted_client (effective s at) found amount phase beyond g named)))))
        (λ client new c own says named next keeps rest e. none_prior (Remove client) (Removed (length c.requests)) new says.prior_is (none_comes {T = T} id (IsPacedIn taken new) (Remove client) (Removed (length c.requests)) arrived those back [] [] refl (ap (λ b. if b then [] else those) own) refl (subst (IsPacedIn taken new arrived []) (sym (append-nil back)) (found_in new _ taken arrived [] back next.named (removed_client c named)))))
        (λ client token counting new c own named next keeps rest e. none_prior (Cancel client token counting) (Removed (length (filter (cancels.has_token token) c.requests))) new refl (cancel_paces client token counting (length (filter (cancels.has_token token) c.requests)) new own (found_in new _ taken arrived (others token) (back ++ taken_with token counting) next.named (cancelled_client token counting c named))))
