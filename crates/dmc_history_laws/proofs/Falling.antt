-- What a cancel makes of a client's tags: none rises, no request passes another, and no slack falls below 0.
use Rattle.std.proofs.Common.{◌≡◌, ℕ, Bool, true, false, ◌&&◌, cond, List, [], ◌∷◌, Option, Some, None, refl, sym, ap, subst}
use Rattle.std.specs.Prelude.{IfSome, ⊤, if◌then◌else◌, is_some}
use Rattle.std.specs.List.{AllByRecursion}
use Rattle.std.specs.Option.{unwrap_or, option_map, option_map_or}
use Rattle.std.specs.Ordering.{is_gt, is_lt, ord_min}
use Rattle.std.specs.Cmp.{IsTotalOrder}
use Rattle.std.proofs.lemmas.Cmp.{upto}
use Rattle.dmc_types.specs.declared.ids.Token.{Token}
use Rattle.dmc_tag.specs.Cancel as cancels
use Rattle.dmc_tag.specs.Cancel.{level, lower, has_token}
use Rattle.dmc_tag.specs.Order.{AtMost}
use Rattle.dmc_tag.specs.Rules.{above, slack_behind}
use Rattle.dmc_tag.specs.Tag.{Fraction, Tagging, IsExact}
use Rattle.dmc_tag.specs.declared.cancel.Before.{Before}
use Rattle.dmc_tag.specs.declared.cancel.Befores.{Befores}
use Rattle.dmc_tag.specs.declared.cancel.Level.{Level}
use Rattle.dmc_tag.specs.declared.plain.Previous.{Previous}
use Rattle.dmc_tag.specs.declared.plain.QueuedRequest.{QueuedRequest}
use Rattle.dmc_tag.specs.declared.plain.Slack.{Slack}
use Rattle.dmc_tag.proofs.TagOrder.{not_behind}
use Rattle.dmc_tag.proofs.Upto.{IsUpto, at_most_itself}
use Rattle.dmc_lemmas.proofs.Lists.{all_as, all_both}
use Rattle.dmc_lemmas.proofs.Orderings.{less_if_lt}
use Rattle.dmc_history_laws.proofs.Pairs.{Pairwise}
use Rattle.dmc_history_laws.proofs.Scale.{NotBelow0, above_not_below, falls_behind, left_not_below, less_under}

-- ---- the kinds of tags

pub data Kind : Type 0 where
  reservation : Kind
  limit : Kind
  share : Kind

abbrev pub tag_in : {T : Type 0} → Kind → QueuedRequest T → Option T
tag_in reservation r = r.tags.r
tag_in limit r = Some r.tags.l
tag_in share r = Some r.tags.p

abbrev pub slack_in : {T : Type 0} → Kind → Slack T → T
slack_in reservation slack = slack.r
slack_in limit slack = slack.l
slack_in share slack = slack.p

abbrev pub previous_in : {T : Type 0} → Kind → Previous T → T
previous_in reservation previous = previous.r
previous_in limit previous = previous.l
previous_in share previous = previous.p

abbrev pub before_in : {T : Type 0} → Kind → Befores T → Option (Before T)
before_in reservation befores = befores.r
before_in limit befores = befores.l
before_in share befores = befores.p

module _ {T : Type 0} (ops : Tagging T) where
  -- no slack is below 0
  abbrev pub IsSlack : Slack T → Type 0
  IsSlack slack = (k : Kind) → AtMost ops (ops.of_moment 0) (slack_in k slack)

  -- ---- one pass over a client's requests, read for one kind

  -- what became of a tag, for the request behind; without a tag, what became of the one before
  abbrev pub passed : Bool → T → Option (Before T) → Option T → T → Option (Before T)
  passed cancelled charged before tag slack = option_map_or (λ t. Some (cancels.before_next ops cancelled charged before (level t slack))) tag before

  pub passes_on : (k : Kind) (cancelled : Bool) (charged : Slack T) (befores : Befores T) (r : QueuedRequest T) → before_in k (cancels.befores_next ops cancelled charged befores r) ≡ passed cancelled (slack_in k charged) (before_in k befores) (tag_in k r) (slack_in k r.slack)
  passes_on reservation cancelled charged befores r = refl
  passes_on limit cancelled charged befores r = refl
  passes_on share cancelled charged befores r = refl

  pub tag_falls : (k : Kind) (befores : Befores T) (r : QueuedRequest T) → tag_in k (cancels.fallen_request ops befores r) ≡ option_map (λ t. (cancels.fallen ops (before_in k befores) (level t (slack_in k r.slack))).tag) (tag_in k r)
  tag_falls reservation befores r = refl
  tag_falls limit befores r = refl
  tag_falls share befores r = refl

  pub slack_falls : (k : Kind) (befores : Befores T) (r : QueuedRequest T) → slack_in k (cancels.fallen_request ops befores r).slack ≡ option_map_or (λ t. (cancels.fallen ops (before_in k befores) (level t (slack_in k r.slack))).slack) (tag_in k r) (slack_in k r.slack)
  slack_falls reservation befores r = refl
  slack_falls limit befores r = refl
  slack_falls share befores r = refl

  -- what the previous tag and its slack become
  abbrev pub last_of : Kind → Befores T → Previous T → Level T
  last_of k befores previous = cancels.fallen ops (before_in k befores) (level (previous_in k previous) (slack_in k previous.slack))

  pub previous_falls : (k : Kind) (befores : Befores T) (cancelled : Bool) (previous : Previous T) → previous_in k (cancels.fallen_previous ops befores cancelled previous) ≡ (last_of k befores previous).tag
  previous_falls reservation befores cancelled previous = refl
  previous_falls limit befores cancelled previous = refl
  previous_falls share befores cancelled previous = refl

  pub previous_slack_falls : (k : Kind) (befores : Befores T) (cancelled : Bool) (previous : Previous T) → slack_in k (cancels.fallen_previous ops befores cancelled previous).slack ≡ (last_of k befores previous).slack
  previous_slack_falls reservation befores cancelled previous = refl
  previous_slack_falls limit befores cancelled previous = refl
  previous_slack_falls share befores cancelled previous = refl

module _ {T : Type 0} (ops : Tagging T) (token : Token) (charged : ℕ → Slack T) (P : QueuedRequest T → Type 0) (keeps : (befores : Befores T) (r : QueuedRequest T) → P r → P (cancels.fallen_request ops befores r)) where
  -- what a change of its tags keeps of a request is so of those that stay
  pub all_stay : (befores : Befores T) (rs : List (QueuedRequest T)) → AllByRecursion P rs → AllByRecursion P (cancels.staying ops token charged befores rs)
  all_stay befores [] h = tt
  all_stay befores (r ∷ rs) h = by (has_token token r) (all_stay (cancels.befores_next ops (has_token token r) (charged r.cost) befores r) rs h.1) where
    by : (b : Bool) → AllByRecursion P (cancels.staying ops token charged (cancels.befores_next ops b (charged r.cost) befores r) rs)
        → AllByRecursion P (if b then cancels.staying ops token charged (cancels.befores_next ops b (charged r.cost) befores r) rs else cancels.fallen_request ops befores r ∷ cancels.staying ops token charged (cancels.befores_next ops b (charged r.cost) befores r) rs)
    by true more = more
    by false more = (keeps befores r h.0, more)

module _ {T : Type 0} (ops : Tagging T) (fraction : T → Fraction) (is_value : Fraction → Type 0) (exact : IsExact ops fraction is_value) (order : IsTotalOrder ops.compare) where
  abbrev IsNot0 : T → Type 0
  IsNot0 a = NotBelow0 ops fraction is_value exact a

  -- ---- the lesser of two tags

  pub min_under_first : (a b : T) → AtMost ops (ord_min ops.compare a b) a
  min_under_first a b = by (is_lt (ops.compare b a)) refl where
    by : (l : Bool) → is_lt (ops.compare b a) ≡ l → AtMost ops (cond l b a) a
    by true e = ap is_gt (less_if_lt _ e)
    by false e = at_most_itself ops order a

  pub min_under_second : (a b : T) → AtMost ops (ord_min ops.compare a b) b
  min_under_second a b = by (is_lt (ops.compare b a)) refl where
    by : (l : Bool) → is_lt (ops.compare b a) ≡ l → AtMost ops (cond l b a) b
    by true e = at_most_itself ops order b
    by false e = not_behind ops fraction is_value exact order a b _ refl e

  pub min_not_below : (a b : T) → IsNot0 a → IsNot0 b → IsNot0 (ord_min ops.compare a b)
  min_not_below a b h k = by (is_lt (ops.compare b a)) where
    by : (l : Bool) → IsNot0 (cond l b a)
    by true = k
    by false = h

  -- ---- a tag and its slack, less an amount

  record Lowered (before after : Level T) : Type 0 where
    under : AtMost ops after.tag before.tag
    left : IsNot0 after.slack

  lowered : (amount : T) (at : Level T) → IsNot0 amount → AtMost ops amount at.slack → Lowered at (lower ops amount at)
  lowered amount at some most = by (ops.minus at.tag amount) (ops.minus at.slack amount) refl refl where
    stays : Lowered at at
    stays = record { under = at_most_itself ops order at.tag; left = upto order _ amount at.slack some most }

    by : (o p : Option T) → ops.minus at.tag amount ≡ o → ops.minus at.slack amount ≡ p → Lowered at (if is_some o && is_some p then record { tag = unwrap_or o at.tag; slack = unwrap_or p at.slack } else at)
    by None p e f = stays
    by (Some x) None e f = stays
    by (Some x) (Some y) e f = record { under = less_under ops fraction is_value exact at.tag amount x e some; left = left_not_below ops fraction is_value exact at.slack amount y f most }

  -- it does not fall past where the tag before is, if that fell as far
  lowered_behind : (was is amount : T) (at : Level T) → AtMost ops was at.tag → AtMost ops is was → AtMost ops amount (above ops was is) → AtMost ops is (lower ops amount at).tag
  lowered_behind was is amount at follows fell most = by (ops.minus at.tag amount) (is_some (ops.minus at.slack amount)) refl where
    stays : AtMost ops is at.tag
    stays = upto order is was at.tag fell follows

    by : (o : Option T) (b : Bool) → ops.minus at.tag amount ≡ o → AtMost ops is (if is_some o && b then record { tag = unwrap_or o at.tag; slack = unwrap_or (ops.minus at.slack amount) at.slack } else at).tag
    by None b e = stays
    by (Some x) false e = stays
    by (Some x) true e = falls_behind ops fraction is_value exact was is at.tag amount x follows fell most e

  -- ---- one tag, after the one before it

  -- what became of the tag before: it is not above what it was, and its slack is not below 0
  abbrev pub IsFallen : Option (Before T) → Type 0
  IsFallen None = ⊤
  IsFallen (Some before) = AtMost ops before.level.tag before.was × IsNot0 before.level.slack

  -- the tag is not below what the one before was, or now is
  abbrev pub AfterWas : Option (Before T) → T → Type 0
  AfterWas None t = ⊤
  AfterWas (Some before) t = AtMost ops before.was t

  abbrev pub AfterIs : Option (Before T) → T → Type 0
  AfterIs None t = ⊤
  AfterIs (Some before) t = AtMost ops before.level.tag t

  pub record Falls (before : Option (Before T)) (was is : Level T) : Type 0 where
    pub under : AtMost ops is.tag was.tag
    pub left : IsNot0 is.slack
    pub after : AfterIs before is.tag

  -- behind a cancelled request the slack is less
  pub slack_left : (cancelled : Bool) (left slack : T) → IsNot0 left → IsNot0 slack → IsNot0 (slack_behind ops cancelled left slack)
  slack_left true left slack h k = min_not_below left slack h k
  slack_left false left slack h k = k

  pub falls : (before : Option (Before T)) (at : Level T) → IsFallen before → AfterWas before at.tag → IsNot0 at.slack → Falls before at (cancels.fallen ops before at)
  falls None at fell follows some =
      let none = ops.of_moment 0 in
      let least = lowered (ord_min ops.compare none at.slack) at (min_not_below none at.slack (at_most_itself ops order none) some) (min_under_second none at.slack) in
      record { under = least.under; left = least.left; after = tt }
  falls (Some before) at fell follows some =
      let fall = above ops before.was before.level.tag in
      let amount = ord_min ops.compare fall at.slack in
      let least = lowered amount at (min_not_below fall at.slack (above_not_below ops fraction is_value exact before.was before.level.tag fell.0) some) (min_under_second fall at.slack) in
      record {
        under = least.under;
        left = slack_left before.cancelled before.level.slack _ fell.1 least.left;
        after = lowered_behind before.was before.level.tag amount at follows fell.0 (min_under_first fall at.slack);
      }

  -- the place of a cancelled request
  gives : (charged : T) (before : Option (Before T)) (was at : Level T) → IsNot0 charged → Falls before was at → Falls before was (cancels.without_charge ops charged before at)
  gives charged None was at some h =
      let least = lowered (ord_min ops.compare charged at.slack) at (min_not_below charged at.slack some h.left) (min_under_second charged at.slack) in
      record { under = upto order _ at.tag was.tag least.under h.under; left = least.left; after = tt }
  gives charged (Some before) was at some h =
      let past = above ops at.tag before.level.tag in
      let most = ord_min ops.compare past at.slack in
      let amount = ord_min ops.compare charged most in
      let upto_most = min_under_second charged most in
      let least = lowered amount at (min_not_below charged most some (min_not_below past at.slack (above_not_below ops fraction is_value exact at.tag before.level.tag h.after) h.left)) (upto order amount most at.slack upto_most (min_under_second past at.slack)) in
      record {
        under = upto order _ at.tag was.tag least.under h.under;
        left = least.left;
        after = lowered_behind at.tag before.level.tag amount at (at_most_itself ops order at.tag) h.after (upto order amount most past upto_most (min_under_first past at.slack));
      }

  goes_to : (cancelled : Bool) (charged : T) (before : Option (Before T)) (at : Level T) → IsNot0 charged → Falls before at (cancels.fallen ops before at) → Falls before at (cancels.level_after ops cancelled charged before at)
  goes_to true charged before at some h = gives charged before at (cancels.fallen ops before at) some h
  goes_to false charged before at some h = h

  -- ---- a request is passed

  record Passes (before next : Option (Before T)) (tag : Option T) : Type 0 where
    fallen : IsFallen next
    -- what follows it followed the one before
    follows : (t : T) → AfterWas before t → IfSome tag (λ x. AtMost ops x t) → AfterWas next t
    back : (t : T) → AfterIs next t → AfterIs before t

  passes : (cancelled : Bool) (charged : T) (before : Option (Before T)) (tag : Option T) (slack : T) → IsNot0 charged → IsFallen before → IfSome tag (AfterWas before) → IsNot0 slack → Passes before (passed ops cancelled charged before tag slack) tag
  passes cancelled charged before None slack paid fell follows some = record { fallen = fell; follows = λ t h _. h; back = λ t h. h }
  passes cancelled charged before (Some x) slack paid fell follows some =
      let now = goes_to cancelled charged before (level x slack) paid (falls before (level x slack) fell follows some) in
      record { fallen = (now.under, now.left); follows = λ t _ h. h; back = λ t h. further before _ t now.after h }
    where
      further : (before : Option (Before T)) (x t : T) → AfterIs before x → AtMost ops x t → AfterIs before t
      further None x t h k = tt
      further (Some b) x t h k = upto order b.level.tag x t h k

  -- ---- all requests of a client

  module _ (k : Kind) (token : Token) (charged : ℕ → Slack T) (paid : (cost : ℕ) → IsNot0 (slack_in k (charged cost))) where
    abbrev Requests : Type 0
    Requests = List (QueuedRequest T)

    abbrev before : Befores T → Option (Before T)
    before befores = before_in k befores

    abbrev Upto : QueuedRequest T → QueuedRequest T → Type 0
    Upto x z = IsUpto ops (tag_in k x) (tag_in k z)

    -- what is so of requests and of what became of those before
    pub record Are (befores : Befores T) (rs : Requests) (previous : Previous T) : Type 0 where
      pub fallen : IsFallen (before befores)
      pub follow : AllByRecursion (λ r. IfSome (tag_in k r) (AfterWas (before befores))) rs
      pub last : AfterWas (before befores) (previous_in k previous)
      pub pairs : Pairwise Upto rs
      pub under : AllByRecursion (λ r. IfSome (tag_in k r) (λ t. AtMost ops t (previous_in k previous))) rs
      pub slacks : AllByRecursion (λ r. IsNot0 (slack_in k r.slack)) rs
      pub left : IsNot0 (slack_in k previous.slack)

    -- so it is of those that stay, whose last one is no lower than this level
    pub record Stay (befores : Befores T) (staying : Requests) (last : Level T) : Type 0 where
      pub after : AfterIs (before befores) last.tag
      pub follow : AllByRecursion (λ r. IfSome (tag_in k r) (AfterIs (before befores))) staying
      pub pairs : Pairwise Upto staying
      pub under : AllByRecursion (λ r. IfSome (tag_in k r) (λ t. AtMost ops t last.tag)) staying
      pub slacks : AllByRecursion (λ r. IsNot0 (slack_in k r.slack)) staying
      pub left : IsNot0 last.slack

    passes_one : (befores : Befores T) (r : QueuedRequest T) (rs : Requests) (previous : Previous T) (cancelled : Bool) → Are befores (r ∷ rs) previous → Passes (before befores) (before (cancels.befores_next ops cancelled (charged r.cost) befores r)) (tag_in k r)
    passes_one befores r rs previous cancelled are = subst (λ next. Passes (before befores) next (tag_in k r)) (sym (passes_on ops k cancelled (charged r.cost) befores r))
        (passes cancelled (slack_in k (charged r.cost)) (before befores) (tag_in k r) (slack_in k r.slack) (paid r.cost) are.fallen are.follow.0 are.slacks.0)

    -- what is so of the requests behind
    pub rest_are : (befores : Befores T) (r : QueuedRequest T) (rs : Requests) (previous : Previous T) (cancelled : Bool) → Are befores (r ∷ rs) previous → Are (cancels.befores_next ops cancelled (charged r.cost) befores r) rs previous
    rest_are befores r rs previous cancelled are =
        let p = passes_one befores r rs previous cancelled are in
        record {
          fallen = p.fallen;
          follow = all_as _ _ (λ w h. follows_too p (tag_in k w) h.0 h.1) rs (all_both _ _ rs are.follow.1 are.pairs.0);
          last = p.follows (previous_in k previous) are.last are.under.0;
          pairs = are.pairs.1;
          under = are.under.1;
          slacks = are.slacks.1;
          left = are.left;
        }
      where
        upto_of : (a : Option T) (t : T) → IsUpto ops a (Some t) → IfSome a (λ x. AtMost ops x t)
        upto_of None t h = tt
        upto_of (Some x) t h = h

        follows_too : {next : Option (Before T)} → Passes (before befores) next (tag_in k r) → (o : Option T) → IfSome o (AfterWas (before befores)) → IsUpto ops (tag_in k r) o → IfSome o (AfterWas next)
        follows_too p None h u = tt
        follows_too p (Some t) h u = p.follows t h (upto_of (tag_in k r) t u)

    -- what has no such tag stays without one
    none_stay : (befores : Befores T) (rs : Requests) → AllByRecursion (λ r. IsUpto ops None (tag_in k r)) rs → AllByRecursion (λ r. IsUpto ops None (tag_in k r)) (cancels.staying ops token charged befores rs)
    none_stay = all_stay ops token charged (λ r. IsUpto ops None (tag_in k r)) (λ befores r h. subst (IsUpto ops None) (sym (tag_falls ops k befores r)) (none_of (tag_in k r) _ h)) where
      none_of : (o : Option T) (f : T → T) → IsUpto ops None o → IsUpto ops None (option_map f o)
      none_of None f h = refl
      none_of (Some t) f h = cc

    each_of : (A : Type 0) (P : QueuedRequest T → Type 0) (xs : Requests) → (A → AllByRecursion P xs) → AllByRecursion (λ x. A → P x) xs
    each_of A P [] h = tt
    each_of A P (x ∷ xs) h = ((λ a. (h a).0), each_of A P xs (λ a. (h a).1))

    -- a request that stays, in front of those behind it
    module _ (befores : Befores T) (r : QueuedRequest T) (rs others : Requests) (previous : Previous T) (last : Level T) (are : Are befores (r ∷ rs) previous) where
      abbrev next : Befores T
      next = cancels.befores_next ops false (charged r.cost) befores r

      abbrev fallen : QueuedRequest T
      fallen = cancels.fallen_request ops befores r

      falls_to : (t : T) → tag_in k r ≡ Some t → Falls (before befores) (level t (slack_in k r.slack)) (cancels.fallen ops (before befores) (level t (slack_in k r.slack)))
      falls_to t e = falls (before befores) (level t (slack_in k r.slack)) are.fallen (subst (λ o. IfSome o (AfterWas (before befores))) e are.follow.0) are.slacks.0

      first_follows : IfSome (tag_in k fallen) (AfterIs (before befores))
      first_follows = subst (λ o. IfSome o (AfterIs (before befores))) (sym (tag_falls ops k befores r)) (by (tag_in k r) refl) where
        by : (o : Option T) → tag_in k r ≡ o → IfSome (option_map (λ t. (cancels.fallen ops (before befores) (level t (slack_in k r.slack))).tag) o) (AfterIs (before befores))
        by None e = tt
        by (Some t) e = (falls_to t e).after

      first_slack : IsNot0 (slack_in k fallen.slack)
      first_slack = subst IsNot0 (sym (slack_falls ops k befores r)) (by (tag_in k r) refl) where
        by : (o : Option T) → tag_in k r ≡ o → IsNot0 (option_map_or (λ t. (cancels.fallen ops (before befores) (level t (slack_in k r.slack))).slack) o (slack_in k r.slack))
        by None e = are.slacks.0
        by (Some t) e = (falls_to t e).left

      first_under : AfterIs (before next) last.tag → IfSome (tag_in k fallen) (λ t. AtMost ops t last.tag)
      first_under h = subst (λ o. IfSome o (λ t. AtMost ops t last.tag)) (sym (tag_falls ops k befores r)) (by (tag_in k r) (subst (λ b. AfterIs b last.tag) (passes_on ops k false (charged r.cost) befores r) h)) where
        by : (o : Option T) → AfterIs (passed ops false (slack_in k (charged r.cost)) (before befores) o (slack_in k r.slack)) last.tag → IfSome (option_map (λ t. (cancels.fallen ops (before befores) (level t (slack_in k r.slack))).tag) o) (λ t. AtMost ops t last.tag)
        by None h = tt
        by (Some t) h = h

      first_upto : Stay next others last → AllByRecursion (λ w. IsUpto ops None (tag_in k r) → IsUpto ops None (tag_in k w)) others → AllByRecursion (Upto fallen) others
      first_upto stay none = all_as _ (Upto fallen) (λ w h. one w h.0 h.1) others (all_both _ _ others stay.follow none) where
        by : (o p : Option T) → IfSome p (AfterIs (passed ops false (slack_in k (charged r.cost)) (before befores) o (slack_in k r.slack))) → (IsUpto ops None o → IsUpto ops None p) → IsUpto ops (option_map (λ t. (cancels.fallen ops (before befores) (level t (slack_in k r.slack))).tag) o) p
        by None p h none = none refl
        by (Some t) None h none = refl
        by (Some t) (Some u) h none = h

        one : (w : QueuedRequest T) → IfSome (tag_in k w) (AfterIs (before next)) → (IsUpto ops None (tag_in k r) → IsUpto ops None (tag_in k w)) → Upto fallen w
        one w h none = subst (λ o. IsUpto ops o (tag_in k w)) (sym (tag_falls ops k befores r)) (by (tag_in k r) (tag_in k w) (subst (λ b. IfSome (tag_in k w) (AfterIs b)) (passes_on ops k false (charged r.cost) befores r) h) none)

    abbrev others_of : Befores T → QueuedRequest T → Requests → Bool → Requests
    others_of befores r rs b = cancels.staying ops token charged (cancels.befores_next ops b (charged r.cost) befores r) rs

    abbrev end_of : Befores T → QueuedRequest T → Requests → Previous T → Bool → Level T
    end_of befores r rs previous b = last_of ops k (cancels.befores_after ops token charged (cancels.befores_next ops b (charged r.cost) befores r) rs) previous

    -- no request passes another, nor the previous tag
    pub stay : (befores : Befores T) (rs : Requests) (previous : Previous T) → Are befores rs previous → Stay befores (cancels.staying ops token charged befores rs) (last_of ops k (cancels.befores_after ops token charged befores rs) previous)
    stay befores [] previous are =
        let last = falls (before befores) (level (previous_in k previous) (slack_in k previous.slack)) are.fallen are.last are.left in
        record { after = last.after; follow = tt; pairs = tt; under = tt; slacks = tt; left = last.left }
    stay befores (r ∷ rs) previous are = by (has_token token r)
        (stay (cancels.befores_next ops (has_token token r) (charged r.cost) befores r) rs previous (rest_are befores r rs previous (has_token token r) are))
        (λ none. none_stay (cancels.befores_next ops (has_token token r) (charged r.cost) befores r) rs (all_as _ _ (λ w h. without (tag_in k r) (tag_in k w) none h) rs are.pairs.0))
      where
        without : (o p : Option T) → IsUpto ops None o → IsUpto ops o p → IsUpto ops None p
        without None p none h = h
        without (Some t) p none h = cc

        all_back : (b : Bool) → AllByRecursion (λ w. IfSome (tag_in k w) (AfterIs (before (cancels.befores_next ops b (charged r.cost) befores r)))) (others_of befores r rs b) → AllByRecursion (λ w. IfSome (tag_in k w) (AfterIs (before befores))) (others_of befores r rs b)
        all_back b h = all_as _ _ (λ w. one (tag_in k w)) (others_of befores r rs b) h where
          one : (o : Option T) → IfSome o (AfterIs (before (cancels.befores_next ops b (charged r.cost) befores r))) → IfSome o (AfterIs (before befores))
          one None h = tt
          one (Some t) h = (passes_one befores r rs previous b are).back t h

        by : (b : Bool) → Stay (cancels.befores_next ops b (charged r.cost) befores r) (others_of befores r rs b) (end_of befores r rs previous b) → (IsUpto ops None (tag_in k r) → AllByRecursion (λ w. IsUpto ops None (tag_in k w)) (others_of befores r rs b)) → Stay befores (if b then others_of befores r rs b else cancels.fallen_request ops befores r ∷ others_of befores r rs b) (end_of befores r rs previous b)
        by true is none = record {
          after = (passes_one befores r rs previous true are).back _ is.after;
          follow = all_back true is.follow;
          pairs = is.pairs;
          under = is.under;
          slacks = is.slacks;
          left = is.left;
        }
        by false is none = record {
          after = (passes_one befores r rs previous false are).back _ is.after;
          follow = (first_follows befores r rs (others_of befores r rs false) previous (end_of befores r rs previous false) are, all_back false is.follow);
          pairs = (first_upto befores r rs (others_of befores r rs false) previous (end_of befores r rs previous false) are is (each_of _ _ (others_of befores r rs false) none), is.pairs);
          under = (first_under befores r rs (others_of befores r rs false) previous (end_of befores r rs previous false) are is.after, is.under);
          slacks = (first_slack befores r rs (others_of befores r rs false) previous (end_of befores r rs previous false) are, is.slacks);
          left = is.left;
        }

    -- no tag rises
    pub lower_stay : (Q : T → Type 0) → ((a b : T) → AtMost ops a b → Q b → Q a) → (befores : Befores T) (rs : Requests) (previous : Previous T) → Are befores rs previous → AllByRecursion (λ r. IfSome (tag_in k r) Q) rs → AllByRecursion (λ r. IfSome (tag_in k r) Q) (cancels.staying ops token charged befores rs)
    lower_stay Q down befores [] previous are h = tt
    lower_stay Q down befores (r ∷ rs) previous are h = by (has_token token r) (lower_stay Q down (cancels.befores_next ops (has_token token r) (charged r.cost) befores r) rs previous (rest_are befores r rs previous (has_token token r) are) h.1) where
      mine : (o : Option T) → tag_in k r ≡ o → IfSome o Q → IfSome (option_map (λ t. (cancels.fallen ops (before befores) (level t (slack_in k r.slack))).tag) o) Q
      mine None e q = tt
      mine (Some t) e q = down _ t (falls_to befores r rs [] previous (end_of befores r rs previous false) are t e).under q

      by : (b : Bool) → AllByRecursion (λ r. IfSome (tag_in k r) Q) (others_of befores r rs b) → AllByRecursion (λ r. IfSome (tag_in k r) Q) (if b then others_of befores r rs b else cancels.fallen_request ops befores r ∷ others_of befores r rs b)
      by true more = more
      by false more = (subst (λ o. IfSome o Q) (sym (tag_falls ops k befores r)) (mine (tag_in k r) refl h.0), more)
