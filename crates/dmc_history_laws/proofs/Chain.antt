-- A cancel, request by request: how far it lowers the tags behind a_i is covered by the slacks from a_i on and by what it gives back.
use Rattle.std.proofs.Common.{◌≡◌, ℕ, ◌+◌, ◌*◌, Bool, true, false, ◌&&◌, ◌||◌, cond, List, [], ◌∷◌, Option, Some, None, refl, sym, ap, ◌∙◌, subst, inl, inr, arith}
use Rattle.std.specs.Prelude.{ℤ, pos, ◌-ℤ◌, ◌⊎◌, IfSome, ⊤, if◌then◌else◌, is_some}
use Rattle.std.specs.Option.{unwrap_or, option_map, option_map_or}
use Rattle.std.specs.Ordering.{is_lt, ord_min}
use Rattle.std.specs.Cmp.{IsTotalOrder}
use Rattle.std.proofs.lemmas.Cmp.{upto}
use Rattle.dmc_types.specs.declared.ids.Token.{Token}
use Rattle.dmc_tag.specs.Cancel as cancels
use Rattle.dmc_tag.specs.Cancel.{fall_of, level, lower, has_token}
use Rattle.dmc_tag.specs.Order.{AtMost}
use Rattle.dmc_tag.specs.Rules.{above, slack_behind}
use Rattle.dmc_tag.specs.Tag.{Fraction, Tagging, IsExact}
use Rattle.dmc_tag.specs.declared.cancel.Before.{Before}
use Rattle.dmc_tag.specs.declared.cancel.Befores.{Befores}
use Rattle.dmc_tag.specs.declared.cancel.Level.{Level}
use Rattle.dmc_tag.specs.declared.plain.Previous.{Previous}
use Rattle.dmc_tag.specs.declared.plain.QueuedRequest.{QueuedRequest}
use Rattle.dmc_tag.specs.declared.plain.Slack.{Slack}
use Rattle.dmc_tag.proofs.Upto.{at_most_itself}
use Rattle.dmc_history_laws.proofs.Falling.{Kind, tag_in, slack_in, previous_in, before_in, passed, passes_on, tag_falls, slack_falls, previous_falls, previous_slack_falls, last_of, IsFallen, AfterWas, Falls, falls, Are, rest_are, min_under_first, min_under_second, min_not_below}
use Rattle.dmc_history_laws.proofs.Past.{IsBy, IsFar, IsWithin, IsWorth, HasRoom, far_lowered, within_lowered, far_itself, within_itself, far_twice, within_twice, far_from, room_behind, by_after, far_under, by_under, far_less}
use Rattle.dmc_history_laws.proofs.Side.{level as rate_level, level_taken}
use Rattle.dmc_history_laws.proofs.Scale.{NotBelow0, above_not_below, less_under}

-- ---- what is known of a queued request

-- Before a_i, a_i, or behind it. Behind it: what was sent from a_i up to it, and how much of that was given back.
pub data Mark : Type 0 where
  earlier : Mark
  itself : Mark
  later : (sent back : ℕ) → Mark

-- what a cancel of it gives back
abbrev pub back_by : (ℕ → ℕ) → Mark → ℕ → ℕ
back_by counted earlier cost = 0
back_by counted itself cost = 0
back_by counted (later sent back) cost = counted cost

abbrev pub next_back : (ℕ → ℕ) → Bool → ℕ → Mark → ℕ → ℕ
next_back counted cancelled n m cost = if cancelled then n + back_by counted m cost else n

-- so much was given back in front of it
abbrev pub more_back : ℕ → Mark → Mark
more_back n earlier = earlier
more_back n itself = itself
more_back n (later sent back) = later sent (back + n)

-- whether the last request has the token; of none, as before
abbrev pub last_from : {T : Type 0} → Token → Bool → List (QueuedRequest T) → Bool
last_from token flag [] = flag
last_from token flag (r ∷ rs) = last_from token (has_token token r) rs

-- ---- what a cancel makes of that, where it counts the costs in this way

module _ {T : Type 0} (token : Token) (counted : ℕ → ℕ) where
  -- what is given back by the end
  abbrev pub back_after : ℕ → List (QueuedRequest T) → List Mark → ℕ
  back_after n [] ms = n
  back_after n (r ∷ rs) [] = n
  back_after n (r ∷ rs) (m ∷ ms) = back_after (next_back counted (has_token token r) n m r.cost) rs ms

  -- the marks of those that stay
  abbrev pub marks_left : ℕ → List (QueuedRequest T) → List Mark → List Mark
  marks_left n [] ms = []
  marks_left n (r ∷ rs) [] = []
  marks_left n (r ∷ rs) (m ∷ ms) =
      let rest = marks_left (next_back counted (has_token token r) n m r.cost) rs ms in
      if has_token token r then rest else more_back n m ∷ rest

module _ {T : Type 0} (ops : Tagging T) (fraction : T → Fraction) (is_value : Fraction → Type 0) (exact : IsExact ops fraction is_value) (order : IsTotalOrder ops.compare) (q : ℕ) where
  abbrev IsNot0 : T → Type 0
  IsNot0 a = NotBelow0 ops fraction is_value exact a

  abbrev By : T → T → ℤ → Type 0
  By t x m = IsBy ops fraction is_value exact q t x m

  abbrev Far : T → T → T → T → ℕ → Type 0
  Far x a t u n = IsFar ops fraction is_value exact q x a t u n

  abbrev Room : T → T → T → ℕ → Type 0
  Room x a f n = HasRoom ops fraction is_value exact q x a f n

  abbrev Within : T → T → T → ℕ → Type 0
  Within f t u n = IsWithin ops fraction is_value exact q f t u n

  -- ---- one tag and its slack

  -- less an amount
  pub record Lowers (amount : T) (was is : Level T) : Type 0 where
    pub far : Far was.slack is.slack was.tag is.tag 0
    pub within : (f : T) → AtMost ops amount f → Within f was.tag is.tag 0
    pub under : AtMost ops is.tag was.tag
    pub left : AtMost ops is.slack was.slack

  lowers : (amount : T) (at : Level T) → IsNot0 amount → Lowers amount at (lower ops amount at)
  lowers amount at some = by (ops.minus at.tag amount) (ops.minus at.slack amount) refl refl where
    stays : Lowers amount at at
    stays = record {
      far = far_itself ops fraction is_value exact q at.slack at.slack at.tag (at_most_itself ops order at.slack);
      within = λ f h. within_itself ops fraction is_value exact q f at.tag (upto order _ amount f some h);
      under = at_most_itself ops order at.tag;
      left = at_most_itself ops order at.slack;
    }

    by : (o p : Option T) → ops.minus at.tag amount ≡ o → ops.minus at.slack amount ≡ p → Lowers amount at (if is_some o && is_some p then record { tag = unwrap_or o at.tag; slack = unwrap_or p at.slack } else at)
    by None p e f = stays
    by (Some x) None e f = stays
    by (Some x) (Some y) e f = record {
      far = far_lowered ops fraction is_value exact q amount at.tag x at.slack y e f;
      within = λ z h. within_lowered ops fraction is_value exact q amount z at.tag x e h;
      under = less_under ops fraction is_value exact at.tag amount x e some;
      left = less_under ops fraction is_value exact at.slack amount y f some;
    }

  -- what a cancelled request before left, if it is one
  abbrev pub Left : Option (Before T) → T → Type 0
  Left None a = ⊥
  Left (Some b) a = (b.cancelled ≡ true) × (b.level.slack ≡ a)

  -- a tag after the one before it
  pub record Fell (before : Option (Before T)) (was is : Level T) : Type 0 where
    pub far : Far was.slack is.slack was.tag is.tag 0
    pub within : Within (fall_of ops before) was.tag is.tag 0
    pub under : AtMost ops is.tag was.tag
    pub left : AtMost ops is.slack was.slack
    pub behind : (a : T) → Left before a → AtMost ops is.slack a

  pub behind_under : (cancelled : Bool) (left slack : T) → AtMost ops (slack_behind ops cancelled left slack) slack
  behind_under true left slack = min_under_second ops fraction is_value exact order left slack
  behind_under false left slack = at_most_itself ops order slack

  pub fell : (before : Option (Before T)) (at : Level T) → IsFallen ops fraction is_value exact order before → IsNot0 at.slack → Fell before at (cancels.fallen ops before at)
  fell None at fallen some =
      let none = ops.of_moment 0 in
      let least = lowers (ord_min ops.compare none at.slack) at (min_not_below ops fraction is_value exact order none at.slack (at_most_itself ops order none) some) in
      record {
        far = least.far;
        within = least.within none (min_under_first ops fraction is_value exact order none at.slack);
        under = least.under;
        left = least.left;
        behind = λ a h. absurd h;
      }
  fell (Some before) at fallen some =
      let fall = above ops before.was before.level.tag in
      let amount = ord_min ops.compare fall at.slack in
      let least = lowers amount at (min_not_below ops fraction is_value exact order fall at.slack (above_not_below ops fraction is_value exact before.was before.level.tag fallen.0) some) in
      let lower_to = lower ops amount at in
      let capped = behind_under before.cancelled before.level.slack lower_to.slack in
      record {
        far = far_under ops fraction is_value exact q at.slack lower_to.slack _ at.tag lower_to.tag 0 capped least.far;
        within = least.within fall (min_under_first ops fraction is_value exact order fall at.slack);
        under = least.under;
        left = upto order _ lower_to.slack at.slack capped least.left;
        behind = λ a h. subst (AtMost ops (slack_behind ops before.cancelled before.level.slack lower_to.slack)) h.1 (subst (λ b. AtMost ops (slack_behind ops b before.level.slack lower_to.slack) before.level.slack) (sym h.0) (min_under_first ops fraction is_value exact order before.level.slack lower_to.slack));
      }

  -- the place of a cancelled request
  pub gives : (charged : T) (before : Option (Before T)) (was at : Level T) → IsNot0 charged → Falls ops fraction is_value exact order before was at → Lowers (ord_min ops.compare charged (cancels.most_given ops before at)) at (cancels.without_charge ops charged before at)
  gives charged None was at some h = lowers _ at (min_not_below ops fraction is_value exact order charged at.slack some h.left)
  gives charged (Some before) was at some h =
      let past = above ops at.tag before.level.tag in
      lowers _ at (min_not_below ops fraction is_value exact order charged (ord_min ops.compare past at.slack) some (min_not_below ops fraction is_value exact order past at.slack (above_not_below ops fraction is_value exact at.tag before.level.tag h.after) h.left))

  -- ---- the slacks from a_i on

  -- the least of them
  abbrev pub least : Option T → T → T
  least None slack = slack
  least (Some a) slack = ord_min ops.compare a slack

  pub least_is : (least_so_far : Option T) (slack : T) → (least least_so_far slack ≡ slack) ⊎ (least_so_far ≡ Some (least least_so_far slack))
  least_is None slack = inl refl
  least_is (Some a) slack = by (is_lt (ops.compare slack a)) where
    by : (b : Bool) → (cond b slack a ≡ slack) ⊎ (Some a ≡ Some (cond b slack a))
    by true = inl refl
    by false = inr refl

  pub least_under : (least_so_far : Option T) (slack : T) → AtMost ops (least least_so_far slack) slack
  least_under None slack = at_most_itself ops order slack
  least_under (Some a) slack = min_under_second ops fraction is_value exact order a slack

  -- the least of those that stay, or what a cancelled request before left
  abbrev Has : Option T → Option (Before T) → T → Type 0
  Has kept before a = (kept ≡ Some a) ⊎ Left before a

  -- The least slack was the first and is the second, over those from a_i on: it is no more, and it is less by what the request before
  -- fell by, but for n/q. None of them came yet if there is none.
  abbrev pub Goes : Option T → Option T → Option (Before T) → ℕ → Type 0
  Goes None kept before n = kept ≡ None
  Goes (Some x) kept before n = (a : T) × Has kept before a × AtMost ops a x × Room x a (fall_of ops before) n

  least_has : (kept : Option T) (before : Option (Before T)) (was is : Level T) (a : T) → Fell before was is → Has kept before a → AtMost ops (least kept is.slack) a
  least_has kept before was is a f (inl e) = subst (λ o. AtMost ops (least o is.slack) a) (sym e) (min_under_first ops fraction is_value exact order a is.slack)
  least_has kept before was is a f (inr l) = upto order _ is.slack a (least_under kept is.slack) (f.behind a l)

  plus_none : (n : ℕ) → n + 0 ≡ n
  plus_none n = omega arith

  -- ---- a request stays

  module _ (n : ℕ) (least_so_far kept : Option T) (before : Option (Before T)) (was is : Level T) (f : Fell before was is) (goes : Goes least_so_far kept before n) where
    abbrev was_least : T
    was_least = least least_so_far was.slack

    abbrev is_least : T
    is_least = least kept is.slack

    record Drops : Type 0 where
      far : Far was_least is_least was.tag is.tag n
      under : AtMost ops is_least was_least

    drops : Drops
    drops = by (least_is least_so_far was.slack) where
      by : (was_least ≡ was.slack) ⊎ (least_so_far ≡ Some was_least) → Drops
      by (inl e) = record {
        far = far_less ops fraction is_value exact q was_least is_least was.tag is.tag 0 n (omega arith) (far_under ops fraction is_value exact q was_least is.slack is_least was.tag is.tag 0 (least_under kept is.slack) (subst (λ x. Far x is.slack was.tag is.tag 0) (sym e) f.far));
        under = subst (AtMost ops is_least) (sym e) (upto order is_least is.slack was.slack (least_under kept is.slack) f.left);
      }
      by (inr e) =
          let had = subst (λ o. Goes o kept before n) e goes in
          let at = least_has kept before was is had.0 f had.1 in
          record {
            far = far_under ops fraction is_value exact q was_least had.0 is_least was.tag is.tag n at (subst (Far was_least had.0 was.tag is.tag) (plus_none n) (far_from ops fraction is_value exact q was_least had.0 (fall_of ops before) was.tag is.tag n 0 had.3 f.within));
            under = upto order is_least had.0 was_least at had.2;
          }

    -- it is past the least slack as before
    past_least : (m : ℤ) → By was.tag was_least m → By is.tag is_least (m -ℤ pos n)
    past_least m h = by_after ops fraction is_value exact q was_least is_least was.tag is.tag m n drops.far h

    goes_on : (cancelled : Bool) → Goes (Some was_least) (Some is_least) (Some (record { was = was.tag; level = is; cancelled = cancelled })) n
    goes_on cancelled = (is_least, inl refl, drops.under, room_behind ops fraction is_value exact q was_least is_least was.tag is.tag n f.under drops.far)

  -- ---- a request is cancelled

  module _ (n more : ℕ) (least_so_far kept : Option T) (before : Option (Before T)) (was at is : Level T) (charged amount : T) (f : Fell before was at) (l : Lowers amount at is) (most : AtMost ops amount charged) where
    abbrev after : Option (Before T)
    after = Some (record { was = was.tag; level = is; cancelled = true })

    under_was : AtMost ops is.tag was.tag
    under_was = upto order is.tag at.tag was.tag l.under f.under

    -- it is the first from a_i on
    gone_first : Goes (Some was.slack) kept after n
    gone_first = (
      is.slack,
      inr (refl, refl),
      upto order is.slack at.slack was.slack l.left f.left,
      room_behind ops fraction is_value exact q was.slack is.slack was.tag is.tag n under_was (far_less ops fraction is_value exact q was.slack is.slack was.tag is.tag 0 n (omega arith) (far_twice ops fraction is_value exact q was.slack at.slack is.slack was.tag at.tag is.tag f.far l.far)),
    )

    gone : IsWorth ops fraction is_value exact q charged more → Goes least_so_far kept before n → Goes (Some (least least_so_far was.slack)) kept after (n + more)
    gone worth goes = by (least_is least_so_far was.slack) where
      x : T
      x = least least_so_far was.slack

      by : (x ≡ was.slack) ⊎ (least_so_far ≡ Some x) → Goes (Some x) kept after (n + more)
      by (inl e) = subst (λ z. Goes (Some z) kept after (n + more)) (sym e) (
        is.slack,
        inr (refl, refl),
        upto order is.slack at.slack was.slack l.left f.left,
        room_behind ops fraction is_value exact q was.slack is.slack was.tag is.tag (n + more) under_was (far_less ops fraction is_value exact q was.slack is.slack was.tag is.tag 0 (n + more) (omega arith) (far_twice ops fraction is_value exact q was.slack at.slack is.slack was.tag at.tag is.tag f.far l.far)),
      )
      by (inr e) =
          let had = subst (λ o. Goes o kept before n) e goes in
          let within = within_twice ops fraction is_value exact q (fall_of ops before) charged was.tag at.tag is.tag more f.within (l.within charged most) worth in
          let far = far_from ops fraction is_value exact q x had.0 (fall_of ops before) was.tag is.tag n more had.3 within in
          by_has had.0 had.1 had.2 far
        where
          by_has : (a : T) → Has kept before a → AtMost ops a x → Far x a was.tag is.tag (n + more) → Goes (Some x) kept after (n + more)
          by_has a (inl e) under far = (a, inl e, under, room_behind ops fraction is_value exact q x a was.tag is.tag (n + more) under_was far)
          by_has a (inr left) under far =
              let to = upto order is.slack at.slack a l.left (f.behind a left) in
              (is.slack, inr (refl, refl), upto order is.slack a x to under, room_behind ops fraction is_value exact q x is.slack was.tag is.tag (n + more) under_was (far_under ops fraction is_value exact q x a is.slack was.tag is.tag (n + more) to far))

  -- ---- all requests of a client

  module _ (k : Kind) (hz from taken : ℕ) where
    -- behind a_i: the level of what was sent up to it since, and of what was given back of that
    abbrev pub level_of : ℕ → ℕ → ℤ
    level_of sent back = rate_level fraction hz q from (taken + back) sent

    less_level : (sent back n : ℕ) → level_of sent back -ℤ pos (hz * n) ≡ level_of sent (back + n)
    less_level sent back n = let e : taken + back + n ≡ taken + (back + n) = omega arith in level_taken fraction hz q from (taken + back) sent n ∙ ap (λ m. rate_level fraction hz q from m sent) e

    -- The previous tag is past the least slack from a_i on, its own too behind a cancelled request.
    abbrev pub Ends : Bool → Option T → (tag slack : T) → ℤ → Type 0
    Ends true so_far tag slack m = By tag (least so_far slack) m
    Ends false None tag slack m = ⊥
    Ends false (Some a) tag slack m = By tag a m

    -- Each tag behind a_i is past its level by the least slack from a_i on.
    abbrev pub Keeps : Option T → List (QueuedRequest T) → List Mark → Previous T → (sent back : ℕ) → Type 0
    Keeps so_far [] [] previous sent back = Ends previous.cancelled so_far (previous_in k previous) (slack_in k previous.slack) (level_of sent back)
    Keeps so_far [] (m ∷ ms) previous sent back = ⊥
    Keeps so_far (r ∷ rs) [] previous sent back = ⊥
    Keeps so_far (r ∷ rs) (earlier ∷ ms) previous sent back = (so_far ≡ None) × Keeps None rs ms previous sent back
    Keeps so_far (r ∷ rs) (itself ∷ ms) previous sent back = (so_far ≡ None) × ((t : T) × (tag_in k r ≡ Some t)) × Keeps (Some (slack_in k r.slack)) rs ms previous sent back
    Keeps so_far (r ∷ rs) (later s b ∷ ms) previous sent back = ((t : T) × (tag_in k r ≡ Some t) × By t (least so_far (slack_in k r.slack)) (level_of s b)) × Keeps (Some (least so_far (slack_in k r.slack))) rs ms previous sent back

    -- ---- the previous tag

    -- the request before the previous tag was cancelled, or was not
    abbrev pub Flagged : Option T → Option (Before T) → Bool → Type 0
    Flagged None before flag = ⊤
    Flagged (Some x) None flag = ⊤
    Flagged (Some x) (Some b) flag = b.cancelled ≡ flag

    ends_fallen : (n : ℕ) (so_far kept : Option T) (before : Option (Before T)) (flag cancelled : Bool) (was is : Level T) (m : ℤ) → Fell before was is → Flagged so_far before flag → Goes so_far kept before n → Ends cancelled so_far was.tag was.slack m → Ends (cancelled || flag) kept is.tag is.slack (m -ℤ pos n)
    ends_fallen n so_far kept before flag true was is m f flagged goes h = past_least n so_far kept before was is f goes m h
    ends_fallen n None kept before flag false was is m f flagged goes h = absurd h
    ends_fallen n (Some x) kept before flag false was is m f flagged goes h =
        let far = subst (Far x goes.0 was.tag is.tag) (plus_none n) (far_from ops fraction is_value exact q x goes.0 (fall_of ops before) was.tag is.tag n 0 goes.3 f.within) in
        by flag flagged goes.0 goes.1 (by_after ops fraction is_value exact q x goes.0 was.tag is.tag m n far h)
      where
        not_so : (before : Option (Before T)) (a : T) {P : Type 0} → Flagged (Some x) before false → Left before a → P
        not_so None a e l = absurd l
        not_so (Some b) a e l = let one = sym e ∙ l.0 in cc

        by : (flag : Bool) → Flagged (Some x) before flag → (a : T) → Has kept before a → By is.tag a (m -ℤ pos n) → Ends flag kept is.tag is.slack (m -ℤ pos n)
        by true e a has h = by_under ops fraction is_value exact q a (least kept is.slack) is.tag (m -ℤ pos n) (least_has kept before was is a f has) h
        by false e a (inl kept_is) h = subst (λ o. Ends false o is.tag is.slack (m -ℤ pos n)) (sym kept_is) h
        by false e a (inr left) h = not_so before a e left

    -- ---- the pass

    module _ (token : Token) (charged : ℕ → Slack T) (paid : (cost : ℕ) → IsNot0 (slack_in k (charged cost))) (counted : ℕ → ℕ) (worth : (cost : ℕ) → IsWorth ops fraction is_value exact q (slack_in k (charged cost)) (hz * counted cost)) where
      abbrev Was : Befores T → List (QueuedRequest T) → Previous T → Type 0
      Was befores rs previous = Are ops fraction is_value exact order k token charged paid befores rs previous

      abbrev next_of : Befores T → QueuedRequest T → Bool → Befores T
      next_of befores r b = cancels.befores_next ops b (charged r.cost) befores r

      abbrev last_after : Bool → Befores T → List (QueuedRequest T) → Previous T → Previous T
      last_after flag befores rs previous = cancels.fallen_previous ops (cancels.befores_after ops token charged befores rs) (previous.cancelled || last_from token flag rs) previous

      -- what is so behind a request
      abbrev Behind : Befores T → QueuedRequest T → List (QueuedRequest T) → List Mark → Previous T → (sent back : ℕ) → Type 0
      Behind befores r rs ms previous sent back = (b : Bool) (n : ℕ) (so_far kept : Option T) → Flagged so_far (before_in k (next_of befores r b)) b → Goes so_far kept (before_in k (next_of befores r b)) (hz * n) → Keeps so_far rs ms previous sent back
          → Keeps kept (cancels.staying ops token charged (next_of befores r b) rs) (marks_left token counted n rs ms) (last_after b (next_of befores r b) rs previous) sent (back + back_after token counted n rs ms)

      module _ (n : ℕ) (kept : Option T) (befores : Befores T) (r : QueuedRequest T) (rs : List (QueuedRequest T)) (ms : List Mark) (previous : Previous T) (sent back : ℕ) (are : Was befores (r ∷ rs) previous) (rest : Behind befores r rs ms previous sent back) where
        -- the request stays, or it does not
        abbrev On : Mark → Bool → Type 0
        On m b = Keeps kept (if b then cancels.staying ops token charged (next_of befores r b) rs else cancels.fallen_request ops befores r ∷ cancels.staying ops token charged (next_of befores r b) rs)
            (if b then marks_left token counted (next_back counted b n m r.cost) rs ms else more_back n m ∷ marks_left token counted (next_back counted b n m r.cost) rs ms)
            (last_after b (next_of befores r b) rs previous) sent (back + back_after token counted (next_back counted b n m r.cost) rs ms)

        abbrev before : Option (Before T)
        before = before_in k befores

        -- a request before a_i
        on_earlier : (b : Bool) → kept ≡ None → Keeps None rs ms previous sent back → On earlier b
        on_earlier true none h = subst (λ z. Keeps kept (cancels.staying ops token charged (next_of befores r true) rs) (marks_left token counted z rs ms) (last_after true (next_of befores r true) rs previous) sent (back + back_after token counted z rs ms)) (sym (plus_none n)) (rest true n None kept tt none h)
        on_earlier false none h = (none, rest false n None None tt refl h)

        module _ (t : T) (e : tag_in k r ≡ Some t) where
          abbrev at : Level T
          at = level t (slack_in k r.slack)

          abbrev now : Level T
          now = cancels.fallen ops before at

          abbrev paid_for : T
          paid_for = slack_in k (charged r.cost)

          now_fell : Fell before at now
          now_fell = fell before at are.fallen are.slacks.0

          next_is : (b : Bool) → before_in k (next_of befores r b) ≡ Some (cancels.before_next ops b paid_for before at)
          next_is b = passes_on ops k b (charged r.cost) befores r ∙ ap (λ o. passed ops b paid_for before o (slack_in k r.slack)) e

          tag_is : tag_in k (cancels.fallen_request ops befores r) ≡ Some now.tag
          tag_is = tag_falls ops k befores r ∙ ap (option_map (λ t. (cancels.fallen ops before (level t (slack_in k r.slack))).tag)) e

          slack_is : slack_in k (cancels.fallen_request ops befores r).slack ≡ now.slack
          slack_is = slack_falls ops k befores r ∙ ap (λ o. option_map_or (λ t. (cancels.fallen ops before (level t (slack_in k r.slack))).slack) o (slack_in k r.slack)) e

          flagged : (x : T) (b : Bool) → Flagged (Some x) (before_in k (next_of befores r b)) b
          flagged x b = subst (λ o. Flagged (Some x) o b) (sym (next_is b)) refl

          to : Level T
          to = cancels.without_charge ops paid_for before now

          follows : AfterWas ops fraction is_value exact order before t
          follows = subst (λ o. IfSome o (AfterWas ops fraction is_value exact order before)) e are.follow.0

          given : Lowers (ord_min ops.compare paid_for (cancels.most_given ops before now)) now (cancels.without_charge ops paid_for before now)
          given = gives paid_for before at now (paid r.cost) (falls ops fraction is_value exact order before at are.fallen follows are.slacks.0)

          -- a_i
          on_itself : (b : Bool) → kept ≡ None → Keeps (Some (slack_in k r.slack)) rs ms previous sent back → On itself b
          on_itself true none h =
              let gone = subst (λ o. Goes (Some (slack_in k r.slack)) kept o (hz * n)) (sym (next_is true)) (gone_first (hz * n) 0 None kept before at now (cancels.without_charge ops paid_for before now) paid_for _ now_fell given (min_under_first ops fraction is_value exact order paid_for (cancels.most_given ops before now))) in
              subst (λ z. Keeps kept (cancels.staying ops token charged (next_of befores r true) rs) (marks_left token counted z rs ms) (last_after true (next_of befores r true) rs previous) sent (back + back_after token counted z rs ms)) (sym (plus_none n)) (rest true n (Some (slack_in k r.slack)) kept (flagged (slack_in k r.slack) true) gone h)
          on_itself false none h =
              let goes = subst (λ o. Goes (Some (slack_in k r.slack)) (Some now.slack) o (hz * n)) (sym (next_is false)) (goes_on (hz * n) None None before at now now_fell refl false) in
              (none, (now.tag, tag_is), subst (λ s. Keeps (Some s) (cancels.staying ops token charged (next_of befores r false) rs) (marks_left token counted n rs ms) (last_after false (next_of befores r false) rs previous) sent (back + back_after token counted n rs ms)) (sym slack_is) (rest false n (Some (slack_in k r.slack)) (Some now.slack) (flagged (slack_in k r.slack) false) goes h))

          -- a request behind it
          on_later : (so_far : Option T) (s g : ℕ) (b : Bool) → Goes so_far kept before (hz * n) → By t (least so_far (slack_in k r.slack)) (level_of s g) → Keeps (Some (least so_far (slack_in k r.slack))) rs ms previous sent back → On (later s g) b
          on_later so_far s g true goes by h =
              let x = least so_far (slack_in k r.slack) in
              let both : hz * n + hz * counted r.cost ≡ hz * (n + counted r.cost) = omega arith in
              let left = subst (λ m. Goes (Some x) kept (before_in k (next_of befores r true)) m) both (subst (λ o. Goes (Some x) kept o (hz * n + hz * counted r.cost)) (sym (next_is true)) (gone (hz * n) (hz * counted r.cost) so_far kept before at now (cancels.without_charge ops paid_for before now) paid_for _ now_fell given (min_under_first ops fraction is_value exact order paid_for (cancels.most_given ops before now)) (worth r.cost) goes)) in
              rest true (n + counted r.cost) (Some x) kept (flagged x true) left h
          on_later so_far s g false goes by h =
              let x = least so_far (slack_in k r.slack) in
              let on = subst (λ o. Goes (Some x) (Some (least kept now.slack)) o (hz * n)) (sym (next_is false)) (goes_on (hz * n) so_far kept before at now now_fell goes false) in
              let past = subst (By now.tag (least kept now.slack)) (less_level s g n) (past_least (hz * n) so_far kept before at now now_fell goes (level_of s g) by) in
              subst (λ z. ((t : T) × (tag_in k (cancels.fallen_request ops befores r) ≡ Some t) × By t (least kept z) (level_of s (g + n))) × Keeps (Some (least kept z)) (cancels.staying ops token charged (next_of befores r false) rs) (marks_left token counted n rs ms) (last_after false (next_of befores r false) rs previous) sent (back + back_after token counted n rs ms)) (sym slack_is)
              ((now.tag, tag_is, past), rest false n (Some x) (Some (least kept now.slack)) (flagged x false) on h)

      -- so it is of those that stay
      pub pass : (n : ℕ) (so_far kept : Option T) (flag : Bool) (befores : Befores T) (rs : List (QueuedRequest T)) (ms : List Mark) (previous : Previous T) (sent back : ℕ) → Was befores rs previous → Flagged so_far (before_in k befores) flag → Goes so_far kept (before_in k befores) (hz * n) → Keeps so_far rs ms previous sent back
          → Keeps kept (cancels.staying ops token charged befores rs) (marks_left token counted n rs ms) (last_after flag befores rs previous) sent (back + back_after token counted n rs ms)
      pass n so_far kept flag befores [] [] previous sent back are flagged goes h =
          let is = cancels.fallen_previous ops befores (previous.cancelled || flag) previous in
          let at : Level T = level (previous_in k previous) (slack_in k previous.slack) in
          let end = ends_fallen (hz * n) so_far kept (before_in k befores) flag previous.cancelled at (cancels.fallen ops (before_in k befores) at) (level_of sent back) (fell (before_in k befores) at are.fallen are.left) flagged goes h in
          subst (λ m. Ends (previous.cancelled || flag) kept (previous_in k is) (slack_in k is.slack) m) (less_level sent back n)
          (subst (λ t. Ends (previous.cancelled || flag) kept t (slack_in k is.slack) (level_of sent back -ℤ pos (hz * n))) (sym (previous_falls ops k befores (previous.cancelled || flag) previous))
          (subst (λ s. Ends (previous.cancelled || flag) kept (last_of ops k befores previous).tag s (level_of sent back -ℤ pos (hz * n))) (sym (previous_slack_falls ops k befores (previous.cancelled || flag) previous)) end))
      pass n so_far kept flag befores [] (m ∷ ms) previous sent back are flagged goes h = absurd h
      pass n so_far kept flag befores (r ∷ rs) [] previous sent back are flagged goes h = absurd h
      pass n so_far kept flag befores (r ∷ rs) (earlier ∷ ms) previous sent back are flagged goes h =
          on_earlier n kept befores r rs ms previous sent back are (λ b m x y. pass m x y b (next_of befores r b) rs ms previous sent back (rest_are ops fraction is_value exact order k token charged paid befores r rs previous b are)) (has_token token r) (subst (λ o. Goes o kept (before_in k befores) (hz * n)) h.0 goes) h.1
      pass n so_far kept flag befores (r ∷ rs) (itself ∷ ms) previous sent back are flagged goes h =
          on_itself n kept befores r rs ms previous sent back are (λ b m x y. pass m x y b (next_of befores r b) rs ms previous sent back (rest_are ops fraction is_value exact order k token charged paid befores r rs previous b are)) h.1.0 h.1.1 (has_token token r) (subst (λ o. Goes o kept (before_in k befores) (hz * n)) h.0 goes) h.2
      pass n so_far kept flag befores (r ∷ rs) (later s g ∷ ms) previous sent back are flagged goes h =
          on_later n kept befores r rs ms previous sent back are (λ b m x y. pass m x y b (next_of befores r b) rs ms previous sent back (rest_are ops fraction is_value exact order k token charged paid befores r rs previous b are)) h.0.0 h.0.1 so_far s g (has_token token r) goes h.0.2 h.1
