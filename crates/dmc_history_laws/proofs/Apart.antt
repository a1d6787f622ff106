-- How far the P of a client's requests are past that of one of them, x: what a cancel of others lowers them by is given back.
use Rattle.std.proofs.Common.{◌≡◌, ℕ, ◌+◌, ◌*◌, Bool, true, false, List, [], ◌∷◌, ◌++◌, map, Option, Some, None, refl, sym, subst, arith}
use Rattle.std.specs.Prelude.{ℤ, pos, ◌-ℤ◌, ⊤, if◌then◌else◌}
use Rattle.std.specs.Cmp.{IsTotalOrder}
use Rattle.std.proofs.lemmas.Cmp.{upto}
use Rattle.dmc_types.specs.declared.ids.Token.{Token}
use Rattle.dmc_tag.specs.Cancel as cancels
use Rattle.dmc_tag.specs.Cancel.{fall_of, level, has_token}
use Rattle.dmc_tag.specs.Rules.{above}
use Rattle.dmc_tag.specs.Tag.{Fraction, Tagging, IsExact}
use Rattle.dmc_tag.specs.declared.cancel.Before.{Before}
use Rattle.dmc_tag.specs.declared.cancel.Befores.{Befores}
use Rattle.dmc_tag.specs.declared.cancel.Level.{Level}
use Rattle.dmc_tag.specs.declared.plain.Previous.{Previous}
use Rattle.dmc_tag.specs.declared.plain.QueuedRequest.{QueuedRequest}
use Rattle.dmc_tag.specs.declared.plain.Slack.{Slack}
use Rattle.dmc_history_laws.proofs.Chain.{Mark, earlier, itself, later, back_after, fell, gives, marks_left, more_back, next_back}
use Rattle.dmc_history_laws.proofs.Falling.{share, Are, rest_are, falls, min_under_first}
use Rattle.dmc_history_laws.proofs.Past.{IsBy, IsFar, IsWorth, HasRoom, by_after, far_from, far_same, room_behind, within_twice}
use Rattle.dmc_history_laws.proofs.Scale.{NotBelow0}
use Rattle.dmc_history_laws.proofs.Side.{level as rate_level, level_taken}

-- x is one of them
abbrev pub HasItself : List Mark → Type 0
HasItself [] = ⊥
HasItself (earlier ∷ ms) = HasItself ms
HasItself (itself ∷ ms) = ⊤
HasItself (later sent back ∷ ms) = HasItself ms

-- if it has not left yet
abbrev pub Waits : {T : Type 0} → Option T → List Mark → Type 0
Waits None ms = HasItself ms
Waits (Some p) ms = ⊤

module _ {T : Type 0} (ops : Tagging T) (fraction : T → Fraction) (is_value : Fraction → Type 0) (exact : IsExact ops fraction is_value) (order : IsTotalOrder ops.compare) (w hz : ℕ) where
  abbrev By : T → T → ℤ → Type 0
  By t x m = IsBy ops fraction is_value exact w t x m

  abbrev Room : T → T → T → ℕ → Type 0
  Room x a f n = HasRoom ops fraction is_value exact w x a f n

  abbrev Requests : Type 0
  Requests = List (QueuedRequest T)

  -- what was sent behind x, less what was given back of that
  abbrev pub level_of : ℕ → ℕ → ℤ
  level_of sent back = rate_level fraction hz w 0 back sent

  -- Each P behind x is past that of x by its level; x is one of the requests, or has left with this P.
  abbrev pub Apart : Option T → Requests → List Mark → Previous T → (sent back : ℕ) → Type 0
  Apart None [] ms previous sent back = ⊥
  Apart None (r ∷ rs) [] previous sent back = ⊥
  Apart None (r ∷ rs) (earlier ∷ ms) previous sent back = Apart None rs ms previous sent back
  Apart None (r ∷ rs) (itself ∷ ms) previous sent back = Apart (Some r.tags.p) rs ms previous sent back
  Apart None (r ∷ rs) (later s b ∷ ms) previous sent back = ⊥
  Apart (Some p) [] [] previous sent back = By previous.p p (level_of sent back)
  Apart (Some p) [] (m ∷ ms) previous sent back = ⊥
  Apart (Some p) (r ∷ rs) [] previous sent back = ⊥
  Apart (Some p) (r ∷ rs) (earlier ∷ ms) previous sent back = ⊥
  Apart (Some p) (r ∷ rs) (itself ∷ ms) previous sent back = ⊥
  Apart (Some p) (r ∷ rs) (later s b ∷ ms) previous sent back = By r.tags.p p (level_of s b) × Apart (Some p) rs ms previous sent back

  -- ---- the same P

  pub apart_as : (so : Option T) (rs zs : Requests) (ms : List Mark) (previous last : Previous T) (sent back : ℕ) → map (λ r. r.tags.p) zs ≡ map (λ r. r.tags.p) rs → last.p ≡ previous.p → Apart so rs ms previous sent back → Apart so zs ms last sent back
  apart_as None [] zs ms previous last sent back e f h = absurd h
  apart_as None (r ∷ rs) [] ms previous last sent back e f h = cc
  apart_as None (r ∷ rs) (z ∷ zs) [] previous last sent back e f h = absurd h
  apart_as None (r ∷ rs) (z ∷ zs) (earlier ∷ ms) previous last sent back e f h = apart_as None rs zs ms previous last sent back (cc (e)) f h
  apart_as None (r ∷ rs) (z ∷ zs) (itself ∷ ms) previous last sent back e f h =
      let same : z.tags.p ≡ r.tags.p = cc in
      let rest : map (λ (r : QueuedRequest T). r.tags.p) zs ≡ map (λ (r : QueuedRequest T). r.tags.p) rs = cc in
      subst (λ p. Apart (Some p) zs ms last sent back) (sym same) (apart_as (Some r.tags.p) rs zs ms previous last sent back rest f h)
  apart_as None (r ∷ rs) (z ∷ zs) (later s b ∷ ms) previous last sent back e f h = absurd h
  apart_as (Some p) [] [] [] previous last sent back e f h = subst (λ t. By t p (level_of sent back)) (sym f) h
  apart_as (Some p) [] (z ∷ zs) [] previous last sent back e f h = cc
  apart_as (Some p) [] zs (m ∷ ms) previous last sent back e f h = absurd h
  apart_as (Some p) (r ∷ rs) [] ms previous last sent back e f h = cc
  apart_as (Some p) (r ∷ rs) (z ∷ zs) [] previous last sent back e f h = absurd h
  apart_as (Some p) (r ∷ rs) (z ∷ zs) (earlier ∷ ms) previous last sent back e f h = absurd h
  apart_as (Some p) (r ∷ rs) (z ∷ zs) (itself ∷ ms) previous last sent back e f h = absurd h
  apart_as (Some p) (r ∷ rs) (z ∷ zs) (later s b ∷ ms) previous last sent back e f h =
      let same : z.tags.p ≡ r.tags.p = cc in
      let rest : map (λ (r : QueuedRequest T). r.tags.p) zs ≡ map (λ (r : QueuedRequest T). r.tags.p) rs = cc in
      (subst (λ t. By t p (level_of s b)) (sym same) h.0, apart_as (Some p) rs zs ms previous last sent back rest f h.1)

  -- ---- a request arrives

  module _ (sent back more : ℕ) (r : QueuedRequest T) (before previous : Previous T) (last : previous.p ≡ r.tags.p) (steps : (x : T) → By before.p x (level_of sent back) → By r.tags.p x (level_of (sent + more) back)) where
    abbrev new : Mark
    new = later (sent + more) back

    pub waited : (so : Option T) (ms : List Mark) → Waits so (ms ++ new ∷ []) → Waits so ms
    waited (Some p) ms h = tt
    waited None ms h = at ms h where
      at : (ms : List Mark) → HasItself (ms ++ new ∷ []) → HasItself ms
      at [] h = absurd h
      at (earlier ∷ ms) h = at ms h
      at (itself ∷ ms) h = tt
      at (later s b ∷ ms) h = at ms h

    pub apart_more : (so : Option T) (rs : Requests) (ms : List Mark) → Apart so rs ms before sent back → Apart so (rs ++ r ∷ []) (ms ++ new ∷ []) previous (sent + more) back
    apart_more None [] ms h = absurd h
    apart_more None (z ∷ rs) [] h = absurd h
    apart_more None (z ∷ rs) (earlier ∷ ms) h = apart_more None rs ms h
    apart_more None (z ∷ rs) (itself ∷ ms) h = apart_more (Some z.tags.p) rs ms h
    apart_more None (z ∷ rs) (later s b ∷ ms) h = absurd h
    apart_more (Some p) [] [] h = let by = steps p h in (by, subst (λ t. By t p (level_of (sent + more) back)) (sym last) by)
    apart_more (Some p) [] (m ∷ ms) h = absurd h
    apart_more (Some p) (z ∷ rs) [] h = absurd h
    apart_more (Some p) (z ∷ rs) (earlier ∷ ms) h = absurd h
    apart_more (Some p) (z ∷ rs) (itself ∷ ms) h = absurd h
    apart_more (Some p) (z ∷ rs) (later s b ∷ ms) h = (h.0, apart_more (Some p) rs ms h.1)

  -- x arrives behind others
  pub apart_opened : (r : QueuedRequest T) (previous : Previous T) (rs : Requests) (ms : List Mark) → By previous.p r.tags.p (level_of 0 0) → map (λ _. earlier) rs ≡ ms → Apart None (rs ++ r ∷ []) (ms ++ itself ∷ []) previous 0 0
  apart_opened r previous [] ms h e = subst (λ ms. Apart None (r ∷ []) (ms ++ itself ∷ []) previous 0 0) e h
  apart_opened r previous (z ∷ rs) ms h e = subst (λ ms. Apart None (z ∷ (rs ++ r ∷ [])) (ms ++ itself ∷ []) previous 0 0) e (apart_opened r previous rs (map (λ _. earlier) rs) h refl)

  -- ---- requests leave

  none_itself : {X : Type 0} (p : T) (rs : Requests) (ms : List Mark) (previous : Previous T) (sent back : ℕ) → Apart (Some p) rs ms previous sent back → HasItself ms → X
  none_itself p [] [] previous sent back h k = absurd k
  none_itself p [] (m ∷ ms) previous sent back h k = absurd h
  none_itself p (r ∷ rs) [] previous sent back h k = absurd h
  none_itself p (r ∷ rs) (earlier ∷ ms) previous sent back h k = absurd h
  none_itself p (r ∷ rs) (itself ∷ ms) previous sent back h k = absurd h
  none_itself p (r ∷ rs) (later s b ∷ ms) previous sent back h k = none_itself p rs ms previous sent back h.1 k

  pub waited_rest : (so : Option T) (m : Mark) (ms : List Mark) → Waits so ms → Waits so (m ∷ ms)
  waited_rest None earlier ms h = h
  waited_rest None itself ms h = tt
  waited_rest None (later s b) ms h = h
  waited_rest (Some p) m ms h = tt

  pub apart_rest : (so : Option T) (r : QueuedRequest T) (rs : Requests) (m : Mark) (ms : List Mark) (previous : Previous T) (sent back : ℕ) → Waits so ms → Apart so (r ∷ rs) (m ∷ ms) previous sent back → Apart so rs ms previous sent back
  apart_rest None r rs earlier ms previous sent back k h = h
  apart_rest None r rs itself ms previous sent back k h = none_itself r.tags.p rs ms previous sent back h k
  apart_rest None r rs (later s b) ms previous sent back k h = absurd h
  apart_rest (Some p) r rs earlier ms previous sent back k h = absurd h
  apart_rest (Some p) r rs itself ms previous sent back k h = absurd h
  apart_rest (Some p) r rs (later s b) ms previous sent back k h = h.1

  pub apart_none : (p : T) (rs : Requests) (ms : List Mark) (previous : Previous T) (sent back : ℕ) → Apart (Some p) rs ms previous sent back → Apart (Some p) [] [] previous sent back
  apart_none p [] [] previous sent back h = h
  apart_none p [] (m ∷ ms) previous sent back h = absurd h
  apart_none p (r ∷ rs) [] previous sent back h = absurd h
  apart_none p (r ∷ rs) (earlier ∷ ms) previous sent back h = absurd h
  apart_none p (r ∷ rs) (itself ∷ ms) previous sent back h = absurd h
  apart_none p (r ∷ rs) (later s b ∷ ms) previous sent back h = apart_none p rs ms previous sent back h.1

  -- ---- a cancel

  -- the P of x was the first and is the second, which is less by what the request before fell by, but for n/w
  abbrev pub Falls : Option T → Option T → Option (Before T) → ℕ → Type 0
  Falls None kept before n = kept ≡ None
  Falls (Some p) kept before n = (q : T) × (kept ≡ Some q) × Room p q (fall_of ops before) n

  -- x was one of them, if it is one of those that stay
  itself_left : (token : Token) (counted : ℕ → ℕ) (n : ℕ) (rs : Requests) (ms : List Mark) → HasItself (marks_left token counted n rs ms) → HasItself ms
  itself_left token counted n [] ms h = absurd h
  itself_left token counted n (r ∷ rs) [] h = absurd h
  itself_left token counted n (r ∷ rs) (earlier ∷ ms) h = by (has_token token r) (λ k. itself_left token counted k rs ms) h where
    by : (c : Bool) → ((k : ℕ) → HasItself (marks_left token counted k rs ms) → HasItself ms) → HasItself (if c then marks_left token counted (next_back counted c n earlier r.cost) rs ms else more_back n earlier ∷ marks_left token counted (next_back counted c n earlier r.cost) rs ms) → HasItself ms
    by true rest h = rest (n + 0) h
    by false rest h = rest n h
  itself_left token counted n (r ∷ rs) (itself ∷ ms) h = tt
  itself_left token counted n (r ∷ rs) (later s b ∷ ms) h = by (has_token token r) (λ k. itself_left token counted k rs ms) h where
    by : (c : Bool) → ((k : ℕ) → HasItself (marks_left token counted k rs ms) → HasItself ms) → HasItself (if c then marks_left token counted (next_back counted c n (later s b) r.cost) rs ms else more_back n (later s b) ∷ marks_left token counted (next_back counted c n (later s b) r.cost) rs ms) → HasItself ms
    by true rest h = rest (n + counted r.cost) h
    by false rest h = rest n h

  pub waited_left : (so : Option T) (token : Token) (counted : ℕ → ℕ) (n : ℕ) (rs : Requests) (ms : List Mark) → Waits so (marks_left token counted n rs ms) → Waits so ms
  waited_left None token counted n rs ms h = itself_left token counted n rs ms h
  waited_left (Some p) token counted n rs ms h = tt

  module _ (token : Token) (charged : ℕ → Slack T) (paid : (cost : ℕ) → NotBelow0 ops fraction is_value exact (charged cost).p) (counted : ℕ → ℕ) (worth : (cost : ℕ) → IsWorth ops fraction is_value exact w (charged cost).p (hz * counted cost)) where
    abbrev Was : Befores T → Requests → Previous T → Type 0
    Was befores rs previous = Are ops fraction is_value exact order share token charged paid befores rs previous

    less_level : (sent back n : ℕ) → level_of sent back -ℤ pos (hz * n) ≡ level_of sent (back + n)
    less_level sent back n = level_taken fraction hz w 0 back sent n

    plus_none : (n : ℕ) → n + 0 ≡ n
    plus_none n = omega arith

    plus_hz : (n m : ℕ) → hz * n + hz * m ≡ hz * (n + m)
    plus_hz n m = omega arith

    abbrev next_of : Befores T → QueuedRequest T → Bool → Befores T
    next_of befores r b = cancels.befores_next ops b (charged r.cost) befores r

    abbrev Behind : Befores T → QueuedRequest T → Requests → List Mark → Bool → Previous T → (sent back : ℕ) → Type 0
    Behind befores r rs ms cancelled previous sent back = (b : Bool) (n : ℕ) (so kept : Option T) → Falls so kept (next_of befores r b).p (hz * n) → Waits kept (marks_left token counted n rs ms) → Apart so rs ms previous sent back
        → Apart kept (cancels.staying ops token charged (next_of befores r b) rs) (marks_left token counted n rs ms) (cancels.fallen_previous ops (cancels.befores_after ops token charged (next_of befores r b) rs) cancelled previous) sent (back + back_after token counted n rs ms)

    -- where all that is left is behind x, x is not left
    left_later : {X : Type 0} (n : ℕ) (p : T) (rs : Requests) (ms : List Mark) (previous : Previous T) (sent back : ℕ) → Apart (Some p) rs ms previous sent back → HasItself (marks_left token counted n rs ms) → X
    left_later n p [] [] previous sent back h k = absurd k
    left_later n p [] (m ∷ ms) previous sent back h k = absurd h
    left_later n p (r ∷ rs) [] previous sent back h k = absurd h
    left_later n p (r ∷ rs) (earlier ∷ ms) previous sent back h k = absurd h
    left_later n p (r ∷ rs) (itself ∷ ms) previous sent back h k = absurd h
    left_later {X} n p (r ∷ rs) (later s b ∷ ms) previous sent back h k = by (has_token token r) (λ m k. left_later m p rs ms previous sent back h.1 k) k where
      by : (c : Bool) → ((m : ℕ) → HasItself (marks_left token counted m rs ms) → X) → HasItself (if c then marks_left token counted (next_back counted c n (later s b) r.cost) rs ms else more_back n (later s b) ∷ marks_left token counted (next_back counted c n (later s b) r.cost) rs ms) → X
      by true rest k = rest (n + counted r.cost) k
      by false rest k = rest n k

    module _ (n : ℕ) (kept : Option T) (befores : Befores T) (r : QueuedRequest T) (rs : Requests) (ms : List Mark) (cancelled : Bool) (previous : Previous T) (sent back : ℕ) (are : Was befores (r ∷ rs) previous) (rest : Behind befores r rs ms cancelled previous sent back) where
      abbrev Left : Mark → Bool → Type 0
      Left m b = Waits kept (if b then marks_left token counted (next_back counted b n m r.cost) rs ms else more_back n m ∷ marks_left token counted (next_back counted b n m r.cost) rs ms)

      abbrev On : Mark → Bool → Type 0
      On m b = Apart kept (if b then cancels.staying ops token charged (next_of befores r b) rs else cancels.fallen_request ops befores r ∷ cancels.staying ops token charged (next_of befores r b) rs)
          (if b then marks_left token counted (next_back counted b n m r.cost) rs ms else more_back n m ∷ marks_left token counted (next_back counted b n m r.cost) rs ms)
          (cancels.fallen_previous ops (cancels.befores_after ops token charged (next_of befores r b) rs) cancelled previous) sent (back + back_after token counted (next_back counted b n m r.cost) rs ms)

      abbrev before : Option (Before T)
      before = befores.p

      abbrev at : Level T
      at = level r.tags.p r.slack.p

      abbrev now : Level T
      now = cancels.fallen ops before at

      abbrev to : Level T
      to = cancels.without_charge ops (charged r.cost).p before now

      at_rest : (m : ℕ) → m ≡ n → Apart kept (cancels.staying ops token charged (next_of befores r true) rs) (marks_left token counted n rs ms) (cancels.fallen_previous ops (cancels.befores_after ops token charged (next_of befores r true) rs) cancelled previous) sent (back + back_after token counted n rs ms) → Apart kept (cancels.staying ops token charged (next_of befores r true) rs) (marks_left token counted m rs ms) (cancels.fallen_previous ops (cancels.befores_after ops token charged (next_of befores r true) rs) cancelled previous) sent (back + back_after token counted m rs ms)
      at_rest m e h = subst (λ z. Apart kept (cancels.staying ops token charged (next_of befores r true) rs) (marks_left token counted z rs ms) (cancels.fallen_previous ops (cancels.befores_after ops token charged (next_of befores r true) rs) cancelled previous) sent (back + back_after token counted z rs ms)) (sym e) h

      on_earlier : (b : Bool) → kept ≡ None → Left earlier b → Apart None rs ms previous sent back → On earlier b
      on_earlier true none k h =
          let k' = subst (λ z. Waits kept (marks_left token counted z rs ms)) (plus_none n) k in
          at_rest (n + 0) (plus_none n) (rest true n None kept none k' h)
      on_earlier false none k h =
          let k' = subst (λ o. Waits o (earlier ∷ marks_left token counted n rs ms)) none k in
          subst (λ o. Apart o (cancels.fallen_request ops befores r ∷ cancels.staying ops token charged (next_of befores r false) rs) (earlier ∷ marks_left token counted n rs ms) (cancels.fallen_previous ops (cancels.befores_after ops token charged (next_of befores r false) rs) cancelled previous) sent (back + back_after token counted n rs ms)) (sym none) (rest false n None None refl k' h)

      on_itself : (b : Bool) → kept ≡ None → Left itself b → Apart (Some r.tags.p) rs ms previous sent back → On itself b
      on_itself true none k h = left_later (n + 0) r.tags.p rs ms previous sent back h (subst (λ o. Waits o (marks_left token counted (n + 0) rs ms)) none k)
      on_itself false none k h =
          let f = fell ops fraction is_value exact order w before at are.fallen are.slacks.0 in
          let room = room_behind ops fraction is_value exact w r.tags.p now.tag r.tags.p now.tag (hz * n) f.under (far_same ops fraction is_value exact w r.tags.p now.tag (hz * n)) in
          subst (λ o. Apart o (cancels.fallen_request ops befores r ∷ cancels.staying ops token charged (next_of befores r false) rs) (itself ∷ marks_left token counted n rs ms) (cancels.fallen_previous ops (cancels.befores_after ops token charged (next_of befores r false) rs) cancelled previous) sent (back + back_after token counted n rs ms)) (sym none) (rest false n (Some r.tags.p) (Some now.tag) (now.tag, refl, room) tt h)

      on_later : (p : T) (s g : ℕ) (b : Bool) → Falls (Some p) kept before (hz * n) → By r.tags.p p (level_of s g) → Apart (Some p) rs ms previous sent back → On (later s g) b
      on_later p s g true falling by h =
          let f = fell ops fraction is_value exact order w before at are.fallen are.slacks.0 in
          let fallen = falls ops fraction is_value exact order before at are.fallen are.follow.0 are.slacks.0 in
          let l = gives ops fraction is_value exact order w (charged r.cost).p before at now (paid r.cost) fallen in
          let within = within_twice ops fraction is_value exact w (fall_of ops before) (charged r.cost).p r.tags.p now.tag to.tag (hz * counted r.cost) f.within (l.within (charged r.cost).p (min_under_first ops fraction is_value exact order (charged r.cost).p (cancels.most_given ops before now))) (worth r.cost) in
          let far = far_from ops fraction is_value exact w p falling.0 (fall_of ops before) r.tags.p to.tag (hz * n) (hz * counted r.cost) falling.2 within in
          let under = upto order to.tag now.tag r.tags.p l.under f.under in
          let room = subst (Room p falling.0 (above ops r.tags.p to.tag)) (plus_hz n (counted r.cost)) (room_behind ops fraction is_value exact w p falling.0 r.tags.p to.tag (hz * n + hz * counted r.cost) under far) in
          rest true (n + counted r.cost) (Some p) kept (falling.0, falling.1, room) (subst (λ o. Waits o (marks_left token counted (n + counted r.cost) rs ms)) (sym falling.1) tt) h
      on_later p s g false falling by h =
          let f = fell ops fraction is_value exact order w before at are.fallen are.slacks.0 in
          let far = subst (λ m. IsFar ops fraction is_value exact w p falling.0 r.tags.p now.tag m) (plus_none (hz * n)) (far_from ops fraction is_value exact w p falling.0 (fall_of ops before) r.tags.p now.tag (hz * n) 0 falling.2 f.within) in
          let past = subst (By now.tag falling.0) (less_level s g n) (by_after ops fraction is_value exact w p falling.0 r.tags.p now.tag (level_of s g) (hz * n) far by) in
          let room = room_behind ops fraction is_value exact w p falling.0 r.tags.p now.tag (hz * n) f.under far in
          subst (λ o. Apart o (cancels.fallen_request ops befores r ∷ cancels.staying ops token charged (next_of befores r false) rs) (later s (g + n) ∷ marks_left token counted n rs ms) (cancels.fallen_previous ops (cancels.befores_after ops token charged (next_of befores r false) rs) cancelled previous) sent (back + back_after token counted n rs ms)) (sym falling.1) (past, rest false n (Some p) (Some falling.0) (falling.0, refl, room) tt h)

    pub pass_apart : (n : ℕ) (so kept : Option T) (befores : Befores T) (rs : Requests) (ms : List Mark) (cancelled : Bool) (previous : Previous T) (sent back : ℕ) → Was befores rs previous → Falls so kept befores.p (hz * n) → Waits kept (marks_left token counted n rs ms) → Apart so rs ms previous sent back
        → Apart kept (cancels.staying ops token charged befores rs) (marks_left token counted n rs ms) (cancels.fallen_previous ops (cancels.befores_after ops token charged befores rs) cancelled previous) sent (back + back_after token counted n rs ms)
    pass_apart n None kept befores [] ms cancelled previous sent back are falling k h = absurd h
    pass_apart n None kept befores (r ∷ rs) [] cancelled previous sent back are falling k h = absurd h
    pass_apart n None kept befores (r ∷ rs) (earlier ∷ ms) cancelled previous sent back are falling k h = on_earlier n kept befores r rs ms cancelled previous sent back are (λ b m x y. pass_apart m x y (next_of befores r b) rs ms cancelled previous sent back (rest_are ops fraction is_value exact order share token charged paid befores r rs previous b are)) (has_token token r) falling k h
    pass_apart n None kept befores (r ∷ rs) (itself ∷ ms) cancelled previous sent back are falling k h = on_itself n kept befores r rs ms cancelled previous sent back are (λ b m x y. pass_apart m x y (next_of befores r b) rs ms cancelled previous sent back (rest_are ops fraction is_value exact order share token charged paid befores r rs previous b are)) (has_token token r) falling k h
    pass_apart n None kept befores (r ∷ rs) (later s g ∷ ms) cancelled previous sent back are falling k h = absurd h
    pass_apart n (Some p) kept befores [] [] cancelled previous sent back are falling k h =
        let at : Level T = level previous.p previous.slack.p in
        let f = fell ops fraction is_value exact order w befores.p at are.fallen are.left in
        let now = cancels.fallen ops befores.p at in
        let far = subst (λ m. IsFar ops fraction is_value exact w p falling.0 previous.p now.tag m) (plus_none (hz * n)) (far_from ops fraction is_value exact w p falling.0 (fall_of ops befores.p) previous.p now.tag (hz * n) 0 falling.2 f.within) in
        let past = subst (By now.tag falling.0) (less_level sent back n) (by_after ops fraction is_value exact w p falling.0 previous.p now.tag (level_of sent back) (hz * n) far h) in
        subst (λ o. Apart o [] [] (cancels.fallen_previous ops befores cancelled previous) sent (back + n)) (sym falling.1) past
    pass_apart n (Some p) kept befores [] (m ∷ ms) cancelled previous sent back are falling k h = absurd h
    pass_apart n (Some p) kept befores (r ∷ rs) [] cancelled previous sent back are falling k h = absurd h
    pass_apart n (Some p) kept befores (r ∷ rs) (earlier ∷ ms) cancelled previous sent back are falling k h = absurd h
    pass_apart n (Some p) kept befores (r ∷ rs) (itself ∷ ms) cancelled previous sent back are falling k h = absurd h
    pass_apart n (Some p) kept befores (r ∷ rs) (later s g ∷ ms) cancelled previous sent back are falling k h = on_later n kept befores r rs ms cancelled previous sent back are (λ b m x y. pass_apart m x y (next_of befores r b) rs ms cancelled previous sent back (rest_are ops fraction is_value exact order share token charged paid befores r rs previous b are)) p s g (has_token token r) falling h.0 h.1
