-- The numbers of arrivals: what was sent up to each, and what was given back of that.
use Rattle.std.proofs.Common.{◌≡◌, ℕ, zero, suc, ◌+◌, ◌<◌, ◌≤◌, Bool, true, false, not, ◌&&◌, cond, List, [], ◌∷◌, ◌++◌, map, drop, take, Some, refl, sym, ap, ◌∙◌, subst, arith}
use Rattle.std.specs.Prelude.{◌==◌, nat_lt, filter, sum_by, slice_get, if◌then◌else◌, ⊤}
use Rattle.std.specs.List.{AllByRecursion}
use Rattle.std.proofs.lemmas.Bool.{ltb-true, lt-ltb, le-ltb}
use Rattle.std.proofs.lemmas.List.Sums.{sum_by-cons, sum_by-append}
use Rattle.std.proofs.lemmas.List.Elements.{filter-append}
use Rattle.dmc_types.specs.Values.{Params}
use Rattle.dmc_types.specs.declared.ids.Token.{Token}
use Rattle.dmc_tag.specs.Cancel as cancels
use Rattle.dmc_tag.specs.declared.plain.QueuedRequest.{QueuedRequest}
use Rattle.dmc_history_laws.specs.Bounds.{Arrival, Asked, Numbered, asked_by, cost_between, has_token, is_between, sum_of}
use Rattle.dmc_history_laws.proofs.Chain.{Mark, earlier, itself, later, back_after, back_by, last_from, marks_left, more_back, next_back}
use Rattle.dmc_history_laws.proofs.Parts.{take_one}
use Rattle.dmc_history_laws.proofs.Waiting.{asked_of}

-- ---- in order of their numbers

abbrev pub AscendsFrom : ℕ → List Numbered → Type 0
AscendsFrom low [] = ⊤
AscendsFrom low (n ∷ ns) = (low < n.number) × AscendsFrom n.number ns

abbrev pub AreBelow : ℕ → List Numbered → Type 0
AreBelow top ns = AllByRecursion (λ n. n.number < top) ns

pub from_lower : (low more : ℕ) (ns : List Numbered) → low ≤ more → AscendsFrom more ns → AscendsFrom low ns
from_lower low more [] h is = tt
from_lower low more (n ∷ ns) h is = (omega (arith, h, is.0), is.1)

pub ascends_filtered : (test : Numbered → Bool) (low : ℕ) (ns : List Numbered) → AscendsFrom low ns → AscendsFrom low (filter test ns)
ascends_filtered test low [] is = tt
ascends_filtered test low (n ∷ ns) is = at (test n) (ascends_filtered test n.number ns is.1) where
  at : (b : Bool) → AscendsFrom n.number (filter test ns) → AscendsFrom low (cond b (n ∷ filter test ns) (filter test ns))
  at true more = (is.0, more)
  at false more = from_lower low n.number (filter test ns) (omega (arith, is.0)) more

pub ascends_next : (low : ℕ) (ns : List Numbered) (n : Numbered) → low < n.number → AscendsFrom low ns → AreBelow n.number ns → AscendsFrom low (ns ++ n ∷ [])
ascends_next low [] n h is below = (h, tt)
ascends_next low (m ∷ ns) n h is below = (is.0, ascends_next m.number ns n below.0 is.1 below.1)

-- ---- sums

pub zero_first : (n : ℕ) → 0 + n ≡ n
zero_first n = omega arith

pub zero_more : (n : ℕ) → n + 0 ≡ n
zero_more n = omega arith

three : (a b c : ℕ) → a + (b + c) ≡ a + b + c
three a b c = omega arith

-- ---- the costs between two numbers

not_lt : (a b : ℕ) → b ≤ a → nat_lt a b ≡ false
not_lt a b h = le-ltb a b h

module _ (i : ℕ) (counted : ℕ → ℕ) where
  abbrev pub between_sum : ℕ → List Numbered → ℕ
  between_sum k ns = sum_by (λ n. counted n.arrival.params.cost) (filter (is_between i k) ns)

  pub between_cons : (k : ℕ) (n : Numbered) (ns : List Numbered) → between_sum k (n ∷ ns) ≡ (if is_between i k n then counted n.arrival.params.cost else 0) + between_sum k ns
  between_cons k n ns = at (is_between i k n) where
    at : (b : Bool) → sum_by (λ (m : Numbered). counted m.arrival.params.cost) (cond b (n ∷ filter (is_between i k) ns) (filter (is_between i k) ns)) ≡ (if b then counted n.arrival.params.cost else 0) + between_sum k ns
    at true = sum_by-cons (λ (m : Numbered). counted m.arrival.params.cost) n (filter (is_between i k) ns)
    at false = omega arith

  -- none is
  not_under : (k : ℕ) (n : Numbered) → k ≤ n.number → is_between i k n ≡ false
  not_under k n h = ap (λ b. nat_lt i n.number && b) (not_lt n.number k h) ∙ and_false (nat_lt i n.number) where
    and_false : (b : Bool) → (b && false) ≡ false
    and_false true = refl
    and_false false = refl

  pub between_none : (k low : ℕ) (ns : List Numbered) → k ≤ suc low → AscendsFrom low ns → between_sum k ns ≡ 0
  between_none k low [] h is = refl
  between_none k low (n ∷ ns) h is =
      let rest = between_none k n.number ns (omega (arith, h, is.0)) is.1 in
      between_cons k n ns ∙ ap (λ b. (if b then counted n.arrival.params.cost else 0) + between_sum k ns) (not_under k n (omega (arith, h, is.0))) ∙ zero_first (between_sum k ns) ∙ rest

  -- one that is in front of number k
  under_is : (k : ℕ) (n : Numbered) → n.number < k → is_between i k n ≡ nat_lt i n.number
  under_is k n h = ap (λ b. nat_lt i n.number && b) (lt-ltb n.number k h) ∙ and_true (nat_lt i n.number) where
    and_true : (b : Bool) → (b && true) ≡ b
    and_true true = refl
    and_true false = refl

  pub between_first : (k : ℕ) (n : Numbered) (ns : List Numbered) → n.number < k → between_sum k (n ∷ ns) ≡ (if nat_lt i n.number then counted n.arrival.params.cost else 0) + between_sum k ns
  between_first k n ns h = between_cons k n ns ∙ ap (λ b. (if b then counted n.arrival.params.cost else 0) + between_sum k ns) (under_is k n h)

  -- all are in front of number k
  pub between_all : (top k : ℕ) (ns : List Numbered) → top ≤ k → AreBelow top ns → between_sum k ns ≡ between_sum top ns
  between_all top k [] le h = refl
  between_all top k (n ∷ ns) le h =
      let rest = between_all top k ns le h.1 in
      between_first k n ns (omega (arith, le, h.0)) ∙ ap (λ m. (if nat_lt i n.number then counted n.arrival.params.cost else 0) + m) rest ∙ sym (between_first top n ns h.0)

  pub between_both : (k : ℕ) (ns ms : List Numbered) → between_sum k (ns ++ ms) ≡ between_sum k ns + between_sum k ms
  between_both k ns ms = ap (sum_by (λ (m : Numbered). counted m.arrival.params.cost)) (filter-append (is_between i k) ns ms) ∙ sum_by-append (λ (m : Numbered). counted m.arrival.params.cost) (filter (is_between i k) ns) (filter (is_between i k) ms)

-- if nothing is counted, nothing is between
pub nothing_counted : (i k : ℕ) (ns : List Numbered) → between_sum i (λ _. 0) k ns ≡ 0
nothing_counted i k [] = refl
nothing_counted i k (n ∷ ns) = between_cons i (λ _. 0) k n ns ∙ at (is_between i k n) (nothing_counted i k ns) where
  at : (b : Bool) → between_sum i (λ _. 0) k ns ≡ 0 → (if b then 0 else 0) + between_sum i (λ _. 0) k ns ≡ 0
  at true more = zero_first (between_sum i (λ _. 0) k ns) ∙ more
  at false more = zero_first (between_sum i (λ _. 0) k ns) ∙ more

-- ---- sums up to a number

no_drop : {X : Type 0} (n : ℕ) → ◌≡◌ {A = List X} (drop n []) []
no_drop zero = refl
no_drop (suc n) = refl

none_between : {X : Type 0} (i k : ℕ) (xs : List X) → k ≤ i → drop i (take k xs) ≡ []
none_between i zero xs h = no_drop i
none_between zero (suc k) xs h = absurd (omega (arith, h))
none_between (suc i) (suc k) [] h = refl
none_between (suc i) (suc k) (x ∷ xs) h = none_between i k xs (omega (arith, h))

pub sum_none : (part : Params → ℕ) (i k : ℕ) (all : List Arrival) → k ≤ i → sum_of part i k all ≡ 0
sum_none part i k all h = ap (sum_by (λ (a : Arrival). part a.params)) (none_between i k all h)

one_between : {X : Type 0} (i k : ℕ) (xs : List X) (x : X) → i ≤ k → slice_get xs k ≡ Some x → drop i (take (suc k) xs) ≡ drop i (take k xs) ++ x ∷ []
one_between zero k xs x h e = take_one k xs x e
one_between (suc i) zero xs x h e = absurd (omega (arith, h))
one_between (suc i) (suc k) [] x h e = cc
one_between (suc i) (suc k) (y ∷ xs) x h e = one_between i k xs x (omega (arith, h)) e

pub sum_next : (part : Params → ℕ) (i k : ℕ) (all : List Arrival) (a : Arrival) → i ≤ k → slice_get all k ≡ Some a → sum_of part i (suc k) all ≡ sum_of part i k all + part a.params
sum_next part i k all a h e =
    ap (sum_by (λ (a : Arrival). part a.params)) (one_between i k all a h e)
    ∙ sum_by-append (λ (a : Arrival). part a.params) (drop i (take k all)) (a ∷ [])
    ∙ ap (λ n. sum_of part i k all + n) (sum_by-cons (λ (a : Arrival). part a.params) a [] ∙ zero_more (part a.params))

-- ---- the marks of those that wait

module _ (part : Params → ℕ) (i : ℕ) (all : List Arrival) where
  abbrev pub mark_at : (before behind : Bool) → (ℕ → ℕ) → ℕ → Mark
  mark_at true behind back n = earlier
  mark_at false true back n = later (sum_of part i n all) (back n)
  mark_at false false back n = itself

  -- with what was given back in front of each number
  abbrev pub mark_of : (ℕ → ℕ) → Numbered → Mark
  mark_of back n = mark_at (nat_lt n.number i) (nat_lt i n.number) back n.number

  abbrev pub marks_of : (ℕ → ℕ) → List Numbered → List Mark
  marks_of back those = map (mark_of back) those

  -- not both
  ordered : (n : ℕ) → nat_lt n i ≡ true → nat_lt i n ≡ false
  ordered n e = not_lt i n (omega (arith, ltb-true n i e))

  -- what a cancel of it gives back
  gives_back : (counted back : ℕ → ℕ) (n cost : ℕ) → back_by counted (mark_at (nat_lt n i) (nat_lt i n) back n) cost ≡ (if nat_lt i n then counted cost else 0)
  gives_back counted back n cost = at (nat_lt n i) (nat_lt i n) (ordered n) where
    at : (b c : Bool) → (b ≡ true → c ≡ false) → back_by counted (mark_at b c back n) cost ≡ (if c then counted cost else 0)
    at true c not_so = sym (ap (λ d. if d then counted cost else 0) (not_so refl))
    at false true not_so = refl
    at false false not_so = refl

  -- so much more was given back in front of it
  pushed : (back after : ℕ → ℕ) (more n : ℕ) → after n ≡ back n + more → more_back more (mark_at (nat_lt n i) (nat_lt i n) back n) ≡ mark_at (nat_lt n i) (nat_lt i n) after n
  pushed back after more n e = at (nat_lt n i) (nat_lt i n) where
    at : (b c : Bool) → more_back more (mark_at b c back n) ≡ mark_at b c after n
    at true c = refl
    at false true = ap (later (sum_of part i n all)) (sym e)
    at false false = refl

  -- up to a_i, and behind it
  pub mark_before : (back : ℕ → ℕ) (n : Numbered) → n.number < i → mark_of back n ≡ earlier
  mark_before back n h = ap (λ b. mark_at b (nat_lt i n.number) back n.number) (lt-ltb n.number i h)

  pub mark_itself : (back : ℕ → ℕ) (n : Numbered) → n.number ≡ i → mark_of back n ≡ itself
  mark_itself back n e = ap (λ b. mark_at b (nat_lt i n.number) back n.number) (not_lt n.number i (omega (arith, e))) ∙ ap (λ b. mark_at false b back n.number) (not_lt i n.number (omega (arith, e)))

  pub mark_later : (back : ℕ → ℕ) (n : Numbered) → i < n.number → mark_of back n ≡ later (sum_of part i n.number all) (back n.number)
  mark_later back n h = ap (λ b. mark_at b (nat_lt i n.number) back n.number) (not_lt n.number i (omega (arith, h))) ∙ ap (λ b. mark_at false b back n.number) (lt-ltb i n.number h)

  -- ---- a cancel

  abbrev tokens : Token → List Numbered → List Numbered
  tokens token ns = filter (has_token token) ns

  abbrev others : Token → List Numbered → List Numbered
  others token ns = filter (λ m. not (has_token token m)) ns

  -- what is still to be given back in front of a number behind this one
  abbrev pub Gives : Token → (counted given : ℕ → ℕ) → (low n : ℕ) → List Numbered → Type 0
  Gives token counted given low n those = (k : ℕ) → low < k → given k ≡ n + between_sum i counted k (filter (has_token token) those)

  module _ {T : Type 0} (token : Token) (counted back given after : ℕ → ℕ) (after_is : (k : ℕ) → after k ≡ back k + given k) where
    pub record Links (n top : ℕ) (rs : List (QueuedRequest T)) (those : List Numbered) : Type 0 where
      pub left : marks_left token counted n rs (marks_of back those) ≡ marks_of after (filter (λ m. not (has_token token m)) those)
      pub by_end : back_after token counted n rs (marks_of back those) ≡ given top

    -- one request in front of others
    module _ (n low top : ℕ) (r : QueuedRequest T) (rs : List (QueuedRequest T)) (m : Numbered) (those : List Numbered) (first : asked_by r ≡ asked_of m) (above : low < m.number) (is : AscendsFrom m.number those) (gives : Gives token counted given low n (m ∷ those)) (rest : (n : ℕ) → Gives token counted given m.number n those → Links n top rs those) where
      token_is : cancels.has_token token r ≡ has_token token m
      token_is = ap (λ (a : Asked). a.token.0 == token.0) first

      cost_is : r.cost ≡ m.arrival.params.cost
      cost_is = ap (λ (a : Asked). a.cost) first

      abbrev mark : Mark
      mark = mark_of back m

      abbrev own : ℕ
      own = if nat_lt i m.number then counted m.arrival.params.cost else 0

      record Both (c d : Bool) : Type 0 where
        left : (if c then marks_left token counted (next_back counted c n mark r.cost) rs (marks_of back those) else more_back n mark ∷ marks_left token counted (next_back counted c n mark r.cost) rs (marks_of back those)) ≡ marks_of after (cond (not d) (m ∷ others token those) (others token those))
        by_end : back_after token counted (next_back counted c n mark r.cost) rs (marks_of back those) ≡ given top

      paid : back_by counted mark r.cost ≡ own
      paid = gives_back counted back m.number r.cost ∙ ap (λ cost. if nat_lt i m.number then counted cost else 0) cost_is

      -- if it goes
      gone : has_token token m ≡ true → Links (n + own) top rs those
      gone mine = rest (n + own) (λ k h.
          gives k (omega (arith, h, above))
          ∙ ap (λ b. n + between_sum i counted k (cond b (m ∷ tokens token those) (tokens token those))) mine
          ∙ ap (λ x. n + x) (between_first i counted k m (tokens token those) h)
          ∙ three n own (between_sum i counted k (tokens token those)))

      -- if it stays
      stays : has_token token m ≡ false → Links n top rs those
      stays other = rest n (λ k h. gives k (omega (arith, h, above)) ∙ ap (λ b. n + between_sum i counted k (cond b (m ∷ tokens token those) (tokens token those))) other)

      none_yet : has_token token m ≡ false → given m.number ≡ n
      none_yet other =
          gives m.number above
          ∙ ap (λ b. n + between_sum i counted m.number (cond b (m ∷ tokens token those) (tokens token those))) other
          ∙ ap (λ x. n + x) (between_none i counted m.number m.number (tokens token those) (omega arith) (ascends_filtered (has_token token) m.number those is))
          ∙ zero_more n

      both : (d : Bool) → has_token token m ≡ d → Both d d
      both true mine = let all = gone mine in record { left = ap (λ x. marks_left token counted (n + x) rs (marks_of back those)) paid ∙ all.left; by_end = ap (λ x. back_after token counted (n + x) rs (marks_of back those)) paid ∙ all.by_end }
      both false other = let all = stays other in record { left = ap (λ z. z ∷ marks_left token counted n rs (marks_of back those)) (pushed back after n m.number (after_is m.number ∙ ap (λ x. back m.number + x) (none_yet other))) ∙ ap (λ zs. mark_of after m ∷ zs) all.left; by_end = all.by_end }

      one_links : Links n top (r ∷ rs) (m ∷ those)
      one_links =
          let b = subst (λ c. Both c (has_token token m)) (sym token_is) (both (has_token token m) refl) in
          record { left = b.left; by_end = b.by_end }

    pub links : (n low top : ℕ) (rs : List (QueuedRequest T)) (those : List Numbered) → map asked_by rs ≡ map asked_of those → low < top → AscendsFrom low those → AreBelow top those → Gives token counted given low n those → Links n top rs those
    links n low top [] [] e some is below gives = record { left = refl; by_end = sym (gives top some ∙ zero_more n) }
    links n low top [] (m ∷ those) e some is below gives = cc
    links n low top (r ∷ rs) [] e some is below gives = cc
    links n low top (r ∷ rs) (m ∷ those) e some is below gives =
        let first : asked_by r ≡ asked_of m = cc in
        let rest : map asked_by rs ≡ map asked_of those = cc in
        one_links n low top r rs m those first is.0 is.1 gives (λ k more. links k m.number top rs those rest below.0 is.1 below.1 more)

-- whether the last request has the token
last_behind : {T : Type 0} (token : Token) (r : QueuedRequest T) (rs : List (QueuedRequest T)) → cancels.last_has_token token (r ∷ rs) ≡ last_from token (cancels.has_token token r) rs
last_behind token r [] = refl
last_behind token r (s ∷ rs) = last_behind token s rs

pub last_is : {T : Type 0} (token : Token) (rs : List (QueuedRequest T)) → cancels.last_has_token token rs ≡ last_from token false rs
last_is token [] = refl
last_is token (r ∷ rs) = last_behind token r rs

-- none of those up to a_i is behind it
pub between_early : (i k : ℕ) (ns : List Numbered) → AreBelow (suc i) ns → cost_between i k ns ≡ 0
between_early i k [] h = refl
between_early i k (n ∷ ns) h =
    let rest = between_early i k ns h.1 in
    between_cons i (λ cost. cost) k n ns ∙ ap (λ b. (if b && nat_lt n.number k then n.arrival.params.cost else 0) + cost_between i k ns) (not_lt i n.number (omega (arith, h.0))) ∙ zero_first (cost_between i k ns) ∙ rest
