-- What one more call does to the counts of a list of calls.
use Rattle.std.proofs.Common.{◌≡◌, ℕ, Bool, List, [], ◌∷◌, ◌++◌, refl, subst, sym, ap, ◌∙◌, true, false, cond, ◌==◌, arith, append_assoc}
use Rattle.std.specs.List.{after_last}
use Rattle.std.proofs.lemmas.List.{append-nil}
use Rattle.std.proofs.lemmas.List.Sums.{sum_by_push, sum_by-append, sum_by-cons}
use Rattle.dmc_types.specs.Values.{Params, Counts, no_counts}
use Rattle.dmc_types.specs.declared.ids.ServerId.{ServerId}
use Rattle.dmc_tracker.specs.TrackerList.{plus}
use Rattle.dmc_tracker.proofs.ForCallers.{same_counts, plus-none, none-plus, plus-assoc, after_last-push}
use Rattle.dmc_shards.specs.declared.call.ShardCall.{ShardCall}
use Rattle.dmc_shards.specs.declared.call.ShardCall.TheVariants.{Arrive, GiveBack, Skip}
use Rattle.dmc_shards.specs.CallList.{total, brought_by, given_back_by, is_skip_of, is_mark_of, skips, came, given_back, pending, demanded_counts, stamped_by, stamped_after, stamped, skipped_by, skipped_after, skipped}

total-push : (f : ShardCall → Counts) (calls : List ShardCall) (c : ShardCall) → total f (calls ++ c ∷ []) ≡ plus (total f calls) (f c)
total-push f calls c = same_counts _ _ (sum_by_push (λ x. (f x).delta) calls c) (sum_by_push (λ x. (f x).rho) calls c)

total-append : (f : ShardCall → Counts) (xs ys : List ShardCall) → total f (xs ++ ys) ≡ plus (total f xs) (total f ys)
total-append f xs ys = same_counts _ _ (sum_by-append (λ x. (f x).delta) xs ys) (sum_by-append (λ x. (f x).rho) xs ys)

pub given_back-append : (s : ServerId) (xs ys : List ShardCall) → given_back s (xs ++ ys) ≡ plus (given_back s xs) (given_back s ys)
given_back-append s xs ys = total-append (given_back_by s) xs ys

pub came-append : (xs ys : List ShardCall) → came (xs ++ ys) ≡ plus (came xs) (came ys)
came-append xs ys = total-append brought_by xs ys

-- induction over a list from its end
pub snoc : (P : List ShardCall → Type 0) → P [] → ((calls : List ShardCall) (c : ShardCall) → P calls → P (calls ++ c ∷ []))
    → (done rest : List ShardCall) → P done → P (done ++ rest)
snoc P none more done [] h = subst P (sym (append-nil done)) h
snoc P none more done (c ∷ rest) h =
    subst P (append_assoc done (c ∷ []) rest) (snoc P none more (done ++ c ∷ []) rest (more done c h))

-- what a call makes pending at s, if it is no arrival there and no skip
abbrev pub left_by : ServerId → ShardCall → Counts
left_by s c = plus (brought_by c) (given_back_by s c)

module _ (calls : List ShardCall) where
  pub came-push : (c : ShardCall) → came (calls ++ c ∷ []) ≡ plus (came calls) (brought_by c)
  came-push c = total-push brought_by calls c

  module _ (s : ServerId) where
    pub given_back-push : (c : ShardCall) → given_back s (calls ++ c ∷ []) ≡ plus (given_back s calls) (given_back_by s c)
    given_back-push c = total-push (given_back_by s) calls c

    -- nothing is pending after an arrival, nor after a skip
    pending-mark : (c : ShardCall) → is_mark_of s c ≡ true → pending s (calls ++ c ∷ []) ≡ no_counts
    pending-mark c here =
        ap (total (left_by s)) (after_last-push (is_mark_of s) calls c
        ∙ ap (λ b. cond b [] (after_last (is_mark_of s) calls ++ c ∷ [])) here)

    pub pending-arrival : (q : ServerId) (params : Params) → (q.0 == s.0) ≡ true → pending s (calls ++ Arrive q params ∷ []) ≡ no_counts
    pending-arrival q params here = pending-mark (Arrive q params) here

    pub pending-skip_here : (q : ServerId) → (q.0 == s.0) ≡ true → pending s (calls ++ Skip q ∷ []) ≡ no_counts
    pending-skip_here q here = pending-mark (Skip q) here

    -- another call adds what it leaves
    pub pending-other : (c : ShardCall) → is_mark_of s c ≡ false → pending s (calls ++ c ∷ []) ≡ plus (pending s calls) (left_by s c)
    pending-other c there =
        ap (total (left_by s)) (after_last-push (is_mark_of s) calls c
        ∙ ap (λ b. cond b [] (after_last (is_mark_of s) calls ++ c ∷ [])) there)
        ∙ total-push (left_by s) (after_last (is_mark_of s) calls) c

    pub pending-skip_there : (q : ServerId) → (q.0 == s.0) ≡ false → pending s (calls ++ Skip q ∷ []) ≡ pending s calls
    pending-skip_there q there = pending-other (Skip q) there ∙ plus-none (pending s calls)

module _ (s : ServerId) where
  -- what is stamped, by a list after another, and by one more call
  pub stamped-append : (before xs ys : List ShardCall)
      → stamped_after s before (xs ++ ys) ≡ plus (stamped_after s before xs) (stamped_after s (before ++ xs) ys)
  stamped-append before [] ys =
      ap (λ zs. stamped_after s zs ys) (sym (append-nil before))
      ∙ sym (none-plus (stamped_after s (before ++ []) ys))
  stamped-append before (x ∷ xs) ys =
      ap (plus (stamped_by s before x)) (stamped-append (before ++ x ∷ []) xs ys
      ∙ ap (λ zs. plus (stamped_after s (before ++ x ∷ []) xs) (stamped_after s zs ys)) (append_assoc before (x ∷ []) xs))
      ∙ sym (plus-assoc (stamped_by s before x) (stamped_after s (before ++ x ∷ []) xs) (stamped_after s (before ++ x ∷ xs) ys))

  pub stamped-push : (calls : List ShardCall) (c : ShardCall) → stamped s (calls ++ c ∷ []) ≡ plus (stamped s calls) (stamped_by s calls c)
  stamped-push calls c =
      stamped-append [] calls (c ∷ []) ∙ ap (plus (stamped s calls)) (plus-none (stamped_by s calls c))

  pub stamped-arrival_here : (calls : List ShardCall) (q : ServerId) (params : Params) → (q.0 == s.0) ≡ true
      → stamped s (calls ++ Arrive q params ∷ []) ≡ plus (stamped s calls) (demanded_counts s params calls)
  stamped-arrival_here calls q params here =
      stamped-push calls (Arrive q params)
      ∙ ap (λ b. plus (stamped s calls) (cond b (demanded_counts s params calls) no_counts)) here

  pub stamped-arrival_there : (calls : List ShardCall) (q : ServerId) (params : Params) → (q.0 == s.0) ≡ false
      → stamped s (calls ++ Arrive q params ∷ []) ≡ stamped s calls
  stamped-arrival_there calls q params there =
      stamped-push calls (Arrive q params)
      ∙ ap (λ b. plus (stamped s calls) (cond b (demanded_counts s params calls) no_counts)) there
      ∙ plus-none (stamped s calls)

  pub stamped-give_back : (calls : List ShardCall) (q : ServerId) (params : Params) → stamped s (calls ++ GiveBack q params ∷ []) ≡ stamped s calls
  stamped-give_back calls q params = stamped-push calls (GiveBack q params) ∙ plus-none (stamped s calls)

  pub stamped-skip : (calls : List ShardCall) (q : ServerId) → stamped s (calls ++ Skip q ∷ []) ≡ stamped s calls
  stamped-skip calls q = stamped-push calls (Skip q) ∙ plus-none (stamped s calls)

  -- what is skipped, by a list after another, and by one more call
  pub skipped-append : (before xs ys : List ShardCall)
      → skipped_after s before (xs ++ ys) ≡ plus (skipped_after s before xs) (skipped_after s (before ++ xs) ys)
  skipped-append before [] ys =
      ap (λ zs. skipped_after s zs ys) (sym (append-nil before))
      ∙ sym (none-plus (skipped_after s (before ++ []) ys))
  skipped-append before (x ∷ xs) ys =
      ap (plus (skipped_by s before x)) (skipped-append (before ++ x ∷ []) xs ys
      ∙ ap (λ zs. plus (skipped_after s (before ++ x ∷ []) xs) (skipped_after s zs ys)) (append_assoc before (x ∷ []) xs))
      ∙ sym (plus-assoc (skipped_by s before x) (skipped_after s (before ++ x ∷ []) xs) (skipped_after s (before ++ x ∷ xs) ys))

  skipped-push : (calls : List ShardCall) (c : ShardCall) → skipped s (calls ++ c ∷ []) ≡ plus (skipped s calls) (skipped_by s calls c)
  skipped-push calls c =
      skipped-append [] calls (c ∷ []) ∙ ap (plus (skipped s calls)) (plus-none (skipped_by s calls c))

  pub skipped-arrival : (calls : List ShardCall) (q : ServerId) (params : Params) → skipped s (calls ++ Arrive q params ∷ []) ≡ skipped s calls
  skipped-arrival calls q params = skipped-push calls (Arrive q params) ∙ plus-none (skipped s calls)

  pub skipped-give_back : (calls : List ShardCall) (q : ServerId) (params : Params) → skipped s (calls ++ GiveBack q params ∷ []) ≡ skipped s calls
  skipped-give_back calls q params = skipped-push calls (GiveBack q params) ∙ plus-none (skipped s calls)

  pub skipped-skip_here : (calls : List ShardCall) (q : ServerId) → (q.0 == s.0) ≡ true
      → skipped s (calls ++ Skip q ∷ []) ≡ plus (skipped s calls) (pending s calls)
  skipped-skip_here calls q here =
      skipped-push calls (Skip q)
      ∙ ap (λ b. plus (skipped s calls) (cond b (pending s calls) no_counts)) here

  pub skipped-skip_there : (calls : List ShardCall) (q : ServerId) → (q.0 == s.0) ≡ false
      → skipped s (calls ++ Skip q ∷ []) ≡ skipped s calls
  skipped-skip_there calls q there =
      skipped-push calls (Skip q)
      ∙ ap (λ b. plus (skipped s calls) (cond b (pending s calls) no_counts)) there
      ∙ plus-none (skipped s calls)

  -- a list without a skip of s skips nothing there
  pub skipped-none : (before calls : List ShardCall) → skips s calls ≡ 0 → skipped_after s before calls ≡ no_counts
  skipped-none before [] none = refl
  skipped-none before (Arrive q params ∷ cs) none =
      none-plus (skipped_after s (before ++ Arrive q params ∷ []) cs)
      ∙ skipped-none (before ++ Arrive q params ∷ []) cs (omega (arith, none, sum_by-cons (λ x. cond (is_skip_of s x) 1 0) (Arrive q params) cs))
  skipped-none before (GiveBack q params ∷ cs) none =
      none-plus (skipped_after s (before ++ GiveBack q params ∷ []) cs)
      ∙ skipped-none (before ++ GiveBack q params ∷ []) cs (omega (arith, none, sum_by-cons (λ x. cond (is_skip_of s x) 1 0) (GiveBack q params) cs))
  skipped-none before (Skip q ∷ cs) none =
      by (q.0 == s.0) refl (skipped-none (before ++ Skip q ∷ []) cs (omega (arith, none, sum_by-cons (λ x. cond (is_skip_of s x) 1 0) (Skip q) cs)))
    where
      by : (b : Bool) → (q.0 == s.0) ≡ b → skipped_after s (before ++ Skip q ∷ []) cs ≡ no_counts → skipped_after s before (Skip q ∷ cs) ≡ no_counts
      by true here rest =
          absurd (let one : ◌≡◌ {A = ℕ} (cond (q.0 == s.0) 1 0) 1 = ap (λ b. cond b 1 0) here in
          omega (arith, none, sum_by-cons (λ x. cond (is_skip_of s x) 1 0) (Skip q) cs, one))
      by false there rest =
          ap (λ b. plus (cond b (pending s before) no_counts) (skipped_after s (before ++ Skip q ∷ []) cs)) there
          ∙ none-plus (skipped_after s (before ++ Skip q ∷ []) cs) ∙ rest
