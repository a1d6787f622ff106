-- What one more entry does to the counts of a tracker list.
use Rattle.std.proofs.Common.{◌≡◌, ℕ, ◌+◌, ◌-◌, ◌≤◌, List, [], ◌∷◌, ◌++◌, length, drop, refl, subst, sym, ap, ◌∙◌, arith, Bool, true, false, cond, not, ◌==◌, append_assoc}
use Rattle.std.specs.List.{after_last, suffix_len, prefix_len}
use Rattle.std.proofs.lemmas.List.{length-append, append-nil, drop-append-le, reverse-append}
use Rattle.std.proofs.lemmas.List.Sums.{sum_by-cons, sum_by_push, suffix_len-le-length}
use Rattle.std.proofs.Math.Seq.{drop-length}
use Rattle.dmc_types.specs.Values.{Params, Counts, no_counts, counts_of}
use Rattle.dmc_types.specs.declared.ids.ServerId.{ServerId}
use Rattle.dmc_types.specs.declared.config.Counting.{Counting}
use Rattle.dmc_types.specs.declared.config.PhaseType.{PhaseType}
use Rattle.dmc_tracker.specs.declared.event.TrackerEvent.{TrackerEvent}
use Rattle.dmc_tracker.specs.declared.event.TrackerEvent.TheVariants.{Stamp, Skip, Response}
use Rattle.dmc_tracker.specs.TrackerList.{plus, total, completed_in, completed_by, counted_by, sent_by, is_stamp_to, stamp_cost, is_skip_of, is_mark_of, completions, stamps, stamp_costs, skips, sent, pending, skipped_by, skipped_after, skipped}

pub same_counts : (a b : Counts) → a.delta ≡ b.delta → a.rho ≡ b.rho → a ≡ b
same_counts a b d r = ap (λ x. record { delta = x; rho = a.rho }) d ∙ ap (λ x. record { delta = b.delta; rho = x }) r

pub plus-none : (a : Counts) → plus a no_counts ≡ a
plus-none a = same_counts _ _ (omega arith) (omega arith)

pub none-plus : (a : Counts) → plus no_counts a ≡ a
none-plus a = same_counts _ _ (omega arith) (omega arith)

pub total-push : (f : TrackerEvent → Counts) (events : List TrackerEvent) (e : TrackerEvent)
    → total f (events ++ e ∷ []) ≡ plus (total f events) (f e)
total-push f events e =
    same_counts _ _ (sum_by_push (λ x. (f x).delta) events e) (sum_by_push (λ x. (f x).rho) events e)

-- induction over a list from its end
pub snoc : (P : List TrackerEvent → Type 0) → P [] → ((events : List TrackerEvent) (e : TrackerEvent) → P events → P (events ++ e ∷ []))
    → (done rest : List TrackerEvent) → P done → P (done ++ rest)
snoc P none more done [] h = subst P (sym (append-nil done)) h
snoc P none more done (e ∷ rest) h =
    subst P (append_assoc done (e ∷ []) rest) (snoc P none more (done ++ e ∷ []) rest (more done e h))

cut : {X : Type 0} (xs : List X) (x : X) (n : ℕ) (b : Bool) → n ≤ length xs
    → drop (length (xs ++ x ∷ []) - cond (not b) (1 + n) 0) (xs ++ x ∷ []) ≡ cond b [] (drop (length xs - n) xs ++ x ∷ [])
cut xs x n true h =
    let e : length (xs ++ x ∷ []) - 0 ≡ length (xs ++ x ∷ []) = omega arith in
    rw e (drop-length (xs ++ x ∷ []))
cut xs x n false h =
    let e : length (xs ++ x ∷ []) - (1 + n) ≡ length xs - n = omega (arith, length-append xs (x ∷ [])) in
    rw e (drop-append-le (length xs - n) xs (x ∷ []) (omega arith))

-- one more element ends what comes after the last that passes, or belongs to it
pub after_last-push : {X : Type 0} (p : X → Bool) (xs : List X) (x : X)
    → after_last p (xs ++ x ∷ []) ≡ cond (p x) [] (after_last p xs ++ x ∷ [])
after_last-push {X} p xs x =
    let q : X → Bool = λ y. not (p y) in
    let turned = ap (prefix_len q) (reverse-append xs (x ∷ [])) in
    ap (λ n. drop (length (xs ++ x ∷ []) - n) (xs ++ x ∷ [])) turned
    ∙ cut xs x (suffix_len q xs) (p x) (suffix_len-le-length q xs)

module _ (events : List TrackerEvent) where
  -- the completions
  pub completions-response : (q : ServerId) (phase : PhaseType) (cost : ℕ)
      → completions (events ++ Response q phase cost ∷ []) ≡ plus (completions events) (completed_in phase cost)
  completions-response q phase cost = total-push completed_by events (Response q phase cost)

  pub completions-stamp : (q : ServerId) (params : Params) → completions (events ++ Stamp q params ∷ []) ≡ completions events
  completions-stamp q params = total-push completed_by events (Stamp q params) ∙ plus-none (completions events)

  pub completions-skip : (q : ServerId) → completions (events ++ Skip q ∷ []) ≡ completions events
  completions-skip q = total-push completed_by events (Skip q) ∙ plus-none (completions events)

module _ (s : ServerId) (events : List TrackerEvent) where
  -- what was sent
  pub sent-response : (q : ServerId) (phase : PhaseType) (cost : ℕ) → sent s (events ++ Response q phase cost ∷ []) ≡ sent s events
  sent-response q phase cost = total-push (sent_by s) events (Response q phase cost) ∙ plus-none (sent s events)

  pub sent-skip : (q : ServerId) → sent s (events ++ Skip q ∷ []) ≡ sent s events
  sent-skip q = total-push (sent_by s) events (Skip q) ∙ plus-none (sent s events)

  pub sent-stamp_same : (q : ServerId) (params : Params) → (q.0 == s.0) ≡ true
      → sent s (events ++ Stamp q params ∷ []) ≡ plus (sent s events) (counts_of params)
  sent-stamp_same q params here =
      total-push (sent_by s) events (Stamp q params) ∙ ap (λ b. plus (sent s events) (cond b (counts_of params) no_counts)) here

  pub sent-stamp_other : (q : ServerId) (params : Params) → (q.0 == s.0) ≡ false
      → sent s (events ++ Stamp q params ∷ []) ≡ sent s events
  sent-stamp_other q params there =
      total-push (sent_by s) events (Stamp q params) ∙ ap (λ b. plus (sent s events) (cond b (counts_of params) no_counts)) there
      ∙ plus-none (sent s events)

  -- how many stamps there are
  stamps-push : (e : TrackerEvent) → stamps s (events ++ e ∷ []) ≡ stamps s events + cond (is_stamp_to s e) 1 0
  stamps-push e = sum_by_push (λ x. cond (is_stamp_to s x) 1 0) events e

  pub stamps-response : (q : ServerId) (phase : PhaseType) (cost : ℕ) → stamps s (events ++ Response q phase cost ∷ []) ≡ stamps s events
  stamps-response q phase cost = omega (arith, stamps-push (Response q phase cost))

  pub stamps-skip : (q : ServerId) → stamps s (events ++ Skip q ∷ []) ≡ stamps s events
  stamps-skip q = omega (arith, stamps-push (Skip q))

  pub stamps-stamp_same : (q : ServerId) (params : Params) → (q.0 == s.0) ≡ true
      → stamps s (events ++ Stamp q params ∷ []) ≡ stamps s events + 1
  stamps-stamp_same q params here =
      stamps-push (Stamp q params) ∙ ap (λ b. stamps s events + cond b 1 0) here

  pub stamps-stamp_other : (q : ServerId) (params : Params) → (q.0 == s.0) ≡ false
      → stamps s (events ++ Stamp q params ∷ []) ≡ stamps s events
  stamps-stamp_other q params there =
      omega (arith, stamps-push (Stamp q params), ap {B = ℕ} (λ b. cond b 1 0) there)

  -- what they cost
  stamp_costs-push : (e : TrackerEvent) → stamp_costs s (events ++ e ∷ []) ≡ stamp_costs s events + stamp_cost s e
  stamp_costs-push e = sum_by_push (stamp_cost s) events e

  pub stamp_costs-response : (q : ServerId) (phase : PhaseType) (cost : ℕ) → stamp_costs s (events ++ Response q phase cost ∷ []) ≡ stamp_costs s events
  stamp_costs-response q phase cost = omega (arith, stamp_costs-push (Response q phase cost))

  pub stamp_costs-skip : (q : ServerId) → stamp_costs s (events ++ Skip q ∷ []) ≡ stamp_costs s events
  stamp_costs-skip q = omega (arith, stamp_costs-push (Skip q))

  pub stamp_costs-stamp_same : (q : ServerId) (params : Params) → (q.0 == s.0) ≡ true
      → stamp_costs s (events ++ Stamp q params ∷ []) ≡ stamp_costs s events + params.cost
  stamp_costs-stamp_same q params here =
      stamp_costs-push (Stamp q params) ∙ ap (λ b. stamp_costs s events + cond b params.cost 0) here

  pub stamp_costs-stamp_other : (q : ServerId) (params : Params) → (q.0 == s.0) ≡ false
      → stamp_costs s (events ++ Stamp q params ∷ []) ≡ stamp_costs s events
  stamp_costs-stamp_other q params there =
      omega (arith, stamp_costs-push (Stamp q params), ap {B = ℕ} (λ b. cond b params.cost 0) there)

  -- how many skips there are: no other entry adds one
  skips-push : (e : TrackerEvent) → skips s (events ++ e ∷ []) ≡ skips s events + cond (is_skip_of s e) 1 0
  skips-push e = sum_by_push (λ x. cond (is_skip_of s x) 1 0) events e

  pub skips-stamp : (q : ServerId) (params : Params) → skips s (events ++ Stamp q params ∷ []) ≡ skips s events
  skips-stamp q params = omega (arith, skips-push (Stamp q params))

  pub skips-response : (q : ServerId) (phase : PhaseType) (cost : ℕ) → skips s (events ++ Response q phase cost ∷ []) ≡ skips s events
  skips-response q phase cost = omega (arith, skips-push (Response q phase cost))

module _ (counting : Counting) (s : ServerId) (events : List TrackerEvent) where
  -- what is pending: an entry that is no mark of s adds what it counts
  pub pending-unmarked_push : (e : TrackerEvent) → is_mark_of s e ≡ false
      → pending counting s (events ++ e ∷ []) ≡ plus (pending counting s events) (counted_by counting s e)
  pending-unmarked_push e there =
      ap (total (counted_by counting s)) (after_last-push (is_mark_of s) events e
      ∙ ap (λ b. cond b [] (after_last (is_mark_of s) events ++ e ∷ [])) there)
      ∙ total-push (counted_by counting s) (after_last (is_mark_of s) events) e

  pub pending-response : (q : ServerId) (phase : PhaseType) (cost : ℕ)
      → pending counting s (events ++ Response q phase cost ∷ []) ≡ plus (pending counting s events) (counted_by counting s (Response q phase cost))
  pending-response q phase cost = pending-unmarked_push (Response q phase cost) refl

  -- nothing, after a mark of s
  pending-mark : (e : TrackerEvent) → is_mark_of s e ≡ true → pending counting s (events ++ e ∷ []) ≡ no_counts
  pending-mark e here =
      ap (total (counted_by counting s)) (after_last-push (is_mark_of s) events e
      ∙ ap (λ b. cond b [] (after_last (is_mark_of s) events ++ e ∷ [])) here)

  -- the same, after an entry that is no mark of s and counts nothing
  pending-same : (e : TrackerEvent) → is_mark_of s e ≡ false → counted_by counting s e ≡ no_counts
      → pending counting s (events ++ e ∷ []) ≡ pending counting s events
  pending-same e there none =
      pending-unmarked_push e there ∙ ap (plus (pending counting s events)) none ∙ plus-none (pending counting s events)

  pub pending-stamp_same : (q : ServerId) (params : Params) → (q.0 == s.0) ≡ true
      → pending counting s (events ++ Stamp q params ∷ []) ≡ no_counts
  pending-stamp_same q params here = pending-mark (Stamp q params) here

  pub pending-stamp_other : (q : ServerId) (params : Params) → (q.0 == s.0) ≡ false
      → pending counting s (events ++ Stamp q params ∷ []) ≡ pending counting s events
  pending-stamp_other q params there = pending-same (Stamp q params) there refl

  pub pending-skip_same : (q : ServerId) → (q.0 == s.0) ≡ true → pending counting s (events ++ Skip q ∷ []) ≡ no_counts
  pending-skip_same q here = pending-mark (Skip q) here

  pub pending-skip_other : (q : ServerId) → (q.0 == s.0) ≡ false
      → pending counting s (events ++ Skip q ∷ []) ≡ pending counting s events
  pending-skip_other q there = pending-same (Skip q) there refl

pub plus-assoc : (a b c : Counts) → plus (plus a b) c ≡ plus a (plus b c)
plus-assoc a b c = same_counts _ _ (omega arith) (omega arith)

module _ (counting : Counting) (s : ServerId) where
  -- what is skipped, by a list after another, and by one more entry
  pub skipped-append : (before xs ys : List TrackerEvent)
      → skipped_after counting s before (xs ++ ys) ≡ plus (skipped_after counting s before xs) (skipped_after counting s (before ++ xs) ys)
  skipped-append before [] ys =
      ap (λ zs. skipped_after counting s zs ys) (sym (append-nil before))
      ∙ sym (none-plus (skipped_after counting s (before ++ []) ys))
  skipped-append before (x ∷ xs) ys =
      ap (plus (skipped_by counting s before x)) (skipped-append (before ++ x ∷ []) xs ys
      ∙ ap (λ zs. plus (skipped_after counting s (before ++ x ∷ []) xs) (skipped_after counting s zs ys)) (append_assoc before (x ∷ []) xs))
      ∙ sym (plus-assoc (skipped_by counting s before x) (skipped_after counting s (before ++ x ∷ []) xs) (skipped_after counting s (before ++ x ∷ xs) ys))

  skipped-push : (events : List TrackerEvent) (e : TrackerEvent)
      → skipped counting s (events ++ e ∷ []) ≡ plus (skipped counting s events) (skipped_by counting s events e)
  skipped-push events e =
      skipped-append [] events (e ∷ []) ∙ ap (plus (skipped counting s events)) (plus-none (skipped_by counting s events e))

  pub skipped-stamp : (events : List TrackerEvent) (q : ServerId) (params : Params)
      → skipped counting s (events ++ Stamp q params ∷ []) ≡ skipped counting s events
  skipped-stamp events q params = skipped-push events (Stamp q params) ∙ plus-none (skipped counting s events)

  pub skipped-response : (events : List TrackerEvent) (q : ServerId) (phase : PhaseType) (cost : ℕ)
      → skipped counting s (events ++ Response q phase cost ∷ []) ≡ skipped counting s events
  skipped-response events q phase cost = skipped-push events (Response q phase cost) ∙ plus-none (skipped counting s events)

  pub skipped-skip_same : (events : List TrackerEvent) (q : ServerId) → (q.0 == s.0) ≡ true
      → skipped counting s (events ++ Skip q ∷ []) ≡ plus (skipped counting s events) (pending counting s events)
  skipped-skip_same events q here =
      skipped-push events (Skip q)
      ∙ ap (λ b. plus (skipped counting s events) (cond b (pending counting s events) no_counts)) here

  pub skipped-skip_other : (events : List TrackerEvent) (q : ServerId) → (q.0 == s.0) ≡ false
      → skipped counting s (events ++ Skip q ∷ []) ≡ skipped counting s events
  skipped-skip_other events q there =
      skipped-push events (Skip q)
      ∙ ap (λ b. plus (skipped counting s events) (cond b (pending counting s events) no_counts)) there
      ∙ plus-none (skipped counting s events)

  -- a list without a skip of s skips nothing
  pub skipped-none : (before events : List TrackerEvent) → skips s events ≡ 0 → skipped_after counting s before events ≡ no_counts
  skipped-none before [] none = refl
  skipped-none before (Stamp q params ∷ es) none =
      none-plus (skipped_after counting s (before ++ Stamp q params ∷ []) es)
      ∙ skipped-none (before ++ Stamp q params ∷ []) es (omega (arith, none, sum_by-cons (λ x. cond (is_skip_of s x) 1 0) (Stamp q params) es))
  skipped-none before (Response q phase cost ∷ es) none =
      none-plus (skipped_after counting s (before ++ Response q phase cost ∷ []) es)
      ∙ skipped-none (before ++ Response q phase cost ∷ []) es (omega (arith, none, sum_by-cons (λ x. cond (is_skip_of s x) 1 0) (Response q phase cost) es))
  skipped-none before (Skip q ∷ es) none =
      by (q.0 == s.0) refl (skipped-none (before ++ Skip q ∷ []) es (omega (arith, none, sum_by-cons (λ x. cond (is_skip_of s x) 1 0) (Skip q) es)))
    where
      by : (b : Bool) → (q.0 == s.0) ≡ b → skipped_after counting s (before ++ Skip q ∷ []) es ≡ no_counts
          → skipped_after counting s before (Skip q ∷ es) ≡ no_counts
      by true here rest =
          absurd (let one : cond (q.0 == s.0) 1 0 ≡ 1 = ap {B = ℕ} (λ b. cond b 1 0) here in
          omega (arith, none, sum_by-cons (λ x. cond (is_skip_of s x) 1 0) (Skip q) es, one))
      by false there rest =
          ap (λ b. plus (cond b (pending counting s before) no_counts) (skipped_after counting s (before ++ Skip q ∷ []) es)) there
          ∙ none-plus (skipped_after counting s (before ++ Skip q ∷ []) es) ∙ rest
