-- What holds place by place, and one place more.
use Rattle.std.proofs.Common.{◌≡◌, ℕ, ◌+◌, ◌<◌, ◌≤◌, List, [], ◌∷◌, ◌++◌, length, map, set, get_or, sym, ◌∙◌, subst, arith, inl, inr}
use Rattle.std.proofs.lemmas.List.{get_or-set_same, get_or-set_other, map-set, length-map, map_push, get_or_append_left}
use Rattle.std.proofs.Math.Seq.{get_or-append_seam}
use Rattle.std.proofs.lemmas.Bool.{cases_lt}

module _ {X Y : Type 0} (f : X → Y) (d : Y) where
  -- a write at the first place that is left
  pub done_more : (Q : ℕ → Y → Type 0) (xs : List X) (i : ℕ) (x : X) → i < length xs
      → ((k : ℕ) → k < i → Q k (get_or (map f xs) k d)) → Q i (f x) → (k : ℕ) → k < i + 1 → Q k (get_or (map f (set xs i x)) k d)
  done_more Q xs i x within done here k inside =
      let ys = map f xs in
      rw (map-set f xs i x) (elim (cases_lt k i) [
        | inl before ↦ rw (get_or-set_other ys i k (f x) d (λ e. omega arith)) (done k before)
        | inr past ↦
            (let e : i ≡ k = omega arith in
            subst (λ n. Q n (get_or (set ys i (f x)) n d)) e
            (rw (get_or-set_same ys i (f x) d (omega (arith, length-map xs f))) here))
      ])

  pub rest_more : (ys : List Y) (xs : List X) (i : ℕ) (x : X) → ((k : ℕ) → i ≤ k → get_or (map f xs) k d ≡ get_or ys k d)
      → (k : ℕ) → i + 1 ≤ k → get_or (map f (set xs i x)) k d ≡ get_or ys k d
  rest_more ys xs i x rest k inside =
      rw (map-set f xs i x) (get_or-set_other (map f xs) i k (f x) d (λ e. omega arith) ∙ rest k (omega arith))

  -- a push
  pub push_more : (Q : ℕ → Y → Type 0) (xs : List X) (i : ℕ) (x : X) → length xs ≡ i
      → ((k : ℕ) → k < i → Q k (get_or (map f xs) k d)) → Q i (f x) → (k : ℕ) → k < i + 1 → Q k (get_or (map f (xs ++ x ∷ [])) k d)
  push_more Q xs i x long done here k inside =
      let ys = map f xs in
      let long_ys : length ys ≡ i = length-map xs f ∙ long in
      rw (map_push f xs x) (elim (cases_lt k i) [
        | inl before ↦ rw (get_or_append_left ys (f x ∷ []) d k (omega arith)) (done k before)
        | inr past ↦
            (let e : length ys ≡ k = omega arith in
            let at : i ≡ k = omega arith in
            let seam : get_or (ys ++ f x ∷ []) k d ≡ f x = subst (λ n. get_or (ys ++ f x ∷ []) n d ≡ f x) e (get_or-append_seam ys (f x) [] d) in
            rw seam (subst (λ n. Q n (f x)) at here))
      ])

-- one place more, below those that are done
pub one_below : (P : ℕ → Type 0) (i n : ℕ) → ((k : ℕ) → i + 1 ≤ k → k < n → P k) → P i → (k : ℕ) → i ≤ k → k < n → P k
one_below P i n done here k from inside =
    elim (cases_lt i k) [
      | inl past ↦ done k (omega arith) inside
      | inr at ↦ (let e : i ≡ k = omega arith in subst P e here)
    ]

-- a write at the last place that is left
pub set_below : {Y : Type 0} (d : Y) (Q : ℕ → Y → Type 0) (ys : List Y) (i n : ℕ) (y : Y) → i < length ys
    → ((k : ℕ) → i + 1 ≤ k → k < n → Q k (get_or ys k d)) → Q i y → (k : ℕ) → i ≤ k → k < n → Q k (get_or (set ys i y) k d)
set_below d Q ys i n y within done here k from inside =
    elim (cases_lt i k) [
      | inl past ↦ rw (get_or-set_other ys i k y d (λ e. omega arith)) (done k (omega arith) inside)
      | inr at ↦
          (let e : i ≡ k = omega arith in
          subst (λ n. Q n (get_or (set ys i y) n d)) e (rw (get_or-set_same ys i y d within) here))
    ]

module _ {X Y : Type 0} (f : X → Y) (d : Y) where
  pub done_below : (Q : ℕ → Y → Type 0) (xs : List X) (i n : ℕ) (x : X) → i < length xs
      → ((k : ℕ) → i + 1 ≤ k → k < n → Q k (get_or (map f xs) k d)) → Q i (f x)
      → (k : ℕ) → i ≤ k → k < n → Q k (get_or (map f (set xs i x)) k d)
  done_below Q xs i n x within done here k from inside =
      rw (map-set f xs i x) (set_below d Q (map f xs) i n (f x) (omega (arith, length-map xs f)) done here k from inside)

  pub rest_below : (ys : List Y) (xs : List X) (i : ℕ) (x : X) → ((k : ℕ) → k < i + 1 → get_or (map f xs) k d ≡ get_or ys k d)
      → (k : ℕ) → k < i → get_or (map f (set xs i x)) k d ≡ get_or ys k d
  rest_below ys xs i x rest k inside =
      rw (map-set f xs i x) (get_or-set_other (map f xs) i k (f x) d (λ e. omega arith) ∙ rest k (omega arith))

  -- what a pop leaves, and what it takes
  pub left_by_pop : (old new : List X) (last : X) → old ≡ new ++ last ∷ [] → (k : ℕ) → k < length new
      → get_or (map f new) k d ≡ get_or (map f old) k d
  left_by_pop old new last e k inside =
      rw (e, map_push f new last) (sym (get_or_append_left (map f new) (f last ∷ []) d k (omega (arith, length-map new f))))

  pub taken_by_pop : (old new : List X) (last : X) (i : ℕ) → old ≡ new ++ last ∷ [] → i ≡ length new → get_or (map f old) i d ≡ f last
  taken_by_pop old new last i e at =
      let there : length (map f new) ≡ i = length-map new f ∙ sym at in
      rw (e, map_push f new last) (subst (λ n. get_or (map f new ++ f last ∷ []) n d ≡ f last) there (get_or-append_seam (map f new) (f last) [] d))
