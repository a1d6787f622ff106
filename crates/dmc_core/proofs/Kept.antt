-- What is true of the core after a change.
use Rattle.std.proofs.Common.{◌≡◌, ℕ, zero, suc, eqb, Bool, true, false, true≢false, Option, ◌+◌, ◌<◌, ◌≤◌, ◌==◌, cond, List, [], ◌∷◌, ◌++◌, length, map, set, get_or, slice_get, nat_lt, Some, refl, sym, ap, ◌∙◌, subst, inl, inr, ◌⊎◌, arith}
use Rattle.std.proofs.Math.Seq.{map-set_same}
use Rattle.std.proofs.lemmas.List.{length-append, length-set, length-map, map-set, get_or-set_same, get_or-set_other, get_or_default}
use Rattle.std.proofs.lemmas.List.Quantifiers.{position-Some}
use Rattle.std.proofs.lemmas.Bool.{eq-eqb, eqb-true, ltb-true, ltb-false, false_from_ne_true}
use Rattle.std.specs.Option.{option_map}
use Rattle.std.proofs.lemmas.Option.{get_or_from_slice_get, slice_get_within, slice_get_read, slice_get-map}
use Rattle.std.specs.List.{AllByRecursion, position}
use Rattle.dmc_types.specs.declared.ids.ClientId.{ClientId}
use Rattle.dmc_types.specs.declared.ids.ServerId.{ServerId}
use Rattle.dmc_types.specs.declared.config.PhaseType.{PhaseType}
use Rattle.dmc_types.specs.declared.config.PhaseType.TheVariants.{Reservation, Priority}
use Rattle.dmc_core.specs.Run.{Pair, no_pair, pair_at, with_pair, grants, with_grants, max_grants}
use Rattle.dmc_core.specs.Core.{Held}
use Rattle.dmc_core.specs.internal.Parts.{IsKept, KeepsGrants, HasFewGrants, full_at, full_counts, one_if_full}
use Rattle.dmc_core.specs.declared.server.CoreServer.{CoreServer}
use Rattle.dmc_core.proofs.Counts.{full_counts-set, full_counts-there, full_counts-elsewhere, same_counts}
use Rattle.dmc_tag.specs.State.{is_client}
use Rattle.dmc_tag.proofs.Active.{same_client}
use Rattle.dmc_tag.proofs.Ids.{all_there}
use Rattle.dmc_core.proofs.Lists.{all_set}
use Rattle.dmc_core.proofs.Pairs.{same_keeps_grants}

grants_with : (phase : PhaseType) (n : List ℕ) (p : Pair) → grants phase (with_grants phase n p) ≡ n
grants_with Reservation n p = refl
grants_with Priority n p = refl

few_at : (pairs : List Pair) (i j : ℕ) (y : Pair) (phase : PhaseType) → length (grants phase y) ≤ max_grants → length (grants phase (get_or pairs j no_pair)) ≤ max_grants → length (grants phase (get_or (set pairs i y) j no_pair)) ≤ max_grants
few_at [] i j y phase a b = b
few_at (p ∷ pairs) zero zero y phase a b = a
few_at (p ∷ pairs) zero (suc j) y phase a b = b
few_at (p ∷ pairs) (suc i) zero y phase a b = b
few_at (p ∷ pairs) (suc i) (suc j) y phase a b = few_at pairs i j y phase a b

few_with : (phase : PhaseType) (n : List ℕ) (p : Pair) → length n ≤ max_grants → ((phase : PhaseType) → length (grants phase p) ≤ max_grants) → (other : PhaseType) → length (grants other (with_grants phase n p)) ≤ max_grants
few_with Reservation n p most few Reservation = most
few_with Reservation n p most few Priority = few Priority
few_with Priority n p most few Reservation = few Reservation
few_with Priority n p most few Priority = most

module _ {Q : Type 0} (ids : List ClientId) (hs : List Held) (servers : List (CoreServer Q)) (k : IsKept ids hs servers) where
  -- another client with the same id, and as many pairs
  named_after : (i : ℕ) (h h' : Held) → slice_get hs i ≡ Some h → h'.id ≡ h.id → ids ≡ map (λ h. h.id) (set hs i h')
  named_after i h h' at id = k.named ∙ sym (map-set_same (λ (x : Held). x.id) hs i h' h (id ∙ ap (λ (x : Held). x.id) (sym (get_or_from_slice_get hs i h h at))))

  paired_after : (i : ℕ) (h h' : Held) → slice_get hs i ≡ Some h → length h'.pairs ≡ length h.pairs → AllByRecursion (λ h. length h.pairs ≡ length servers) (set hs i h')
  paired_after i h h' at same = all_set (λ (h : Held). length h.pairs ≡ length servers) hs i h' k.paired (same ∙ all_there (λ (h : Held). length h.pairs ≡ length servers) hs i h k.paired at)

  few_after : (i : ℕ) (h' : Held) → HasFewGrants h' → AllByRecursion HasFewGrants (set hs i h')
  few_after i h' few = all_set HasFewGrants hs i h' k.few few

  -- a client that waits for the same grants
  pub client_kept : (i : ℕ) (h h' : Held) → slice_get hs i ≡ Some h → h'.id ≡ h.id → KeepsGrants h.pairs h'.pairs → IsKept ids (set hs i h') servers
  client_kept i h h' at id same = record {
    named = named_after i h h' at id;
    apart = k.apart;
    paired = paired_after i h h' at same.as_many;
    few = few_after i h' (λ s phase. rw (same.grants s phase) (all_there HasFewGrants hs i h k.few at s phase));
    full = λ s within.
        let e = full_counts-set s hs i h h' at in
        let f = same_counts h.pairs h'.pairs s same in
        k.full s within ∙ omega arith;
  }

  -- a server that knows the same number
  pub server_kept : (j : ℕ) (x y : CoreServer Q) → slice_get servers j ≡ Some x → y.full ≡ x.full → IsKept ids hs (set servers j y)
  server_kept j x y at same = record {
    named = k.named;
    apart = k.apart;
    paired = subst (λ (n : ℕ). AllByRecursion (λ (h : Held). length h.pairs ≡ n) hs) (sym (length-set servers j y)) k.paired;
    few = k.few;
    full = λ s within.
        ap (λ (ns : List ℕ). get_or ns s.0 0) (map-set_same (λ (z : CoreServer Q). z.full) servers j y x (same ∙ ap (λ (z : CoreServer Q). z.full) (sym (get_or_from_slice_get servers j x x at))))
        ∙ k.full s (rw (length-set servers j y) at within);
  }

  -- what a server knows
  pub known : (s : ServerId) (x : CoreServer Q) → slice_get servers s.0 ≡ Some x → x.full ≡ full_counts s hs
  known s x at =
      sym (get_or_from_slice_get (map (λ (z : CoreServer Q). z.full) servers) s.0 x.full 0 (seen servers s.0 at)) ∙ k.full s (slice_get_within servers s.0 x at)
    where
      seen : (zs : List (CoreServer Q)) (j : ℕ) → slice_get zs j ≡ Some x → slice_get (map (λ (z : CoreServer Q). z.full) zs) j ≡ Some x.full
      seen [] j e = cc
      seen (z ∷ zs) zero e = ap (λ (o : Option (CoreServer Q)). option_map (λ (z : CoreServer Q). z.full) o) e
      seen (z ∷ zs) (suc j) e = seen zs j e

  -- one list of a client at a server is another
  module _ (i : ℕ) (h h' : Held) (at : slice_get hs i ≡ Some h) (id : h'.id ≡ h.id) (s : ServerId) (phase : PhaseType) (n : List ℕ)
      (pairs_is : h'.pairs ≡ with_pair s (with_grants phase n (pair_at s h.pairs)) h.pairs) (inside : s.0 < length servers) (most : length n ≤ max_grants) where
    as_many : length h'.pairs ≡ length h.pairs
    as_many = ap length pairs_is ∙ length-set h.pairs s.0 _

    within : s.0 < length h.pairs
    within = let e = all_there (λ (h : Held). length h.pairs ≡ length servers) hs i h k.paired at in omega arith

    few_there : HasFewGrants h'
    few_there other form = rw pairs_is (few_at h.pairs s.0 other.0 _ form (few_with phase n (pair_at s h.pairs) most (all_there HasFewGrants hs i h k.few at s) form) (all_there HasFewGrants hs i h k.few at other form))

    counts_at : (other : ServerId) (b : Bool) → eqb other.0 s.0 ≡ b → one_if_full (length (grants phase (pair_at s h.pairs))) ≡ one_if_full (length n) → full_counts other (set hs i h') ≡ full_counts other hs
    counts_at other true e same =
        let there = full_counts-there hs i h h' at s within phase n pairs_is in
        let this : full_counts s (set hs i h') ≡ full_counts s hs = omega arith in
        let is : other ≡ s = ap (λ (m : ℕ). let x : ServerId = record { 0 = m } in x) (eqb-true _ _ e) in
        subst (λ (x : ServerId). full_counts x (set hs i h') ≡ full_counts x hs) (sym is) this
    counts_at other false e same = full_counts-elsewhere hs i h h' at s within phase n pairs_is other (λ is. let t = eq-eqb _ _ is in true≢false (sym t ∙ e))

    -- which can grow as before
    pub count_kept : one_if_full (length (grants phase (pair_at s h.pairs))) ≡ one_if_full (length n) → IsKept ids (set hs i h') servers
    count_kept same = record {
      named = named_after i h h' at id;
      apart = k.apart;
      paired = paired_after i h h' at as_many;
      few = few_after i h' few_there;
      full = λ other w. k.full other w ∙ sym (counts_at other (eqb other.0 s.0) refl same);
    }

    -- and the server counts that
    pub count_changed : (y : CoreServer Q) → y.full + one_if_full (length (grants phase (pair_at s h.pairs))) ≡ full_counts s hs + one_if_full (length n) → IsKept ids (set hs i h') (set servers s.0 y)
    count_changed y full_is = record {
      named = named_after i h h' at id;
      apart = k.apart;
      paired = subst (λ (m : ℕ). AllByRecursion (λ (h : Held). length h.pairs ≡ m) (set hs i h')) (sym (length-set servers s.0 y)) (paired_after i h h' at as_many);
      few = few_after i h' few_there;
      full = λ other w. by other (rw (length-set servers s.0 y) at w) (eqb other.0 s.0) refl;
    }
      where
        by : (other : ServerId) → other.0 < length servers → (b : Bool) → eqb other.0 s.0 ≡ b → full_at other (set servers s.0 y) ≡ full_counts other (set hs i h')
        by other w true e =
            let there = full_counts-there hs i h h' at s within phase n pairs_is in
            let this : y.full ≡ full_counts s (set hs i h') = omega arith in
            let is : other ≡ s = ap (λ (m : ℕ). let x : ServerId = record { 0 = m } in x) (eqb-true _ _ e) in
            subst (λ (x : ServerId). full_at x (set servers s.0 y) ≡ full_counts x (set hs i h')) (sym is)
            (ap (λ (ns : List ℕ). get_or ns s.0 0) (map-set (λ (z : CoreServer Q). z.full) servers s.0 y)
            ∙ get_or-set_same (map (λ (z : CoreServer Q). z.full) servers) s.0 y.full 0 (simp length-map inside) ∙ this)
        by other w false e =
            let apart : other.0 ≡ s.0 → ⊥ = λ is. let t = eq-eqb _ _ is in true≢false (sym t ∙ e) in
            ap (λ (ns : List ℕ). get_or ns other.0 0) (map-set (λ (z : CoreServer Q). z.full) servers s.0 y)
            ∙ get_or-set_other (map (λ (z : CoreServer Q). z.full) servers) s.0 other.0 y.full 0 apart
            ∙ k.full other w ∙ sym (full_counts-elsewhere hs i h h' at s within phase n pairs_is other apart)

-- ---- whether a list is full

pub full_not : (n : ℕ) → (n ≡ max_grants → ⊥) → one_if_full n ≡ 0
full_not n other = ap (λ (b : Bool). cond b 1 0) (false_from_ne_true (n == max_grants) (λ e. other (eqb-true _ _ e)))

-- one less is not
pub full_gone : (n m : ℕ) → m + 1 ≡ n → n ≤ max_grants → one_if_full m ≡ 0
full_gone n m less most = full_not m (λ e. omega arith)

-- one that may have one more is not
below_most : (n : ℕ) → n ≤ max_grants → one_if_full n ≡ 0 → n + 1 ≤ max_grants
below_most n few none = by (n == max_grants) refl
  where
    by : (b : Bool) → (n == max_grants) ≡ b → n + 1 ≤ max_grants
    by true e = let full : one_if_full n ≡ 1 = ap one_if_full (eqb-true n max_grants e) in absurd (omega (arith, full, none))
    by false e = let other : n ≡ max_grants → ⊥ = λ is. let t = eq-eqb _ _ is in true≢false (sym t ∙ e) in omega arith

-- ---- one grant more at most

module _ {Q : Type 0} (ids : List ClientId) (hs : List Held) (servers : List (CoreServer Q)) (k : IsKept ids hs servers) (i : ℕ) (h h' : Held) (at : slice_get hs i ≡ Some h) (id : h'.id ≡ h.id)
    (s : ServerId) (phase : PhaseType) (cost : ℕ) (inside : s.0 < length servers) (unfull : one_if_full (length (grants phase (pair_at s h.pairs))) ≡ 0) where
  paired : s.0 < length h.pairs
  paired = let e = all_there (λ (h : Held). length h.pairs ≡ length servers) hs i h k.paired at in omega arith

  grown : length (grants phase (pair_at s h.pairs) ++ cost ∷ []) ≡ length (grants phase (pair_at s h.pairs)) + 1
  grown = length-append (grants phase (pair_at s h.pairs)) (cost ∷ [])

  room_left : length (grants phase (pair_at s h.pairs) ++ cost ∷ []) ≤ max_grants
  room_left = let e = below_most (length (grants phase (pair_at s h.pairs))) (all_there HasFewGrants hs i h k.few at s phase) unfull in omega (arith, grown, e)

  -- the pairs are as before, or there is one grant more
  abbrev pub SameOrMore : Type 0
  SameOrMore = (h'.pairs ≡ h.pairs) ⊎ (h'.pairs ≡ with_pair s (with_grants phase (grants phase (pair_at s h.pairs) ++ cost ∷ []) (pair_at s h.pairs)) h.pairs)

  grants_there : h'.pairs ≡ with_pair s (with_grants phase (grants phase (pair_at s h.pairs) ++ cost ∷ []) (pair_at s h.pairs)) h.pairs → grants phase (pair_at s h'.pairs) ≡ grants phase (pair_at s h.pairs) ++ cost ∷ []
  grants_there more = ap (λ (ps : List Pair). grants phase (pair_at s ps)) more ∙ ap (grants phase) (get_or-set_same h.pairs s.0 _ no_pair paired) ∙ grants_with phase (grants phase (pair_at s h.pairs) ++ cost ∷ []) (pair_at s h.pairs)

  -- the list can still grow
  pub grant_kept : SameOrMore → (length (grants phase (pair_at s h'.pairs)) ≡ max_grants → ⊥) → IsKept ids (set hs i h') servers
  grant_kept (inl same) other = client_kept ids hs servers k i h h' at id (same_keeps_grants h.pairs h'.pairs same)
  grant_kept (inr more) other =
      let not_full = full_not (length (grants phase (pair_at s h.pairs) ++ cost ∷ [])) (λ e. other (ap length (grants_there more) ∙ e)) in
      count_kept ids hs servers k i h h' at id s phase (grants phase (pair_at s h.pairs) ++ cost ∷ []) more inside room_left (unfull ∙ sym not_full)

  -- it can't, and the server counts that
  pub grant_fills : SameOrMore → length (grants phase (pair_at s h'.pairs)) ≡ max_grants → (y : CoreServer Q) → y.full ≡ full_counts s hs + 1 → IsKept ids (set hs i h') (set servers s.0 y)
  grant_fills (inl same) most y counted =
      let full : one_if_full (length (grants phase (pair_at s h.pairs))) ≡ 1 = ap one_if_full (ap (λ (ps : List Pair). length (grants phase (pair_at s ps))) (sym same) ∙ most) in
      absurd (omega (arith, full, unfull))
  grant_fills (inr more) most y counted =
      let full : one_if_full (length (grants phase (pair_at s h.pairs) ++ cost ∷ [])) ≡ 1 = ap one_if_full (sym (ap length (grants_there more)) ∙ most) in
      count_changed ids hs servers k i h h' at id s phase (grants phase (pair_at s h.pairs) ++ cost ∷ []) more inside room_left y (omega (arith, full, unfull, counted))

-- ---- ids that are apart

module _ {Q : Type 0} (ids : List ClientId) (hs : List Held) (servers : List (CoreServer Q)) (k : IsKept ids hs servers) where
  id_at : (j : ℕ) (x : Held) → slice_get hs j ≡ Some x → get_or ids j x.id ≡ x.id
  id_at j x at = ap (λ (is : List ClientId). get_or is j x.id) k.named ∙ get_or_from_slice_get (map (λ (z : Held). z.id) hs) j x.id x.id (slice_get-map (λ (z : Held). z.id) hs j ∙ ap (option_map (λ (z : Held). z.id)) at)

  id_within : (j : ℕ) (x : Held) → slice_get hs j ≡ Some x → j < length ids
  id_within j x at = let w = slice_get_within hs j x at in let l = ap length k.named ∙ length-map hs (λ (z : Held). z.id) in omega arith

  later_apart : (i j : ℕ) (x y : Held) → slice_get hs i ≡ Some x → slice_get hs j ≡ Some y → i < j → x.id ≡ y.id → ⊥
  later_apart i j x y at_x at_y before same =
      k.apart i j x.id before (id_within j y at_y) (id_at i x at_x ∙ same ∙ sym (id_at j y at_y) ∙ ap (λ (d : ClientId). get_or ids j d) (sym same))

  -- a client at another place has another id
  pub others_apart : (client : ClientId) (i : ℕ) → position (λ h. is_client client h.id) hs ≡ Some i → (j : ℕ) (y : Held) → slice_get hs j ≡ Some y → (j ≡ i → ⊥) → is_client client y.id ≡ true → ⊥
  others_apart client i placed j y at_y other named =
      let p = position-Some (λ (h : Held). is_client client h.id) hs i y placed in
      let x = get_or hs i y in
      let at_x : slice_get hs i ≡ Some x = slice_get_read hs (length hs) i x refl p.0 (get_or_default hs i y x p.0) in
      let same : x.id ≡ y.id = same_client client x.id p.1 ∙ sym (same_client client y.id named) in
      by at_x same (nat_lt i j) refl
    where
      by : slice_get hs i ≡ Some (get_or hs i y) → (get_or hs i y).id ≡ y.id → (b : Bool) → nat_lt i j ≡ b → ⊥
      by at_x same true e = later_apart i j (get_or hs i y) y at_x at_y (ltb-true _ _ e) same
      by at_x same false e = later_apart j i y (get_or hs i y) at_y at_x (let l = ltb-false _ _ e in omega arith) (sym same)
