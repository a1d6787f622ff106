-- Lists in which each pair is so, and lists of clients in which one is found.
use Rattle.std.proofs.Common.{◌≡◌, Bool, true, false, ◌||◌, cond, List, [], ◌∷◌, ◌++◌, map, Some, refl, sym, ap, ◌∙◌, subst}
use Rattle.std.specs.Prelude.{filter, is_some, ⊤}
use Rattle.std.specs.List.{AllByRecursion, find, list_any}
use Rattle.dmc_types.specs.declared.ids.ClientId.{ClientId}
use Rattle.dmc_tag.specs.State.{PlainClient, is_client, client_named}
use Rattle.dmc_lemmas.proofs.Booleans.{eqb_turned}
use Rattle.dmc_lemmas.proofs.Lists.{all_as, all_both, all_mapped, all_at, all_without, all_filtered, all_append}
use Rattle.dmc_history_laws.proofs.Basics.{both_id}

module _ {X : Type 0} where
  abbrev pub Pairwise : (X → X → Type 0) → List X → Type 0
  Pairwise S [] = ⊤
  Pairwise S (x ∷ xs) = AllByRecursion (S x) xs × Pairwise S xs

  pub pairs_without : (S : X → X → Type 0) (front : List X) (r : X) (back : List X) → Pairwise S (front ++ r ∷ back) → Pairwise S (front ++ back)
  pairs_without S [] r back h = h.1
  pairs_without S (x ∷ front) r back h = (all_without (S x) front r back h.0, pairs_without S front r back h.1)

  -- those in front of r
  pub pairs_at : (S : X → X → Type 0) (front : List X) (r : X) (back : List X) → Pairwise S (front ++ r ∷ back) → AllByRecursion (λ x. S x r) front
  pairs_at S [] r back h = tt
  pairs_at S (x ∷ front) r back h = (all_at (S x) front r back h.0, pairs_at S front r back h.1)

  pub pairs_kept : (S : X → X → Type 0) (test : X → Bool) (xs : List X) → Pairwise S xs → Pairwise S (filter test xs)
  pairs_kept S test [] h = tt
  pairs_kept S test (x ∷ xs) h = at (all_filtered (S x) test xs h.0) (pairs_kept S test xs h.1) (test x) where
    at : AllByRecursion (S x) (filter test xs) → Pairwise S (filter test xs) → (b : Bool) → Pairwise S (cond b (x ∷ filter test xs) (filter test xs))
    at all more true = (all, more)
    at all more false = more

  pub pairs_more : (S : X → X → Type 0) (xs : List X) (y : X) → Pairwise S xs → AllByRecursion (λ x. S x y) xs → Pairwise S (xs ++ y ∷ [])
  pairs_more S [] y h k = (tt, tt)
  pairs_more S (x ∷ xs) y h k = (all_append (S x) xs (y ∷ []) h.0 (k.0, tt), pairs_more S xs y h.1 k.1)

  -- a map, of what is so of each element
  pub pairs_mapped : (S R : X → X → Type 0) (P : X → Type 0) (f : X → X) → ((x y : X) → P x → P y → S x y → R (f x) (f y)) → (xs : List X) → AllByRecursion P xs → Pairwise S xs → Pairwise R (map f xs)
  pairs_mapped S R P f k [] p h = tt
  pairs_mapped S R P f k (x ∷ xs) p h = (all_mapped (λ y. P y × S x y) (R (f x)) f (λ y q. k x y p.0 q.0 q.1) xs (all_both P (S x) xs p.1 h.0), pairs_mapped S R P f k xs p.1 h.1)

  pub pairs_as : (S R : X → X → Type 0) → ((x y : X) → S x y → R x y) → (xs : List X) → Pairwise S xs → Pairwise R xs
  pairs_as S R gives [] h = tt
  pairs_as S R gives (x ∷ xs) h = (all_as (S x) (R x) (gives x) xs h.0, pairs_as S R gives xs h.1)

  pub pairs_both : (S R : X → X → Type 0) (xs : List X) → Pairwise S xs → Pairwise R xs → Pairwise (λ x y. S x y × R x y) xs
  pairs_both S R [] h k = tt
  pairs_both S R (x ∷ xs) h k = (all_both (S x) (R x) xs h.0 k.0, pairs_both S R xs h.1 k.1)

  -- ---- the first that passes

  pub find_more : (test : X → Bool) (xs ys : List X) (d : X) → find test xs ≡ Some d → find test (xs ++ ys) ≡ Some d
  find_more test [] ys d e = cc
  find_more test (x ∷ xs) ys d e = at (test x) e (find_more test xs ys d) where
    at : (b : Bool) → cond b (Some x) (find test xs) ≡ Some d → (find test xs ≡ Some d → find test (xs ++ ys) ≡ Some d) → cond b (Some x) (find test (xs ++ ys)) ≡ Some d
    at true e more = e
    at false e more = more e

  pub find_mapped : (test : X → Bool) (f : X → X) → ((x : X) → test (f x) ≡ test x) → (xs : List X) (d : X) → find test xs ≡ Some d → find test (map f xs) ≡ Some (f d)
  find_mapped test f k [] d e = cc
  find_mapped test f k (x ∷ xs) d e = ap (λ b. cond b (Some (f x)) (find test (map f xs))) (k x) ∙ at (test x) e (find_mapped test f k xs d) where
    at : (b : Bool) → cond b (Some x) (find test xs) ≡ Some d → (find test xs ≡ Some d → find test (map f xs) ≡ Some (f d)) → cond b (Some (f x)) (find test (map f xs)) ≡ Some (f d)
    at true e more = let same : x ≡ d = cc in ap (λ z. Some (f z)) same
    at false e more = more e

  -- also if others are taken out
  pub find_kept : (test keep : X → Bool) (xs : List X) (d : X) → find test xs ≡ Some d → keep d ≡ true → find test (filter keep xs) ≡ Some d
  find_kept test keep [] d e k = cc
  find_kept test keep (x ∷ xs) d e k = at (test x) refl (keep x) refl e (λ h. find_kept test keep xs d h k) where
    at : (b : Bool) → test x ≡ b → (c : Bool) → keep x ≡ c → cond b (Some x) (find test xs) ≡ Some d → (find test xs ≡ Some d → find test (filter keep xs) ≡ Some d) → find test (cond c (x ∷ filter keep xs) (filter keep xs)) ≡ Some d
    at true t true c e more = ap (λ b. cond b (Some x) (find test (filter keep xs))) t ∙ e
    at true t false c e more = let same : x ≡ d = cc in let kept : keep x ≡ true = ap keep same ∙ k in cc
    at false t true c e more = ap (λ b. cond b (Some x) (find test (filter keep xs))) t ∙ more e
    at false t false c e more = more e

  pub found_any : (test other : X → Bool) (xs : List X) (d : X) → find test xs ≡ Some d → (test d ≡ true → other d ≡ true) → list_any other xs ≡ true
  found_any test other [] d e k = cc
  found_any test other (x ∷ xs) d e k = at (test x) refl e (other x) refl (λ h. found_any test other xs d h k) where
    at : (b : Bool) → test x ≡ b → cond b (Some x) (find test xs) ≡ Some d → (o : Bool) → other x ≡ o → (find test xs ≡ Some d → list_any other xs ≡ true) → (o || list_any other xs) ≡ true
    at b t e true o more = refl
    at true t e false o more = let same : x ≡ d = cc in let so : other x ≡ true = subst (λ z. test z ≡ true → other z ≡ true) (sym same) k t in cc
    at false t e false o more = more e

-- ---- no two records have one id

-- two records of two ids
abbrev pub Differ : {T : Type 0} → PlainClient T → PlainClient T → Type 0
Differ c d = is_client c.id d.id ≡ false

abbrev pub AreDistinct : {T : Type 0} → List (PlainClient T) → Type 0
AreDistinct clients = Pairwise Differ clients

pub every : {X : Type 0} (xs : List X) → AllByRecursion (λ x. ⊤) xs
every [] = tt
every (x ∷ xs) = (tt, every xs)

-- a change that keeps ids keeps them apart
pub ids-kept : {T : Type 0} (f : PlainClient T → PlainClient T) → ((c : PlainClient T) → (f c).id ≡ c.id) → (clients : List (PlainClient T)) → AreDistinct clients → AreDistinct (map f clients)
ids-kept f k clients h = pairs_mapped Differ Differ (λ c. ⊤) f (λ c d p q s. ap (λ i. is_client i (f d).id) (k c) ∙ ap (is_client c.id) (k d) ∙ s) clients (every clients) h

pub nobody : {T : Type 0} (id : ClientId) (clients : List (PlainClient T)) → is_some (client_named id clients) ≡ false → AllByRecursion (λ c. is_client c.id id ≡ false) clients
nobody id [] e = tt
nobody id (c ∷ clients) e = at (is_client id c.id) refl e (nobody id clients) where
  at : (b : Bool) → is_client id c.id ≡ b → is_some (cond b (Some c) (client_named id clients)) ≡ false → (is_some (client_named id clients) ≡ false → AllByRecursion (λ c. is_client c.id id ≡ false) clients) → (is_client c.id id ≡ false) × AllByRecursion (λ c. is_client c.id id ≡ false) clients
  at true h e more = cc
  at false h e more = (eqb_turned id.0 c.id.0 false h, more e)

-- whoever has the id is the one that is found
pub only_one : {T : Type 0} (id : ClientId) (clients : List (PlainClient T)) (c : PlainClient T) → AreDistinct clients → client_named id clients ≡ Some c → AllByRecursion (λ d. is_client id d.id ≡ true → d ≡ c) clients
only_one id [] c h e = tt
only_one {T} id (d ∷ clients) c h e = at (is_client id d.id) refl e (only_one id clients c h.1) where
  apart : (xs : List (PlainClient T)) → is_client id d.id ≡ true → AllByRecursion (Differ d) xs → AllByRecursion (λ x. is_client id x.id ≡ true → x ≡ c) xs
  apart [] p k = tt
  apart (x ∷ xs) p k = ((λ q. let same = both_id id d.id x.id p q in let off = k.0 in cc), apart xs p k.1)

  at : (b : Bool) → is_client id d.id ≡ b → cond b (Some d) (client_named id clients) ≡ Some c → (client_named id clients ≡ Some c → AllByRecursion (λ d. is_client id d.id ≡ true → d ≡ c) clients) → (is_client id d.id ≡ true → d ≡ c) × AllByRecursion (λ d. is_client id d.id ≡ true → d ≡ c) clients
  at true p e more = ((λ _. cc), apart clients p h.0)
  at false p e more = ((λ q. cc), more e)
