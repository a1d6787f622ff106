-- The ghost steps of growing lists. Assumes `Logic`.
use Rattle.std.proofs.Common.{◌≡◌, ℕ, suc, List, [], ◌∷◌, ◌++◌, map, refl, sym, ap, ◌∙◌, inl, inr}
use Rattle.std.specs.Prelude.{◌⊎◌}
use mathlib.Core.List.{IsPrefix}
use seplogic.Ra.Ura.{Ura}
use base.Fraction.{full_share}
use base.Stored.{Gv, Coded, coded_ℕ}
use base.Logic.{SProp, ent, sep, emp, guard, via, id⊢}
use base.Fml.{Fml, ftrue, fex, fsep}
use base.Shift.{Keyless}
use base.Growing.{latest, at_least, prefix_refl}
use types.Logic.{Logic, sem}
use types.Owned.{basic}
use types.Keyed.{entry, entries_take}
use types.Growing.{latest_new, latest_grows, latest_shows, at_least_join, at_least_dup}
use types.Kit.{‵, ◌⊛◌, some, given, later, ◌$◌, ◌∵◌, !, qed, move, drop, split, fsplit, fjoin, fpick, fpack, pick, learn, check, rewrite, use0, use1, use2, updating, await, now, done}
use Rattle.dmc_ledger.specs.Rows.{name_shares, named, listed, unnamed, unlisted, mint_owns}
use Rattle.dmc_ledger.specs.Growing.{lists, blank_owns, list_owns, beginning_owns}
use Rattle.dmc_ledger.proofs.Agreed.{sets}
use Rattle.dmc_ledger.proofs.Shared.{named_keyless}
use Rattle.dmc_ledger.proofs.Ledger.{named_in, named_twice, named_agree}

abbrev tail : {X : Type 0} → List X → List X
tail [] = []
tail (x ∷ xs) = xs

abbrev head : {X : Type 0} → X → List X → X
head d [] = d
head d (x ∷ xs) = x

module _ {E : Type 0} (cv : Coded E) where
  joined_codes : (xs t : List E) → map cv.code xs ++ map cv.code t ≡ map cv.code (xs ++ t)
  joined_codes [] t = refl
  joined_codes (x ∷ xs) t = ap (λ (gs : List Gv). cv.code x ∷ gs) (joined_codes xs t)

  -- of two beginnings of one list, one begins the other
  comparable : (p q : List E) (l : List Gv) → IsPrefix (map cv.code p) l → IsPrefix (map cv.code q) l → IsPrefix p q ⊎ IsPrefix q p
  comparable [] q l h k = inl (q, refl)
  comparable (x ∷ p) [] l h k = inr (x ∷ p, refl)
  comparable (x ∷ p) (y ∷ q) l h k =
      let e : x ≡ y = cv.inj x y (ap (head (cv.code x)) (h.1 ∙ sym k.1)) in
      at e (comparable p q (tail l) (h.0, ap tail h.1) (k.0, ap tail k.1)) where
        at : x ≡ y → IsPrefix p q ⊎ IsPrefix q p → IsPrefix (x ∷ p) (y ∷ q) ⊎ IsPrefix (y ∷ q) (x ∷ p)
        at e (inl t) = inl (t.0, λ i. e i ∷ t.1 i)
        at e (inr t) = inr (t.0, λ i. sym e i ∷ t.1 i)

module _ {M : Type 1} {𝓤 : Ura M} (𝓛 : Logic 𝓤) (γ : ℕ) where
  open 𝓛 use {H, A}

  abbrev Pr : Type 2
  Pr = SProp 𝓤

  abbrev ⟦◌⟧ : Fml → Pr
  ⟦ P ⟧ = sem 𝓛 P

  listed_twice : (n η : ℕ) → ent 𝓤 ⟦ listed γ n η ⟧ (sep 𝓤 ⟦ listed γ n η ⟧ ⟦ listed γ n η ⟧)
  listed_twice n η = let Both : ℕ → Fml = λ l. fsep (named γ 0 l) (named l n η) in
      qed 𝓛 (‵ (fex ℕ Both) ∷ []) ∵ fpick ! (λ l. fsplit ! $ use1 𝓛 (‵ (named γ 0 l) ⊛ ‵ (named γ 0 l)) (named_twice 𝓛 γ 0 l) $ split ! $ move ! (2 ∷ []) $
      use1 𝓛 (‵ (named l n η) ⊛ ‵ (named l n η)) (named_twice 𝓛 l n η) $ split ! $ move ! (2 ∷ 0 ∷ []) $ fjoin ! $ fpack ! ℕ Both l $ move ! (2 ∷ 1 ∷ []) $ fjoin ! $ fpack ! ℕ Both l $ done !)

  listed_agree : (n η ε : ℕ) → ent 𝓤 (sep 𝓤 ⟦ listed γ n η ⟧ ⟦ listed γ n ε ⟧) (guard 𝓤 (η ≡ ε) (emp 𝓤))
  listed_agree n η ε = let One : ℕ → Fml = λ l. fsep (named γ 0 l) (named l n η) in let Other : ℕ → Fml = λ l. fsep (named γ 0 l) (named l n ε) in
      qed 𝓛 (‵ (fex ℕ One) ∷ ‵ (fex ℕ Other) ∷ []) ∵ fpick ! (λ l. fsplit ! $ move ! (2 ∷ []) $ fpick ! (λ m. fsplit ! $ move ! (2 ∷ 0 ∷ []) $
      use2 𝓛 (given (l ≡ m) (‵ (named γ 0 l) ⊛ ‵ (named γ 0 m))) (named_agree 𝓛 γ 0 l m) $ learn ! (λ same. drop ! $ move ! (1 ∷ 0 ∷ []) $ rewrite ! 0 (λ (k : ℕ). ‵ (named k n η)) same refl $
      use2 𝓛 (given (η ≡ ε) (‵ (named m n η) ⊛ ‵ (named m n ε))) (named_agree 𝓛 m n η ε) $ learn ! (λ is. drop ! $ check ! is $ done !))))

  pub opens_list : (m n : ℕ) → ent 𝓤 ⟦ mint_owns γ m n ⟧ (H.⇛ (sep 𝓤 ⟦ mint_owns γ m (suc n) ⟧ ⟦ fex ℕ (λ η. blank_owns γ n η) ⟧))
  unfolding mint_owns blank_owns
  opens_list m n =
      qed 𝓛 (‵ (fsep (unnamed γ (suc m)) (unlisted γ n)) ∷ []) ∵ updating ! $ fsplit ! $ move ! (1 ∷ []) $ fpick ! (λ l. let Name : ℕ → Fml = λ d. entry name_shares l n (full_share, d) in
      fsplit ! $ use1 𝓛 (‵ (named γ 0 l) ⊛ ‵ (named γ 0 l)) (named_twice 𝓛 γ 0 l) $ split ! $ move ! (2 ∷ []) $
      use1 𝓛 (‵ (Name 0) ⊛ ‵ (unnamed l (suc n))) (entries_take name_shares 𝓛 l n (λ _. (full_share, 0))) $ split ! $ move ! (2 ∷ 1 ∷ []) $ fjoin ! $ fpack ! ℕ (λ d. fsep (named γ 0 d) (unnamed d (suc n))) l $
      use0 𝓛 (later (some (λ (η : ℕ). ‵ (latest lists full_share η [])))) (via 𝓤 _ (latest_new lists 𝓛 []) (basic 𝓛 _)) $ await ! tt $ pick ! (λ η.
      move ! (2 ∷ []) $ use1 𝓛 (later (‵ (Name η))) (via 𝓤 _ (sets coded_ℕ 𝓛 l n 0 η) (basic 𝓛 _)) $ await ! tt $ use1 𝓛 (‵ (named l n η)) (named_in 𝓛 l n full_share η) $
      move ! (3 ∷ 0 ∷ []) $ fjoin ! $ fpack ! ℕ (λ d. fsep (named γ 0 d) (named d n η)) l $ move ! (0 ∷ 1 ∷ []) $ fjoin ! $
      fpack ! ℕ (λ d. fsep (listed γ n d) (latest lists full_share d [])) η $ now ! $ move ! (2 ∷ 1 ∷ []) $ fjoin ! $ move ! (0 ∷ 1 ∷ []) $ done !))

module _ {M : Type 1} {𝓤 : Ura M} (𝓛 : Logic 𝓤) {E : Type 0} (cv : Coded E) (γ : ℕ) where
  open 𝓛 use {H, A}

  -- a list that has no item is one of any type
  pub typed_list : (n η : ℕ) → ent 𝓤 (sem 𝓛 (blank_owns γ n η)) (sem 𝓛 (list_owns cv.code γ n η []))
  unfolding blank_owns list_owns
  typed_list n η = id⊢ 𝓤 _

  pub pushes : (n η : ℕ) (log : List E) (x : E) → ent 𝓤 (sem 𝓛 (list_owns cv.code γ n η log)) (H.⇛ (sep 𝓤 (sem 𝓛 (list_owns cv.code γ n η (log ++ x ∷ []))) (sem 𝓛 (beginning_owns cv.code γ n η (log ++ x ∷ [])))))
  unfolding list_owns beginning_owns
  pushes n η log x =
      let old : List Gv = map cv.code log in let new : List Gv = map cv.code (log ++ x ∷ []) in
      qed 𝓛 (‵ (fsep (listed γ n η) (latest lists full_share η old)) ∷ []) ∵ updating ! $ fsplit ! $ use1 𝓛 (‵ (listed γ n η) ⊛ ‵ (listed γ n η)) (listed_twice 𝓛 γ n η) $ split ! $ move ! (2 ∷ []) $
      use1 𝓛 (later (‵ (latest lists full_share η new))) (via 𝓤 _ (latest_grows lists 𝓛 η old new (map cv.code (x ∷ []), joined_codes cv log (x ∷ []))) (basic 𝓛 _)) $ await ! tt $
      use1 𝓛 (‵ (latest lists full_share η new) ⊛ ‵ (at_least lists η new)) (latest_shows lists 𝓛 full_share η new new (prefix_refl new)) $ split ! $
      move ! (2 ∷ 0 ∷ []) $ fjoin ! $ move ! (2 ∷ 1 ∷ []) $ fjoin ! $ now ! $ move ! (1 ∷ 0 ∷ []) $ done !

  pub compared : (n η ε : ℕ) (a b : List E) → ent 𝓤 (sep 𝓤 (sem 𝓛 (beginning_owns cv.code γ n η a)) (sem 𝓛 (beginning_owns cv.code γ n ε b))) (guard 𝓤 (IsPrefix a b ⊎ IsPrefix b a) (emp 𝓤))
  unfolding beginning_owns
  compared n η ε a b =
      let x : List Gv = map cv.code a in let y : List Gv = map cv.code b in
      qed 𝓛 (‵ (fsep (listed γ n η) (at_least lists η x)) ∷ ‵ (fsep (listed γ n ε) (at_least lists ε y)) ∷ []) ∵ fsplit ! $ move ! (2 ∷ []) $ fsplit ! $ move ! (2 ∷ 0 ∷ []) $
      use2 𝓛 (given (η ≡ ε) (‵ ftrue)) (listed_agree 𝓛 γ n η ε) $ learn ! (λ same. drop ! $ move ! (1 ∷ 0 ∷ []) $ rewrite ! 0 (λ (k : ℕ). ‵ (at_least lists k x)) same refl $
      use2 𝓛 (some (λ (c : List Gv). given (base.Growing.Least lists.le x y c) (‵ (at_least lists ε c)))) (at_least_join lists 𝓛 ε x y) $ pick ! (λ c. learn ! (λ l. check ! (comparable cv a b c l.0 l.1) $ drop ! $ done !)))

  pub beginning_twice : (n η : ℕ) (a : List E) → ent 𝓤 (sem 𝓛 (beginning_owns cv.code γ n η a)) (sep 𝓤 (sem 𝓛 (beginning_owns cv.code γ n η a)) (sem 𝓛 (beginning_owns cv.code γ n η a)))
  unfolding beginning_owns
  beginning_twice n η a =
      let x : List Gv = map cv.code a in
      qed 𝓛 (‵ (fsep (listed γ n η) (at_least lists η x)) ∷ []) ∵ fsplit ! $ use1 𝓛 (‵ (listed γ n η) ⊛ ‵ (listed γ n η)) (listed_twice 𝓛 γ n η) $ split ! $ move ! (2 ∷ []) $
      use1 𝓛 (‵ (at_least lists η x) ⊛ ‵ (at_least lists η x)) (at_least_dup lists 𝓛 η x) $ split ! $ move ! (2 ∷ 0 ∷ []) $ fjoin ! $ move ! (2 ∷ 1 ∷ []) $ fjoin ! $ done !

-- ---- no thread's key is named
listed_keyless : (γ n η : ℕ) → Keyless (listed γ n η)
listed_keyless γ n η = λ l. (named_keyless γ 0 l, named_keyless l n η)

pub blank_keyless : (γ n η : ℕ) → Keyless (blank_owns γ n η)
unfolding blank_owns latest
blank_keyless γ n η = (listed_keyless γ n η, tt)

module _ {E : Type 0} (c : E → Gv) (γ n η : ℕ) (log : List E) where
  pub list_keyless : Keyless (list_owns c γ n η log)
  unfolding list_owns latest
  list_keyless = (listed_keyless γ n η, tt)

  pub beginning_keyless : Keyless (beginning_owns c γ n η log)
  unfolding beginning_owns at_least
  beginning_keyless = (listed_keyless γ n η, tt)
