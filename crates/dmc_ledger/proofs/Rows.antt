-- The rows of a book are found, set and added. Assumes `Logic`.
use Rattle.std.proofs.Common.{◌≡◌, ℕ, zero, suc, ◌+◌, List, [], ◌∷◌, ◌++◌, set, length, sym, refl, arith}
use seplogic.Ra.Pcs.{OpDef, OpDef-comm}
use seplogic.Ra.Ura.{Ura}
use base.Fraction.{full_share, left, right}
use base.FractionLaws.{not-OpDef-full_share}
use base.Share
use base.Stored.{Coded, coded_ℕ, coded×}
use base.Algebras.{pcs, shares}
use base.Logic.{SProp, ent, sep, guard, upd, upd_i}
use base.Fml.{Share, Fml}
use types.Logic.{Logic, sem}
use types.Keyed.{entries_take, entries_beside}
use types.Kit.{‵, raw, ◌⊛◌, given, ◌$◌, ◌∵◌, !, qed, move, split, join, learn, check, suffices, settle, done, use1, use2, rewrite}
use Rattle.core.proofs.ledger.Sums.{HasRow}
use Rattle.dmc_ledger.specs.Rows.{row_shares, part, roster}
use Rattle.dmc_ledger.proofs.Agreed.{cuts, agrees, joins, sets}

module _ {M : Type 1} {𝓤 : Ura M} (𝓛 : Logic 𝓤) (δ : ℕ) where
  abbrev Pr : Type 2
  Pr = SProp 𝓤

  abbrev ◌⊢◌ : Pr → Pr → Type 1
  P ⊢ Q = ent 𝓤 P Q

  abbrev ◌∗◌ : Pr → Pr → Pr
  P ∗ Q = sep 𝓤 P Q

  abbrev ⟦◌⟧ : Fml → Pr
  ⟦ P ⟧ = sem 𝓛 P

  infix 26 ◌⊢◌
  infixr 35 ◌∗◌
  abbrev c : Coded (ℕ × ℕ)
  c = coded× coded_ℕ coded_ℕ

  -- the rule's half, and the token's
  abbrev kept : ℕ → ℕ × ℕ → Fml
  kept k x = part δ k (right full_share) x

  abbrev ours : ℕ → ℕ × ℕ → Fml
  ours k x = part δ k (left full_share) x

  -- whoever has a share of a row finds it
  pub finds : (xs : List (ℕ × ℕ)) (k i j : ℕ) → k + i ≡ j → (q : Share) (x : ℕ × ℕ) → ⟦ roster δ k xs ⟧ ∗ ⟦ part δ j q x ⟧ ⊢ guard 𝓤 (HasRow xs i x) (⟦ roster δ k xs ⟧ ∗ ⟦ part δ j q x ⟧)
  finds [] k i j e q x = qed 𝓛 (‵ (roster δ k []) ∷ ‵ (part δ j q x) ∷ []) ∵ move ! (1 ∷ 0 ∷ []) $
      use2 𝓛 (given (OpDef row_shares.op (q, x) (full_share, (0, 0))) (‵ (part δ j q x) ⊛ ‵ (roster δ k []))) (entries_beside row_shares 𝓛 δ k j (λ _. (full_share, (0, 0))) (q, x) (omega arith)) $
      learn ! (λ d. absurd (not-OpDef-full_share q ((OpDef-comm (pcs shares) {a = q} {b = full_share}).0 d.0)))
  finds (z ∷ xs) k zero j e q x = let is : j ≡ k = omega arith in qed 𝓛 ((‵ (kept k z) ⊛ ‵ (roster δ (suc k) xs)) ∷ ‵ (part δ j q x) ∷ []) ∵ split ! $ rewrite ! 2 (λ (m : ℕ). ‵ (part δ m q x)) is refl $ move ! (0 ∷ 2 ∷ []) $
      use2 𝓛 (given (z ≡ x) (‵ (kept k z) ⊛ ‵ (part δ k q x))) (agrees c 𝓛 δ k (right full_share) q z x) $ learn ! (λ same. check ! same $ split ! $
      rewrite ! 1 (λ (m : ℕ). ‵ (part δ m q x)) (sym is) refl $ move ! (0 ∷ 2 ∷ []) $ join ! $ done !)
  finds (z ∷ xs) k (suc i) j e q x = qed 𝓛 ((‵ (kept k z) ⊛ ‵ (roster δ (suc k) xs)) ∷ ‵ (part δ j q x) ∷ []) ∵ split ! $ move ! (1 ∷ 2 ∷ []) $
      use2 𝓛 (given (HasRow xs i x) (‵ (roster δ (suc k) xs) ⊛ ‵ (part δ j q x))) (finds xs (suc k) i j (omega arith) q x) $ learn ! (λ has. check ! has $ split ! $ move ! (2 ∷ 0 ∷ []) $ join ! $ done !)

  abbrev Row : List (ℕ × ℕ) → ℕ → ℕ → ℕ → ℕ × ℕ → Pr
  Row xs k i j y = ⟦ roster δ k (set xs i y) ⟧ ∗ ⟦ ours j y ⟧

  -- the token and the rule set a row together
  pub puts : (xs : List (ℕ × ℕ)) (k i j : ℕ) → k + i ≡ j → (x y : ℕ × ℕ) → HasRow xs i x → ⟦ roster δ k xs ⟧ ∗ ⟦ ours j x ⟧ ⊢ upd 𝓤 (Row xs k i j y)
  puts [] k i j e x y has = absurd has
  puts (z ∷ xs) k zero j e x y has = let is : j ≡ k = omega arith in let Z : Pr = Row (z ∷ xs) k zero j y in qed 𝓛 ((‵ (kept k z) ⊛ ‵ (roster δ (suc k) xs)) ∷ ‵ (ours j x) ∷ []) ∵ split ! $
      rewrite ! 0 (λ (u : ℕ × ℕ). ‵ (kept k u)) has refl $ rewrite ! 2 (λ (m : ℕ). ‵ (ours m x)) is refl $ move ! (2 ∷ 0 ∷ []) $
      use2 𝓛 (‵ (part δ k full_share x)) (joins c 𝓛 δ k full_share (left full_share) (right full_share) x (Share.halves full_share)) $
      use1 𝓛 (raw (upd 𝓤 ⟦ part δ k full_share y ⟧)) (sets c 𝓛 δ k x y) $ settle 𝓛 Z (‵ (part δ k full_share y)) $
      use1 𝓛 (‵ (ours k y) ⊛ ‵ (kept k y)) (cuts c 𝓛 δ k y full_share (left full_share) (right full_share) (Share.halves full_share)) $ split ! $ suffices ! Z (upd_i 𝓤 Z) $
      rewrite ! 0 (λ (m : ℕ). ‵ (ours m y)) (sym is) refl $ move ! (1 ∷ 2 ∷ []) $ join ! $ done !
  puts (z ∷ xs) k (suc i) j e x y has = let Z : Pr = Row (z ∷ xs) k (suc i) j y in qed 𝓛 ((‵ (kept k z) ⊛ ‵ (roster δ (suc k) xs)) ∷ ‵ (ours j x) ∷ []) ∵ split ! $ move ! (1 ∷ 2 ∷ []) $
      use2 𝓛 (raw (upd 𝓤 (Row xs (suc k) i j y))) (puts xs (suc k) i j (omega arith) x y has) $ settle 𝓛 Z (‵ (roster δ (suc k) (set xs i y)) ⊛ ‵ (ours j y)) $ split ! $ suffices ! Z (upd_i 𝓤 Z) $ move ! (2 ∷ 0 ∷ []) $ join ! $ done !

  -- a new row behind the last
  pub adds : (xs : List (ℕ × ℕ)) (k j : ℕ) → k + length xs ≡ j → (y : ℕ × ℕ) → ⟦ roster δ k xs ⟧ ⊢ upd 𝓤 (⟦ roster δ k (xs ++ y ∷ []) ⟧ ∗ ⟦ ours j y ⟧)
  adds [] k j e y = let is : j ≡ k = omega arith in let Z : Pr = ⟦ roster δ k (y ∷ []) ⟧ ∗ ⟦ ours j y ⟧ in qed 𝓛 (‵ (roster δ k []) ∷ []) ∵
      use1 𝓛 (‵ (part δ k full_share (0, 0)) ⊛ ‵ (roster δ (suc k) [])) (entries_take row_shares 𝓛 δ k (λ _. (full_share, (0, 0)))) $ split ! $
      use1 𝓛 (raw (upd 𝓤 ⟦ part δ k full_share y ⟧)) (sets c 𝓛 δ k (0, 0) y) $ settle 𝓛 Z (‵ (part δ k full_share y)) $
      use1 𝓛 (‵ (ours k y) ⊛ ‵ (kept k y)) (cuts c 𝓛 δ k y full_share (left full_share) (right full_share) (Share.halves full_share)) $ split ! $ suffices ! Z (upd_i 𝓤 Z) $
      rewrite ! 0 (λ (m : ℕ). ‵ (ours m y)) (sym is) refl $ move ! (1 ∷ 2 ∷ []) $ join ! $ done !
  adds (z ∷ xs) k j e y = let Z : Pr = ⟦ roster δ k (z ∷ xs ++ y ∷ []) ⟧ ∗ ⟦ ours j y ⟧ in qed 𝓛 (‵ (kept k z) ∷ ‵ (roster δ (suc k) xs) ∷ []) ∵ move ! (1 ∷ []) $
      use1 𝓛 (raw (upd 𝓤 (⟦ roster δ (suc k) (xs ++ y ∷ []) ⟧ ∗ ⟦ ours j y ⟧))) (adds xs (suc k) j (omega arith) y) $ settle 𝓛 Z (‵ (roster δ (suc k) (xs ++ y ∷ [])) ⊛ ‵ (ours j y)) $ split ! $
      suffices ! Z (upd_i 𝓤 Z) $ move ! (2 ∷ 0 ∷ []) $ join ! $ done !
