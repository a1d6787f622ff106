-- The ghost steps of the ledger. Each opens a book's rule round updates of rows. Assumes `Logic`.
use Rattle.std.proofs.Common.{◌≡◌, ◌≢◌, inl, inr, ℕ, suc, ◌+◌, ◌-◌, ◌≤◌, ◌^◌, List, [], ◌∷◌, ◌++◌, set, length, refl, sym, subst, arith}
use seplogic.Ra.Ura.{Ura}
use base.Fraction.{full_share, left, right}
use base.Share
use base.Stored.{Coded, coded_ℕ, coded×}
use base.Logic.{SProp, ent, sep, emp, guard, upd, upd_i, via}
use base.Fml.{Share, Fml, ftrue, fex, fsep, finv}
use types.Logic.{Logic, sem}
use types.Owned.{basic}
use types.Keyed.{entry, entries_new, entries_take}
use types.Kit.{‵, raw, ◌⊛◌, some, given, later, ◌$◌, ◌∵◌, !, qed, by, move, keep, drop, split, join, fsplit, fjoin, fpick, fpack, pick, learn, check, suffices, settle, frame, assume, rewrite, done, use0, use1, use2, use3, updating, await, now}
use denote.Steps.{nothing}
use Rattle.std.proofs.lemmas.Bool.{cases_eq}
use Rattle.core.proofs.ledger.Sums.{HasRow, Backed}
use Rattle.dmc_ledger.specs.Rows.{row_shares, name_shares, named, known, unnamed, unlisted, part, roster, AddsUp, state, Rule, knows, mint_owns, book_owns, till_owns, row, owns}
use Rattle.dmc_ledger.proofs.Agreed.{cuts, agrees, joins, excludes, sets}
use Rattle.dmc_ledger.proofs.Rows.{finds, puts, adds}
use Rattle.dmc_ledger.proofs.Sums.{Seen, seen_row, adds_up_set, adds_up_append}

module _ {M : Type 1} {𝓤 : Ura M} (𝓛 : Logic 𝓤) where
  open 𝓛 use {H, A}

  abbrev Pr : Type 2
  Pr = SProp 𝓤

  abbrev ◌⊢◌ : Pr → Pr → Type 1
  P ⊢ Q = ent 𝓤 P Q

  abbrev ◌∗◌ : Pr → Pr → Pr
  P ∗ Q = sep 𝓤 P Q

  abbrev ⟦◌⟧ : Fml → Pr
  ⟦ P ⟧ = sem 𝓛 P

  infix 26 ◌⊢◌
  infixr 35 ◌∗◌
  module _ (γ n : ℕ) where
    pub named_in : (q : Share) (δ : ℕ) → ⟦ entry name_shares γ n (q, δ) ⟧ ⊢ ⟦ named γ n δ ⟧
    named_in q δ = qed 𝓛 (‵ (entry name_shares γ n (q, δ)) ∷ []) ∵ fpack ! Share (λ r. entry name_shares γ n (r, δ)) q $ done !

    pub named_twice : (δ : ℕ) → ⟦ named γ n δ ⟧ ⊢ ⟦ named γ n δ ⟧ ∗ ⟦ named γ n δ ⟧
    named_twice δ = qed 𝓛 (‵ (named γ n δ) ∷ []) ∵ fpick ! (λ q. use1 𝓛 (‵ (entry name_shares γ n (left q, δ)) ⊛ ‵ (entry name_shares γ n (right q, δ))) (cuts coded_ℕ 𝓛 γ n δ q (left q) (right q) (Share.halves q)) $ split ! $
        use1 𝓛 (‵ (named γ n δ)) (named_in (left q) δ) $ move ! (1 ∷ []) $ use1 𝓛 (‵ (named γ n δ)) (named_in (right q) δ) $ done !)

    pub named_agree : (δ ε : ℕ) → ⟦ named γ n δ ⟧ ∗ ⟦ named γ n ε ⟧ ⊢ guard 𝓤 (δ ≡ ε) (⟦ named γ n δ ⟧ ∗ ⟦ named γ n ε ⟧)
    named_agree δ ε = qed 𝓛 (‵ (named γ n δ) ∷ ‵ (named γ n ε) ∷ []) ∵ fpick ! (λ q. move ! (1 ∷ []) $ fpick ! (λ r. move ! (1 ∷ 0 ∷ []) $
        use2 𝓛 (given (δ ≡ ε) (‵ (entry name_shares γ n (q, δ)) ⊛ ‵ (entry name_shares γ n (r, ε)))) (agrees coded_ℕ 𝓛 γ n q r δ ε) $ learn ! (λ same. check ! same $ split ! $
        use1 𝓛 (‵ (named γ n δ)) (named_in q δ) $ move ! (1 ∷ []) $ use1 𝓛 (‵ (named γ n ε)) (named_in r ε) $ move ! (1 ∷ 0 ∷ []) $ done !)))

  module _ (γ n : ℕ) where
    pub known_in : (q : Share) (δ : ℕ) → ⟦ entry name_shares γ (suc n) (q, δ) ⟧ ⊢ ⟦ known γ n δ ⟧
    known_in = named_in γ (suc n)

    known_twice : (δ : ℕ) → ⟦ known γ n δ ⟧ ⊢ ⟦ known γ n δ ⟧ ∗ ⟦ known γ n δ ⟧
    known_twice = named_twice γ (suc n)

    known_agree : (δ ε : ℕ) → ⟦ known γ n δ ⟧ ∗ ⟦ known γ n ε ⟧ ⊢ guard 𝓤 (δ ≡ ε) (⟦ known γ n δ ⟧ ∗ ⟦ known γ n ε ⟧)
    known_agree = named_agree γ (suc n)

    pub knows_twice : (δ : ℕ) → ⟦ knows γ n δ ⟧ ⊢ ⟦ knows γ n δ ⟧ ∗ ⟦ knows γ n δ ⟧
    knows_twice δ = qed 𝓛 (‵ (knows γ n δ) ∷ []) ∵ fsplit ! $ use1 𝓛 (‵ (known γ n δ) ⊛ ‵ (known γ n δ)) (known_twice δ) $ split ! $ move ! (2 ∷ []) $
        use1 𝓛 (‵ (finv (Rule δ)) ⊛ ‵ (finv (Rule δ))) (𝓛.invs.inv_dup (Rule δ)) $ split ! $ move ! (2 ∷ 0 ∷ []) $ fjoin ! $ move ! (2 ∷ 1 ∷ []) $ fjoin ! $ done !

    -- two that know the same book know the same rows
    pub knows_agree : (δ ε : ℕ) → ⟦ knows γ n δ ⟧ ∗ ⟦ knows γ n ε ⟧ ⊢ guard 𝓤 (δ ≡ ε) (⟦ knows γ n δ ⟧ ∗ ⟦ knows γ n ε ⟧)
    knows_agree δ ε = qed 𝓛 (‵ (knows γ n δ) ∷ ‵ (knows γ n ε) ∷ []) ∵ fsplit ! $ move ! (2 ∷ []) $ fsplit ! $ move ! (2 ∷ 0 ∷ []) $
        use2 𝓛 (given (δ ≡ ε) (‵ (known γ n δ) ⊛ ‵ (known γ n ε))) (known_agree δ ε) $ learn ! (λ same. check ! same $ split ! $ move ! (0 ∷ 3 ∷ []) $ fjoin ! $ move ! (1 ∷ 2 ∷ []) $ fjoin ! $ move ! (1 ∷ 0 ∷ []) $ done !)

  module _ (δ : ℕ) where
    abbrev I : Fml
    I = Rule δ

    abbrev all_rows : ℕ × ℕ → List (ℕ × ℕ) → Fml
    all_rows b xs = roster δ 0 (b ∷ xs)

    abbrev ours : ℕ → ℕ × ℕ → Fml
    ours k x = row δ k x full_share

    kept : (b : ℕ × ℕ) (xs : List (ℕ × ℕ)) → AddsUp b xs → ⟦ all_rows b xs ⟧ ⊢ ⟦ I ⟧
    kept b xs ok = qed 𝓛 (‵ (all_rows b xs) ∷ []) ∵ nothing ! $ fpack ! (AddsUp b xs) (λ _. ftrue) ok $ move ! (1 ∷ 0 ∷ []) $ fjoin ! $ fpack ! ((ℕ × ℕ) × List (ℕ × ℕ)) (state δ) (b, xs) $ done !

    inside : (X Q : Pr) → ((b : ℕ × ℕ) (xs : List (ℕ × ℕ)) → AddsUp b xs → ⟦ all_rows b xs ⟧ ∗ X ⊢ upd 𝓤 (⟦ I ⟧ ∗ Q)) → A.inv I ∗ X ⊢ H.⇛ Q
    inside X Q k = qed 𝓛 (‵ (finv I) ∷ raw X ∷ []) ∵ suffices ! _ (𝓛.invs.inv_acc I Q) $ frame ! $ assume ! (‵ I) $ fpick ! (λ s. fsplit ! $ move ! (1 ∷ []) $ fpick ! (λ ok. drop ! $ by ! (k s.0 s.1 ok)))

    -- the row k goes from x to y, before the rest
    goes : (xs : List (ℕ × ℕ)) (k : ℕ) (x y : ℕ × ℕ) (X Z : Pr) → (HasRow xs k x → ⟦ roster δ 0 (set xs k y) ⟧ ∗ ⟦ ours k y ⟧ ∗ X ⊢ upd 𝓤 Z) → ⟦ roster δ 0 xs ⟧ ∗ ⟦ ours k x ⟧ ∗ X ⊢ upd 𝓤 Z
    goes xs k x y X Z next = qed 𝓛 (‵ (roster δ 0 xs) ∷ ‵ (ours k x) ∷ raw X ∷ []) ∵
        use2 𝓛 (given (HasRow xs k x) (‵ (roster δ 0 xs) ⊛ ‵ (ours k x))) (finds 𝓛 δ xs 0 k k (omega arith) (left full_share) x) $ learn ! (λ has. split ! $
        use2 𝓛 (raw (upd 𝓤 (⟦ roster δ 0 (set xs k y) ⟧ ∗ ⟦ ours k y ⟧))) (puts 𝓛 δ xs 0 k k (omega arith) x y has) $ settle 𝓛 Z (‵ (roster δ 0 (set xs k y)) ⊛ ‵ (ours k y)) $ split ! $ by ! (next has))

    -- the book's row and a till's change as much
    records : (b b' x y : ℕ × ℕ) (j : ℕ) → (Seen b x → (b'.0 + x.0 ≡ b.0 + y.0) × (b'.1 + x.1 ≡ b.1 + y.1) × (b'.1 ≤ 2 ^ 63) × Backed y)
        → A.inv I ∗ ⟦ ours (suc j) x ⟧ ∗ ⟦ ours 0 b ⟧ ⊢ H.⇛ (guard 𝓤 (Seen b x) (⟦ ours 0 b' ⟧ ∗ ⟦ ours (suc j) y ⟧))
    records b b' x y j so = let Q : Pr = guard 𝓤 (Seen b x) (⟦ ours 0 b' ⟧ ∗ ⟦ ours (suc j) y ⟧) in inside (⟦ ours (suc j) x ⟧ ∗ ⟦ ours 0 b ⟧) Q (λ c xs ok.
        goes (c ∷ xs) (suc j) x y ⟦ ours 0 b ⟧ (⟦ I ⟧ ∗ Q) (λ has. qed 𝓛 (‵ (roster δ 0 (c ∷ set xs j y)) ∷ ‵ (ours (suc j) y) ∷ ‵ (ours 0 b) ∷ []) ∵ move ! (0 ∷ 2 ∷ []) $
        by ! (goes (c ∷ set xs j y) 0 b b' ⟦ ours (suc j) y ⟧ (⟦ I ⟧ ∗ Q) (λ is. let good = subst (λ (z : ℕ × ℕ). AddsUp z xs) is ok in let seen = seen_row b xs j x has good in let s = so seen in
        qed 𝓛 (‵ (all_rows b' (set xs j y)) ∷ ‵ (ours 0 b') ∷ ‵ (ours (suc j) y) ∷ []) ∵ use1 𝓛 (‵ I) (kept b' (set xs j y) (adds_up_set b b' xs j x y has good s.0 s.1 s.2 s.3)) $
        suffices ! _ (upd_i 𝓤 (⟦ I ⟧ ∗ Q)) $ frame ! $ check ! seen $ done !))))

    abbrev Apart : ℕ × ℕ → ℕ × ℕ → Type 0
    Apart x y = x.1 + y.1 ≤ 2 ^ 63

    -- two tills' rows keep their sum. The first is emptied, so that the second is found beside it
    shifts : (x x' y y' : ℕ × ℕ) (i j : ℕ) → x'.0 + y'.0 ≡ x.0 + y.0 → x'.1 + y'.1 ≡ x.1 + y.1 → Backed x' → Backed y'
        → A.inv I ∗ ⟦ ours (suc i) x ⟧ ∗ ⟦ ours (suc j) y ⟧ ⊢ H.⇛ (guard 𝓤 (Apart x y) (⟦ ours (suc i) x' ⟧ ∗ ⟦ ours (suc j) y' ⟧))
    shifts x x' y y' i j same_parts same_amount backed backed' = let Q : Pr = guard 𝓤 (Apart x y) (⟦ ours (suc i) x' ⟧ ∗ ⟦ ours (suc j) y' ⟧) in let none : ℕ × ℕ = (0, 0) in inside (⟦ ours (suc i) x ⟧ ∗ ⟦ ours (suc j) y ⟧) Q (λ b xs ok.
        let xs₁ = set xs i none in let xs₂ = set xs₁ j y' in let xs₃ = set xs₂ i x' in
        goes (b ∷ xs) (suc i) x none ⟦ ours (suc j) y ⟧ (⟦ I ⟧ ∗ Q) (λ h₁. qed 𝓛 (‵ (all_rows b xs₁) ∷ ‵ (ours (suc i) none) ∷ ‵ (ours (suc j) y) ∷ []) ∵ move ! (0 ∷ 2 ∷ []) $
        by ! (goes (b ∷ xs₁) (suc j) y y' ⟦ ours (suc i) none ⟧ (⟦ I ⟧ ∗ Q) (λ h₂. qed 𝓛 (‵ (all_rows b xs₂) ∷ ‵ (ours (suc j) y') ∷ ‵ (ours (suc i) none) ∷ []) ∵ move ! (0 ∷ 2 ∷ []) $
        by ! (goes (b ∷ xs₂) (suc i) none x' ⟦ ours (suc j) y' ⟧ (⟦ I ⟧ ∗ Q) (λ h₃.
        let ok₁ : AddsUp (b.0 - x.0, b.1 - x.1) xs₁ = let seen = seen_row b xs i x h₁ ok in adds_up_set b (b.0 - x.0, b.1 - x.1) xs i x none h₁ ok (let u = seen.1 in omega arith) (let u = seen.0.0 in omega arith) (let u = ok.1 in omega arith) (λ _. refl) in
        let seen = seen_row b xs i x h₁ ok in let seen₁ = seen_row (b.0 - x.0, b.1 - x.1) xs₁ j y h₂ ok₁ in let a = seen.0.0 in let p = seen.1 in let a₁ = seen₁.0.0 in let p₁ = seen₁.1 in let bound = ok.1 in
        let b₂ : ℕ × ℕ = (b.0 - x.0 - y.0 + y'.0, b.1 - x.1 - y.1 + y'.1) in
        let ok₂ : AddsUp b₂ xs₂ = adds_up_set (b.0 - x.0, b.1 - x.1) b₂ xs₁ j y y' h₂ ok₁ (omega arith) (omega arith) (omega arith) backed' in
        let ok₃ : AddsUp b xs₃ = adds_up_set b₂ b xs₂ i none x' h₃ ok₂ (omega arith) (omega arith) bound backed in
        qed 𝓛 (‵ (all_rows b xs₃) ∷ ‵ (ours (suc i) x') ∷ ‵ (ours (suc j) y') ∷ []) ∵ use1 𝓛 (‵ I) (kept b xs₃ ok₃) $ suffices ! _ (upd_i 𝓤 (⟦ I ⟧ ∗ Q)) $ frame ! $ check ! (omega arith) $ done !))))))

    -- shares of both rows are compared
    audits : (b x : ℕ × ℕ) (j : ℕ) (q r : Share) → A.inv I ∗ ⟦ row δ (suc j) x r ⟧ ∗ ⟦ row δ 0 b q ⟧ ⊢ H.⇛ (guard 𝓤 (Seen b x) (⟦ row δ 0 b q ⟧ ∗ ⟦ row δ (suc j) x r ⟧))
    audits b x j q r = let till : Fml = row δ (suc j) x r in let book : Fml = row δ 0 b q in let Q : Pr = guard 𝓤 (Seen b x) (⟦ book ⟧ ∗ ⟦ till ⟧) in inside (⟦ till ⟧ ∗ ⟦ book ⟧) Q (λ c xs ok.
        qed 𝓛 (‵ (all_rows c xs) ∷ ‵ till ∷ ‵ book ∷ []) ∵ use2 𝓛 (given (HasRow xs j x) (‵ (all_rows c xs) ⊛ ‵ till)) (finds 𝓛 δ (c ∷ xs) 0 (suc j) (suc j) (omega arith) (left r) x) $ learn ! (λ has. split ! $ move ! (0 ∷ 2 ∷ []) $
        use2 𝓛 (given (c ≡ b) (‵ (all_rows c xs) ⊛ ‵ book)) (finds 𝓛 δ (c ∷ xs) 0 0 0 (omega arith) (left q) b) $ learn ! (λ is. split ! $ use1 𝓛 (‵ I) (kept c xs ok) $ suffices ! _ (upd_i 𝓤 (⟦ I ⟧ ∗ Q)) $ frame ! $
        check ! (seen_row b xs j x has (subst (λ (z : ℕ × ℕ). AddsUp z xs) is ok)) $ done !)))

    abbrev pair : Coded (ℕ × ℕ)
    pair = coded× coded_ℕ coded_ℕ

    -- the token's half of the book's row and the rule's are the whole, beside which no one has a share
    owned_once : (b c : ℕ × ℕ) (q : Share) → A.inv I ∗ ⟦ ours 0 b ⟧ ∗ ⟦ row δ 0 c q ⟧ ⊢ H.⇛ (guard 𝓤 ⊥ ⟦ ours 0 b ⟧)
    owned_once b c q = let rule : ℕ × ℕ → Fml = part δ 0 (right full_share) in inside (⟦ ours 0 b ⟧ ∗ ⟦ row δ 0 c q ⟧) (guard 𝓤 ⊥ ⟦ ours 0 b ⟧) (λ d xs _.
        qed 𝓛 ((‵ (rule d) ⊛ ‵ (roster δ 1 xs)) ∷ ‵ (ours 0 b) ∷ ‵ (row δ 0 c q) ∷ []) ∵ split ! $ move ! (2 ∷ 0 ∷ []) $
        use2 𝓛 (given (b ≡ d) (‵ (ours 0 b) ⊛ ‵ (rule d))) (agrees pair 𝓛 δ 0 (left full_share) (right full_share) b d) $ learn ! (λ same. split ! $ rewrite ! 1 (λ (u : ℕ × ℕ). ‵ (rule u)) (sym same) refl $
        use2 𝓛 (‵ (part δ 0 full_share b)) (joins pair 𝓛 δ 0 full_share (left full_share) (right full_share) b (Share.halves full_share)) $ move ! (0 ∷ 2 ∷ []) $
        use2 𝓛 (given ⊥ (‵ (part δ 0 full_share b))) (excludes pair 𝓛 δ 0 (left q) b c) $ learn ! (λ never. absurd never)))

    abbrev New : Fml
    New = fex ℕ (λ j. ours (suc j) (1, 0))

    -- a new till's row
    grows : (b : ℕ × ℕ) → A.inv I ∗ ⟦ ours 0 b ⟧ ⊢ H.⇛ (⟦ ours 0 (b.0 + 1, b.1) ⟧ ∗ ⟦ New ⟧)
    grows b = let b' : ℕ × ℕ = (b.0 + 1, b.1) in let Q : Pr = ⟦ ours 0 b' ⟧ ∗ ⟦ New ⟧ in inside ⟦ ours 0 b ⟧ Q (λ c xs ok. qed 𝓛 (‵ (all_rows c xs) ∷ ‵ (ours 0 b) ∷ []) ∵ nothing ! $ move ! (1 ∷ 2 ∷ 0 ∷ []) $
        by ! (goes (c ∷ xs) 0 b b' (emp 𝓤) (⟦ I ⟧ ∗ Q) (λ is. let ys : List (ℕ × ℕ) = xs ++ (1, 0) ∷ [] in qed 𝓛 (‵ (all_rows b' xs) ∷ ‵ (ours 0 b') ∷ raw (emp 𝓤) ∷ []) ∵
        use1 𝓛 (raw (upd 𝓤 (⟦ all_rows b' ys ⟧ ∗ ⟦ ours (suc (length xs)) (1, 0) ⟧))) (adds 𝓛 δ (b' ∷ xs) 0 (suc (length xs)) (omega arith) (1, 0)) $ settle 𝓛 (⟦ I ⟧ ∗ Q) (‵ (all_rows b' ys) ⊛ ‵ (ours (suc (length xs)) (1, 0))) $ split ! $
        use1 𝓛 (‵ I) (kept b' ys (adds_up_append b xs (subst (λ (z : ℕ × ℕ). AddsUp z xs) is ok))) $ suffices ! _ (upd_i 𝓤 (⟦ I ⟧ ∗ Q)) $ frame ! $ move ! (1 ∷ 0 ∷ []) $ frame ! $
        fpack ! ℕ (λ j. ours (suc j) (1, 0)) (length xs) $ keep ! (0 ∷ []) $ done !)))

  module _ (γ n : ℕ) where
    -- a book's token and a till's
    recorded : (δ ε j : ℕ) (b b' x y : ℕ × ℕ) → (Seen b x → (b'.0 + x.0 ≡ b.0 + y.0) × (b'.1 + x.1 ≡ b.1 + y.1) × (b'.1 ≤ 2 ^ 63) × Backed y)
        → ⟦ owns γ n δ 0 b ⟧ ∗ ⟦ owns γ n ε (suc j) x ⟧ ⊢ H.⇛ (guard 𝓤 (Seen b x) (⟦ owns γ n δ 0 b' ⟧ ∗ ⟦ owns γ n ε (suc j) y ⟧))
    recorded δ ε j b b' x y so = let Mine : ℕ → ℕ → ℕ × ℕ → Fml = λ d k z. row d k z full_share in
        qed 𝓛 ((‵ (knows γ n δ) ⊛ ‵ (Mine δ 0 b)) ∷ (‵ (knows γ n ε) ⊛ ‵ (Mine ε (suc j) x)) ∷ []) ∵ updating ! $ split ! $ move ! (2 ∷ []) $ split ! $ move ! (2 ∷ 0 ∷ []) $
        use2 𝓛 (given (δ ≡ ε) (‵ (knows γ n δ) ⊛ ‵ (knows γ n ε))) (knows_agree γ n δ ε) $ learn ! (λ same. split ! $ use1 𝓛 (‵ (knows γ n δ) ⊛ ‵ (knows γ n δ)) (knows_twice γ n δ) $ split ! $ fsplit ! $ drop ! $
        rewrite ! 3 (λ (d : ℕ). ‵ (Mine d (suc j) x)) (sym same) refl $ move ! (0 ∷ 3 ∷ 4 ∷ []) $
        use3 𝓛 (later (given (Seen b x) (‵ (Mine δ 0 b') ⊛ ‵ (Mine δ (suc j) y)))) (records δ b b' x y j so) $ await ! tt $ learn ! (λ seen. split ! $ now ! $ check ! seen $
        rewrite ! 1 (λ (d : ℕ). ‵ (Mine d (suc j) y)) same refl $ move ! (2 ∷ 0 ∷ []) $ join ! $ move ! (2 ∷ 1 ∷ []) $ join ! $ move ! (1 ∷ 0 ∷ []) $ done !))

    pub issues : (δ ε j tills held amount more : ℕ) → held + more ≤ 2 ^ 63 → ⟦ book_owns γ n δ tills held ⟧ ∗ ⟦ till_owns γ n ε j amount ⟧
        ⊢ H.⇛ (guard 𝓤 (Seen (tills, held) (1, amount)) (⟦ book_owns γ n δ tills (held + more) ⟧ ∗ ⟦ till_owns γ n ε j (amount + more) ⟧))
    unfolding book_owns till_owns
    issues δ ε j tills held amount more fits = recorded δ ε j (tills, held) (tills, held + more) (1, amount) (1, amount + more) (λ seen. (refl, omega arith, fits, λ (none : 1 ≡ 0). absurd (omega arith)))

    -- the till's row is at nothing from then on
    pub gathers : (δ ε j tills held amount : ℕ) → ⟦ book_owns γ n δ tills held ⟧ ∗ ⟦ till_owns γ n ε j amount ⟧
        ⊢ H.⇛ (guard 𝓤 (Seen (tills, held) (1, amount)) ⟦ book_owns γ n δ (tills - 1) (held - amount) ⟧)
    unfolding book_owns till_owns
    gathers δ ε j tills held amount = let Left : Fml = owns γ n δ 0 (tills - 1, held - amount) in let Gone : Fml = owns γ n ε (suc j) (0, 0) in
        qed 𝓛 (‵ (owns γ n δ 0 (tills, held)) ∷ ‵ (owns γ n ε (suc j) (1, amount)) ∷ []) ∵ updating ! $
        use2 𝓛 (later (given (Seen (tills, held) (1, amount)) (‵ Left ⊛ ‵ Gone)))
        (recorded δ ε j (tills, held) (tills - 1, held - amount) (1, amount) (0, 0) (λ seen. let a = seen.0.0 in let p = seen.1 in let bound = seen.2 in (omega arith, omega arith, omega arith, λ _. refl))) $
        await ! tt $ learn ! (λ seen. split ! $ now ! $ check ! seen $ keep ! (0 ∷ []) $ done !)

    pub shifted : (δ ε i j from to amount : ℕ) → amount ≤ from → ⟦ till_owns γ n δ i from ⟧ ∗ ⟦ till_owns γ n ε j to ⟧
        ⊢ H.⇛ (guard 𝓤 (from + to ≤ 2 ^ 63) (⟦ till_owns γ n δ i (from - amount) ⟧ ∗ ⟦ till_owns γ n ε j (to + amount) ⟧))
    unfolding till_owns
    shifted δ ε i j from to amount has = let Mine : ℕ → ℕ → ℕ → Fml = λ d k a. row d (suc k) (1, a) full_share in
        qed 𝓛 ((‵ (knows γ n δ) ⊛ ‵ (Mine δ i from)) ∷ (‵ (knows γ n ε) ⊛ ‵ (Mine ε j to)) ∷ []) ∵ updating ! $ split ! $ move ! (2 ∷ []) $ split ! $ move ! (2 ∷ 0 ∷ []) $
        use2 𝓛 (given (δ ≡ ε) (‵ (knows γ n δ) ⊛ ‵ (knows γ n ε))) (knows_agree γ n δ ε) $ learn ! (λ same. split ! $ use1 𝓛 (‵ (knows γ n δ) ⊛ ‵ (knows γ n δ)) (knows_twice γ n δ) $ split ! $ fsplit ! $ drop ! $
        rewrite ! 3 (λ (d : ℕ). ‵ (Mine d j to)) (sym same) refl $ move ! (0 ∷ 4 ∷ 3 ∷ []) $
        use3 𝓛 (later (given (from + to ≤ 2 ^ 63) (‵ (Mine δ i (from - amount)) ⊛ ‵ (Mine δ j (to + amount)))))
        (shifts δ (1, from) (1, from - amount) (1, to) (1, to + amount) i j refl (omega arith) (λ (none : 1 ≡ 0). absurd (omega arith)) (λ (none : 1 ≡ 0). absurd (omega arith))) $ await ! tt $ learn ! (λ apart. split ! $ now ! $ check ! apart $
        rewrite ! 1 (λ (d : ℕ). ‵ (Mine d j (to + amount))) same refl $ move ! (2 ∷ 0 ∷ []) $ join ! $ move ! (2 ∷ 1 ∷ []) $ join ! $ move ! (1 ∷ 0 ∷ []) $ done !))

    -- by what a `&` to each shows
    pub audited : (δ ε j tills held amount : ℕ) (q r : Share) → ⟦ knows γ n δ ⟧ ∗ ⟦ row δ 0 (tills, held) q ⟧ ∗ ⟦ knows γ n ε ⟧ ∗ ⟦ row ε (suc j) (1, amount) r ⟧
        ⊢ H.⇛ (guard 𝓤 (Seen (tills, held) (1, amount)) (⟦ row δ 0 (tills, held) q ⟧ ∗ ⟦ row ε (suc j) (1, amount) r ⟧))
    audited δ ε j tills held amount q r = let b : ℕ × ℕ = (tills, held) in let x : ℕ × ℕ = (1, amount) in
        qed 𝓛 (‵ (knows γ n δ) ∷ ‵ (row δ 0 b q) ∷ ‵ (knows γ n ε) ∷ ‵ (row ε (suc j) x r) ∷ []) ∵ updating ! $ move ! (0 ∷ 2 ∷ []) $
        use2 𝓛 (given (δ ≡ ε) (‵ (knows γ n δ) ⊛ ‵ (knows γ n ε))) (knows_agree γ n δ ε) $ learn ! (λ same. split ! $ fsplit ! $ drop ! $
        rewrite ! 3 (λ (d : ℕ). ‵ (row d (suc j) x r)) (sym same) refl $ move ! (0 ∷ 3 ∷ 2 ∷ []) $
        use3 𝓛 (later (given (Seen b x) (‵ (row δ 0 b q) ⊛ ‵ (row δ (suc j) x r)))) (audits δ b x j q r) $ await ! tt $ learn ! (λ seen. split ! $ now ! $ check ! seen $
        rewrite ! 1 (λ (d : ℕ). ‵ (row d (suc j) x r)) same refl $ keep ! (0 ∷ 1 ∷ []) $ done !))

    -- a book in hand, and what a `&` to one shows
    same_book : (δ ε : ℕ) (b c : ℕ × ℕ) (q : Share) → ⟦ owns γ n δ 0 b ⟧ ∗ ⟦ knows γ n ε ⟧ ∗ ⟦ row ε 0 c q ⟧ ⊢ H.⇛ (guard 𝓤 ⊥ ⟦ row δ 0 b full_share ⟧)
    same_book δ ε b c q = let Mine : Fml = row δ 0 b full_share in qed 𝓛 ((‵ (knows γ n δ) ⊛ ‵ Mine) ∷ ‵ (knows γ n ε) ∷ ‵ (row ε 0 c q) ∷ []) ∵ updating ! $ split ! $ move ! (0 ∷ 2 ∷ []) $
        use2 𝓛 (given (δ ≡ ε) (‵ (knows γ n δ) ⊛ ‵ (knows γ n ε))) (knows_agree γ n δ ε) $ learn ! (λ same. split ! $ fsplit ! $ drop ! $
        rewrite ! 3 (λ (d : ℕ). ‵ (row d 0 c q)) (sym same) refl $ move ! (0 ∷ 2 ∷ 3 ∷ []) $
        use3 𝓛 (later (given ⊥ (‵ Mine))) (owned_once δ b c q) $ await ! tt $ learn ! (λ never. absurd never))

    pub opens_till : (δ tills held : ℕ) → ⟦ book_owns γ n δ tills held ⟧ ⊢ H.⇛ (⟦ book_owns γ n δ (tills + 1) held ⟧ ∗ ⟦ fex ℕ (λ j. till_owns γ n δ j 0) ⟧)
    unfolding book_owns till_owns
    opens_till δ tills held = let Mine : ℕ × ℕ → Fml = λ z. row δ 0 z full_share in
        qed 𝓛 ((‵ (knows γ n δ) ⊛ ‵ (Mine (tills, held))) ∷ []) ∵ updating ! $ split ! $ use1 𝓛 (‵ (knows γ n δ) ⊛ ‵ (knows γ n δ)) (knows_twice γ n δ) $ split ! $ use1 𝓛 (‵ (knows γ n δ) ⊛ ‵ (knows γ n δ)) (knows_twice γ n δ) $ split ! $
        fsplit ! $ drop ! $ move ! (0 ∷ 3 ∷ []) $ use2 𝓛 (later (‵ (Mine (tills + 1, held)) ⊛ ‵ (New δ))) (grows δ (tills, held)) $ await ! tt $ split ! $ move ! (2 ∷ 0 ∷ []) $ fjoin ! $ move ! (1 ∷ []) $
        fpick ! (λ j. move ! (2 ∷ 0 ∷ []) $ fjoin ! $ fpack ! ℕ (λ k. owns γ n δ (suc k) (1, 0)) j $ now ! $ move ! (1 ∷ 0 ∷ []) $ done !)

    -- the next number gets its rows: the book's own, with no till
    pub opens_book : (m : ℕ) → ⟦ mint_owns γ n m ⟧ ⊢ H.⇛ (⟦ mint_owns γ (suc n) m ⟧ ∗ ⟦ fex ℕ (λ δ. book_owns γ n δ 0 0) ⟧)
    unfolding mint_owns book_owns
    opens_book m = let Name : ℕ → Fml = λ d. entry name_shares γ (suc n) (full_share, d) in
        qed 𝓛 (‵ (fsep (unnamed γ (suc n)) (unlisted γ m)) ∷ []) ∵ updating ! $ fsplit ! $ use1 𝓛 (‵ (Name 0) ⊛ ‵ (unnamed γ (suc (suc n)))) (entries_take name_shares 𝓛 γ (suc n) (λ _. (full_share, 0))) $ split ! $
        use0 𝓛 (later (some (λ (δ : ℕ). ‵ (roster δ 0 [])))) (via 𝓤 _ (entries_new row_shares 𝓛 0 (λ _. (full_share, (0, 0)))) (basic 𝓛 _)) $ await ! tt $ pick ! (λ δ.
        use1 𝓛 (later (‵ (roster δ 0 ((0, 0) ∷ [])) ⊛ ‵ (row δ 0 (0, 0) full_share))) (via 𝓤 _ (adds 𝓛 δ [] 0 0 refl (0, 0)) (basic 𝓛 _)) $ await ! tt $ split ! $
        use1 𝓛 (‵ (Rule δ)) (kept δ (0, 0) [] ((refl, refl, tt), omega arith)) $ use1 𝓛 (later (‵ (finv (Rule δ)))) (𝓛.invs.inv_new (Rule δ)) $ await ! tt $ move ! (2 ∷ []) $
        use1 𝓛 (later (‵ (Name δ))) (via 𝓤 _ (sets coded_ℕ 𝓛 γ (suc n) 0 δ) (basic 𝓛 _)) $ await ! tt $ use1 𝓛 (‵ (known γ n δ)) (known_in γ n full_share δ) $ move ! (0 ∷ 1 ∷ []) $ fjoin ! $ move ! (0 ∷ 1 ∷ []) $ fjoin ! $
        fpack ! ℕ (λ d. owns γ n d 0 (0, 0)) δ $ now ! $ move ! (1 ∷ 2 ∷ []) $ fjoin ! $ done !)

  -- so two books have different numbers
  pub differs : (γ n m δ ε tills held : ℕ) (c : ℕ × ℕ) (q : Share) → ⟦ book_owns γ n δ tills held ⟧ ∗ ⟦ knows γ m ε ⟧ ∗ ⟦ row ε 0 c q ⟧
      ⊢ H.⇛ (guard 𝓤 (n ≢ m) (⟦ book_owns γ n δ tills held ⟧ ∗ ⟦ row ε 0 c q ⟧))
  unfolding book_owns
  differs γ n m δ ε tills held c q = let b : ℕ × ℕ = (tills, held) in let Mine : Fml = owns γ n δ 0 b in let Theirs : Fml = row ε 0 c q in elim (cases_eq n m) [
    | inl same ↦ qed 𝓛 (‵ Mine ∷ ‵ (knows γ m ε) ∷ ‵ Theirs ∷ []) ∵ updating ! $ rewrite ! 1 (λ (k : ℕ). ‵ (knows γ k ε)) (sym same) refl $
        use3 𝓛 (later (given ⊥ (‵ (row δ 0 b full_share)))) (same_book γ n δ ε b c q) $ await ! tt $ learn ! (λ never. absurd never)
    | inr apart ↦ qed 𝓛 (‵ Mine ∷ ‵ (knows γ m ε) ∷ ‵ Theirs ∷ []) ∵ updating ! $ now ! $ check ! apart $ keep ! (0 ∷ 2 ∷ []) $ done !
  ]

  -- the entries of all numbers, and those that the first of them names
  pub begins : emp 𝓤 ⊢ H.⇛ ⟦ fex ℕ (λ γ. mint_owns γ 0 0) ⟧
  unfolding mint_owns
  begins = let Free : ℕ → Fml = λ γ. unnamed γ 0 in let free : emp 𝓤 ⊢ H.⇛ ⟦ fex ℕ Free ⟧ = via 𝓤 _ (entries_new name_shares 𝓛 0 (λ _. (full_share, 0))) (basic 𝓛 _) in
      qed 𝓛 [] ∵ updating ! $ use0 𝓛 (later (‵ (fex ℕ Free))) free $ await ! tt $ fpick ! (λ l. use0 𝓛 (later (‵ (fex ℕ Free))) free $ await ! tt $ fpick ! (λ γ.
      let Name : ℕ → Fml = λ d. entry name_shares γ 0 (full_share, d) in
      use1 𝓛 (‵ (Name 0) ⊛ ‵ (unnamed γ 1)) (entries_take name_shares 𝓛 γ 0 (λ _. (full_share, 0))) $ split ! $
      use1 𝓛 (later (‵ (Name l))) (via 𝓤 _ (sets coded_ℕ 𝓛 γ 0 0 l) (basic 𝓛 _)) $ await ! tt $ use1 𝓛 (‵ (named γ 0 l)) (named_in γ 0 full_share l) $ move ! (0 ∷ 2 ∷ []) $ fjoin ! $
      fpack ! ℕ (λ d. fsep (named γ 0 d) (unnamed d 0)) l $ move ! (1 ∷ 0 ∷ []) $ fjoin ! $ fpack ! ℕ (λ d. fsep (unnamed d 1) (unlisted d 0)) γ $ now ! $ done !))
