-- What a `&` to a token holds, and that it may go to another thread. Assumes `Logic`.
use Rattle.std.proofs.Common.{ℕ, suc, List, [], ◌∷◌}
use seplogic.Ra.Ura.{Ura}
use base.Fraction.{full_share, left, right}
use base.FractionLaws.{mem_halves}
use base.Stored.{coded_ℕ, coded×}
use base.Logic.{SProp, ent, sep, wand, apply∗, snd∗, id⊢}
use base.Fml.{Lft, Share, Fml, fbor, fshr_bor}
use base.Before.{before}
use base.Shift.{Keyless}
use ghost.Rules.{Halves}
use types.Logic.{Logic, sem, lfts}
use types.Keyed.{entry_keyless, entries_keyless}
use types.Kit.{‵, raw, ◌⊛◌, later, ◌$◌, !, qed, move, drop, split, use1, use2, updating, await, now, done}
use types.Tokens.{bor_fracture}
use denote.Sharing.{ShrLaws, said, one}
use denote.SharingLaws.{beside_shr_laws, one_shr_laws}
use denote.Struct.Lending.{Lends, Lends-both}
use Rattle.dmc_ledger.specs.Rows.{row_shares, name_shares, named, unnamed, roster, knows, row, owns, shows, mint_owns, book_owns, book_shares, till_owns, till_shares}
use Rattle.dmc_ledger.proofs.Agreed.{cuts, joins}
use Rattle.dmc_ledger.proofs.Ledger.{knows_twice}

module _ (γ n δ k : ℕ) (x : ℕ × ℕ) where
  abbrev P : Fml
  P = knows γ n δ

  abbrev Φ : Share → Fml
  Φ = row δ k x

  laws : ShrLaws (shows γ n δ k x)
  laws = beside_shr_laws (said P) (one Φ) record { contraction = λ M 𝓤 𝓛 _. knows_twice 𝓛 γ n δ; mono = λ M 𝓤 𝓛 κ' κ. snd∗ 𝓤 (sem 𝓛 (before κ' κ)) (sem 𝓛 P) } (one_shr_laws Φ)

  module _ {M : Type 1} {𝓤 : Ura M} (𝓛 : Logic 𝓤) where
    open 𝓛 use {H, A}

    knowledge : (l : Lft) → Lends 𝓛 P (said P) l
    knowledge l κ ts inc sp = let Back : SProp 𝓤 = H.⇛ (sep 𝓤 (A.bor κ P) (lfts 𝓛 ts)) in qed 𝓛 (‵ (fbor κ P) ∷ raw (lfts 𝓛 ts) ∷ []) {P = H.⇛ (sep 𝓤 (sem 𝓛 P) (lfts 𝓛 ts))} (
        updating ! $ use2 𝓛 (later (‵ P ⊛ raw (wand 𝓤 (sem 𝓛 P) Back))) (𝓛.more.bor_acc_by κ ts P sp) $ await ! tt $ split ! $ use1 𝓛 (‵ P ⊛ ‵ P) (knows_twice 𝓛 γ n δ) $ split ! $ move ! (0 ∷ 2 ∷ []) $
        use2 𝓛 (later (‵ (fbor κ P) ⊛ raw (lfts 𝓛 ts))) (apply∗ 𝓤 (sem 𝓛 P) Back) $ await ! tt $ split ! $ drop ! $ move ! (1 ∷ 0 ∷ []) $ now ! $ done !)

    fractures : (l : Lft) → Lends 𝓛 (Φ full_share) (one Φ) l
    fractures l κ ts inc sp = qed 𝓛 (‵ (fbor κ (Φ full_share)) ∷ raw (lfts 𝓛 ts) ∷ []) {P = H.⇛ (sep 𝓤 (sem 𝓛 (one Φ κ)) (lfts 𝓛 ts))} (updating ! $ bor_fracture ! tt Φ full_share $ now ! $ done !)

    lends : (l : Lft) → Lends 𝓛 (owns γ n δ k x) (shows γ n δ k x) l
    lends l = Lends-both 𝓛 P (Φ full_share) (said P) (one Φ) l (knowledge l) (fractures l)

    -- half of a share of the row is that share of its half
    pub row_halves : Halves 𝓤 H A Φ
    row_halves = record {
      cut = λ q. cuts (coded× coded_ℕ coded_ℕ) 𝓛 δ k x (left q) (left (left q)) (right (left q)) (mem_halves (left q));
      join = λ q. joins (coded× coded_ℕ coded_ℕ) 𝓛 δ k (left q) (left (left q)) (right (left q)) x (mem_halves (left q));
    }

pub book_laws : (γ n δ tills held : ℕ) → ShrLaws (book_shares γ n δ tills held)
unfolding book_shares
book_laws γ n δ tills held = laws γ n δ 0 (tills, held)

pub till_laws : (γ n δ j amount : ℕ) → ShrLaws (till_shares γ n δ j amount)
unfolding till_shares
till_laws γ n δ j amount = laws γ n δ (suc j) (1, amount)

pub book_lends : (γ n δ tills held : ℕ) {M : Type 1} {𝓤 : Ura M} (𝓛 : Logic 𝓤) (l : Lft) → Lends 𝓛 (book_owns γ n δ tills held) (book_shares γ n δ tills held) l
unfolding book_owns book_shares
book_lends γ n δ tills held 𝓛 l = lends γ n δ 0 (tills, held) 𝓛 l

pub till_lends : (γ n δ j amount : ℕ) {M : Type 1} {𝓤 : Ura M} (𝓛 : Logic 𝓤) (l : Lft) → Lends 𝓛 (till_owns γ n δ j amount) (till_shares γ n δ j amount) l
unfolding till_owns till_shares
till_lends γ n δ j amount 𝓛 l = lends γ n δ (suc j) (1, amount) 𝓛 l

pub book_shown : (γ n δ tills held : ℕ) {M : Type 1} {𝓤 : Ura M} (𝓛 : Logic 𝓤) (κ : Lft) → ent 𝓤 (sem 𝓛 (book_shares γ n δ tills held κ)) (sep 𝓤 (sem 𝓛 (knows γ n δ)) (sem 𝓛 (fshr_bor κ (row δ 0 (tills, held)))))
unfolding book_shares
book_shown γ n δ tills held {𝓤 = 𝓤} 𝓛 κ = id⊢ 𝓤 _

pub till_shown : (γ n δ j amount : ℕ) {M : Type 1} {𝓤 : Ura M} (𝓛 : Logic 𝓤) (κ : Lft) → ent 𝓤 (sem 𝓛 (till_shares γ n δ j amount κ)) (sep 𝓤 (sem 𝓛 (knows γ n δ)) (sem 𝓛 (fshr_bor κ (row δ (suc j) (1, amount)))))
unfolding till_shares
till_shown γ n δ j amount {𝓤 = 𝓤} 𝓛 κ = id⊢ 𝓤 _

-- ---- no thread's key is named
roster_keyless : (δ k : ℕ) (xs : List (ℕ × ℕ)) → Keyless (roster δ k xs)
roster_keyless δ k [] = entries_keyless row_shares δ k (λ _. (full_share, (0, 0)))
roster_keyless δ k (x ∷ xs) = (entry_keyless row_shares δ k (right full_share, x), roster_keyless δ (suc k) xs)

pub named_keyless : (γ k δ : ℕ) → Keyless (named γ k δ)
named_keyless γ k δ = λ q. entry_keyless name_shares γ k (q, δ)

knows_keyless : (γ n δ : ℕ) → Keyless (knows γ n δ)
knows_keyless γ n δ = (named_keyless γ (suc n) δ, λ s. (roster_keyless δ 0 (s.0 ∷ s.1), λ _. tt))

unnamed_keyless : (γ k : ℕ) → Keyless (unnamed γ k)
unnamed_keyless γ k = entries_keyless name_shares γ k (λ _. (full_share, 0))

pub mint_keyless : (γ n m : ℕ) → Keyless (mint_owns γ n m)
unfolding mint_owns
mint_keyless γ n m = (unnamed_keyless γ (suc n), λ l. (named_keyless γ 0 l, unnamed_keyless l m))

pub book_keyless : (γ n δ tills held : ℕ) → Keyless (book_owns γ n δ tills held)
unfolding book_owns
book_keyless γ n δ tills held = (knows_keyless γ n δ, entry_keyless row_shares δ 0 (left full_share, (tills, held)))

pub till_keyless : (γ n δ j amount : ℕ) → Keyless (till_owns γ n δ j amount)
unfolding till_owns
till_keyless γ n δ j amount = (knows_keyless γ n δ, entry_keyless row_shares δ (suc j) (left full_share, (1, amount)))

pub book_shown_keyless : (γ n δ tills held : ℕ) (κ : Lft) → Keyless (book_shares γ n δ tills held κ)
unfolding book_shares
book_shown_keyless γ n δ tills held κ = (knows_keyless γ n δ, λ q. entry_keyless row_shares δ 0 (left q, (tills, held)))

pub till_shown_keyless : (γ n δ j amount : ℕ) (κ : Lft) → Keyless (till_shares γ n δ j amount κ)
unfolding till_shares
till_shown_keyless γ n δ j amount κ = (knows_keyless γ n δ, λ q. entry_keyless row_shares δ (suc j) (left q, (1, amount)))
