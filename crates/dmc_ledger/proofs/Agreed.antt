-- A value that the holders of its shares agree on: shares are cut, joined and compared, and the whole is set. Assumes `Logic`.
use Rattle.std.proofs.Common.{◌≡◌, ℕ, sym, refl, subst}
use mathlib.Core.Path.{Path}
use mathlib.Mathlib.Data.Part.{◌∈◌, mem_unique}
use seplogic.Ra.Ura.{Ura}
use seplogic.Ra.Constructions.Prod
use seplogic.Ra.Instances.Ag
use base.Fraction.{full_share}
use base.FractionLaws.{not-OpDef-full_share}
use base.Share
use base.Stored.{Coded}
use base.Algebra.{Algebra}
use base.SetCodes.{coded, SetCoded-set}
use base.Algebras.{both, shares, agreed}
use base.Logic.{SProp, ent, sep, ex, guard, upd, via, id⊢, ex_e, guard_e, guard_i, upd_mono}
use base.Fml.{Share, Fml}
use types.Logic.{Logic, sem}
use types.Keyed.{entry, entry_cut, entry_glue, entry_set}

module _ {X : Type 0} (cx : Coded X) where
  abbrev pub R : Algebra
  R = both shares (agreed (coded cx))

  pub sum : (x : X) (r e f : Share) → r ∈ Share.op e f → ◌∈◌ {α = Share × X} (r, x) (R.op (e, x) (f, x))
  sum x r e f m = Prod.mk-mem-op Share.op (Ag.op (SetCoded-set (coded cx))) {a = e} {a' = f} {x = r} {b = x} {b' = x} {y = x} m (Ag.idem (SetCoded-set (coded cx)) x)

  module _ {M : Type 1} {𝓤 : Ura M} (𝓛 : Logic 𝓤) (γ k : ℕ) where
    abbrev Pr : Type 2
    Pr = SProp 𝓤

    abbrev ◌⊢◌ : Pr → Pr → Type 1
    P ⊢ Q = ent 𝓤 P Q

    abbrev ◌∗◌ : Pr → Pr → Pr
    P ∗ Q = sep 𝓤 P Q

    infix 26 ◌⊢◌
    infixr 35 ◌∗◌
    abbrev at : Share → X → Fml
    at q x = entry R γ k (q, x)

    abbrev own : Share → X → Pr
    own q x = sem 𝓛 (at q x)

    pub cuts : (x : X) (r e f : Share) → r ∈ Share.op e f → own r x ⊢ own e x ∗ own f x
    cuts x r e f m = entry_cut R 𝓛 γ k (e, x) (f, x) (r, x) (sum x r e f m)

    -- two shares show one value
    pub agrees : (e f : Share) (x y : X) → own e x ∗ own f y ⊢ guard 𝓤 (x ≡ y) (own e x ∗ own f y)
    agrees e f x y = let F : Share × X → Pr = λ c. guard 𝓤 (c ∈ R.op (e, x) (f, y)) (sem 𝓛 (entry R γ k c)) in let Z : Pr = own e x ∗ own f y in
        via 𝓤 (ex 𝓤 F) (entry_glue R 𝓛 γ k (e, x) (f, y)) (ex_e 𝓤 F (λ c. guard_e 𝓤 (c ∈ R.op (e, x) (f, y)) (sem 𝓛 (entry R γ k c)) (λ m.
        via 𝓤 Z (entry_cut R 𝓛 γ k (e, x) (f, y) c m) (guard_i 𝓤 (x ≡ y) Z m.0.1))))

    pub joins : (r e f : Share) (x : X) → r ∈ Share.op e f → own e x ∗ own f x ⊢ own r x
    joins r e f x m = let F : Share × X → Pr = λ c. guard 𝓤 (c ∈ R.op (e, x) (f, x)) (sem 𝓛 (entry R γ k c)) in
        via 𝓤 (ex 𝓤 F) (entry_glue R 𝓛 γ k (e, x) (f, x)) (ex_e 𝓤 F (λ c. guard_e 𝓤 (c ∈ R.op (e, x) (f, x)) (sem 𝓛 (entry R γ k c)) (λ n.
        subst (λ (z : Share × X). sem 𝓛 (entry R γ k c) ⊢ sem 𝓛 (entry R γ k z)) (mem_unique (R.op (e, x) (f, x)) n (sum x r e f m)) (id⊢ 𝓤 _))))

    -- there is no share beside the whole
    pub excludes : (f : Share) (x y : X) → own full_share x ∗ own f y ⊢ guard 𝓤 ⊥ (own full_share x)
    excludes f x y = let F : Share × X → Pr = λ c. guard 𝓤 (c ∈ R.op (full_share, x) (f, y)) (sem 𝓛 (entry R γ k c)) in
        via 𝓤 (ex 𝓤 F) (entry_glue R 𝓛 γ k (full_share, x) (f, y)) (ex_e 𝓤 F (λ c. guard_e 𝓤 (c ∈ R.op (full_share, x) (f, y)) (sem 𝓛 (entry R γ k c)) (λ m. absurd (not-OpDef-full_share f m.0.0))))

    -- the whole goes to any value
    pub sets : (x y : X) → own full_share x ⊢ upd 𝓤 (own full_share y)
    sets x y = let B : Share × X → Type 0 = λ c. Path (Share × X) c (full_share, y) in let F : Share × X → Pr = λ c. guard 𝓤 (B c) (sem 𝓛 (entry R γ k c)) in let Z : Pr = own full_share y in
        via 𝓤 (upd 𝓤 (ex 𝓤 F)) (entry_set R 𝓛 γ k (full_share, x) B ∣ ((full_share, y), refl) ∣₁ (λ f d. absurd (not-OpDef-full_share f.0 d.0)))
        (upd_mono 𝓤 {P = ex 𝓤 F} {Q = Z} (ex_e 𝓤 F (λ c. guard_e 𝓤 (B c) (sem 𝓛 (entry R γ k c)) (λ e. subst (λ (z : Share × X). sem 𝓛 (entry R γ k z) ⊢ Z) (sym e) (id⊢ 𝓤 Z)))))
