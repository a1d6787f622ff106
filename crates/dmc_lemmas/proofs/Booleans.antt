-- Numbers that are compared.
use Rattle.std.proofs.Common.{◌≡◌, ℕ, Bool, true, false, refl, sym}
use Rattle.std.specs.Prelude.{◌==◌}
use Rattle.std.proofs.lemmas.Bool.{eqb-true, eqb-false, eq-eqb}

pub eqb_turned : (a b : ℕ) (r : Bool) → (b == a) ≡ r → (a == b) ≡ r
eqb_turned a b true e = eq-eqb a b (sym (eqb-true b a e))
eqb_turned a b false e = by (a == b) refl where
  by : (r : Bool) → (a == b) ≡ r → (a == b) ≡ false
  by true f = absurd (eqb-false b a e (sym (eqb-true a b f)))
  by false f = f
