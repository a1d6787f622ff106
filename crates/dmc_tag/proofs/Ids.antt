-- Ids: an id is equal to itself, two are compared either way, and in lists where no two are equal the one at an index is found
-- there.
use Rattle.std.proofs.Common.{◌≡◌, ℕ, ◌<◌, Bool, false, true, List, length, eqb, zero, suc, [], ◌∷◌, get_or, slice_get, Some, refl, sym, arith}
use Rattle.std.specs.Prelude.{position}
use Rattle.std.specs.List.{AllByRecursion, IsDistinct}
use Rattle.std.proofs.lemmas.List.Sums.{position_or_len_is}
use Rattle.std.proofs.lemmas.Option.{same_Some, slice_get_within, get_or_from_slice_get}
use Rattle.std.proofs.lemmas.Bool.{eq-eqb, lt-ltb}
use Rattle.dmc_types.specs.declared.ids.ClientId.{ClientId}
use Rattle.dmc_tag.specs.State.{is_client}
use Rattle.dmc_lemmas.proofs.Booleans.{eqb_turned}

pub itself_id : (id : ClientId) → is_client id id ≡ true
itself_id id = eq-eqb id.0 id.0 refl

pub client_turned : (a b : ClientId) (r : Bool) → is_client b a ≡ r → is_client a b ≡ r
client_turned a b r e = eqb_turned b.0 a.0 r e

-- what holds of each element holds of the one at an index
pub all_there : {A : Type 0} (P : A → Type 0) (xs : List A) (i : ℕ) (x : A) → AllByRecursion P xs → slice_get xs i ≡ Some x → P x
all_there P [] i x h e = cc
all_there P (y ∷ ys) zero x h e = rw (sym (same_Some y x e)) h.0
all_there P (y ∷ ys) (suc i) x h e = all_there P ys i x h.1 e

other_before : (id : ClientId) (ks : List ClientId) (i k : ℕ) → IsDistinct (λ a b. eqb a.0 b.0) ks → slice_get ks i ≡ Some id → k < i → eqb id.0 (get_or ks k id).0 ≡ false
unfolding IsDistinct
other_before id [] i k d at w = cc
other_before id (x ∷ ks) zero k d at w = absurd (omega (arith, w))
other_before id (x ∷ ks) (suc i) zero d at w = eqb_turned id.0 x.0 false (all_there (λ y. eqb x.0 y.0 ≡ false) ks i id d.0 at)
other_before id (x ∷ ks) (suc i) (suc k) d at w = other_before id ks i k d.1 at (omega (arith, w))

pub position_at : (id : ClientId) (ks : List ClientId) (i : ℕ) → IsDistinct (λ a b. eqb a.0 b.0) ks → slice_get ks i ≡ Some id → position (λ k. eqb id.0 k.0) ks ≡ Some i
position_at id ks i d at =
    let within = slice_get_within ks i id at in
    let here : eqb id.0 (get_or ks i id).0 ≡ true = rw (get_or_from_slice_get ks i id id at) (eq-eqb id.0 id.0 refl) in
    let len = position_or_len_is (λ (k : ClientId). eqb id.0 k.0) ks i id (omega (arith, within)) (λ k w. other_before id ks i k d at w) (λ w. here) in
    rw (len, lt-ltb i (length ks) within) refl
