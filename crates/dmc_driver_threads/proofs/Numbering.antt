-- Workers and clients of different numbers.
use Rattle.std.proofs.Common.{◌≡◌, ◌≢◌, ℕ, suc, ◌+◌, ◌<◌, ◌≤◌, eqb, false, List, [], ◌∷◌, ◌++◌, length, map, get_or, sym, ap, subst, arith}
use Rattle.std.specs.Prelude.{AllPairs}
use Rattle.std.specs.List.{AllByRecursion}
use Rattle.std.proofs.lemmas.Bool.{eqb-true, false_from_ne_true}
use Rattle.dmc_types.specs.declared.ids.ClientId.{ClientId}
use Rattle.dmc_types.specs.declared.ids.WorkerId.{WorkerId}
use Rattle.dmc_lemmas.proofs.Lists.{all_as, all_next}
use Rattle.dmc_ledger.specs.Bundles.{ClientSide}
use Rattle.dmc_book.specs.Opening.{AreApart}
use Rattle.dmc_scene.specs.SceneValue.{ClientValue}
use Rattle.dmc_scene.specs.SceneValue as scene_value
use Rattle.dmc_driver_threads.specs.internal.Books.{AreNumbered}
use Rattle.dmc_driver_threads.specs.internal.Desks.{ids_of}

is_other : (n m : ℕ) → (n ≡ m → ⊥) → eqb n m ≡ false
is_other n m ne = false_from_ne_true (eqb n m) (λ e. ne (eqb-true n m e))

-- ---- workers

abbrev pub worker_of : ℕ → WorkerId
worker_of n = record { 0 = n }

abbrev number_of : WorkerId → ℕ
number_of w = w.0

apart_more : (n : ℕ) (ws : List WorkerId) → AreApart number_of ws → AllByRecursion (λ (w : WorkerId). w.0 < n) ws → AreApart number_of (ws ++ worker_of n ∷ [])
apart_more n [] apart below = (tt, tt)
apart_more n (w ∷ ws) apart below = (
  all_next (λ (o : WorkerId). eqb o.0 w.0 ≡ false) ws (worker_of n) apart.0 (is_other n w.0 (λ e. omega (arith, e, below.0))),
  apart_more n ws apart.1 below.1,
)

-- one worker more, of the next number
pub numbered_more : (n : ℕ) (ws : List WorkerId) → AreNumbered n ws → AreNumbered (n + 1) (ws ++ worker_of n ∷ [])
numbered_more n ws h = record {
  apart = apart_more n ws h.apart h.below;
  below = all_next (λ (w : WorkerId). w.0 < n + 1) ws (worker_of n)
      (all_as (λ (w : WorkerId). w.0 < n) (λ (w : WorkerId). w.0 < n + 1) (λ w l. omega (arith, l)) ws h.below) (omega arith);
}

pub numbered_further : (n m : ℕ) (ws : List WorkerId) → n ≤ m → AreNumbered n ws → AreNumbered m ws
numbered_further n m ws le h = record {
  apart = h.apart;
  below = all_as (λ (w : WorkerId). w.0 < n) (λ (w : WorkerId). w.0 < m) (λ w l. omega (arith, l, le)) ws h.below;
}

-- ---- clients

others : (c : ClientValue) (cs : List ClientValue) → ((k : ℕ) (d : ClientValue) → k < length cs → c.id ≢ (get_or cs k d).id)
    → AllByRecursion (λ (n : ℕ). eqb n c.id.0 ≡ false) (ids_of cs)
others c [] h = tt
others c (x ∷ xs) h =
    let id : ℕ → ClientId = λ n. record { 0 = n } in
    (is_other x.id.0 c.id.0 (λ e. h 0 x (omega arith) (ap id (sym e))), others c xs (λ k d l. h (suc k) d (omega (arith, l))))

ids_apart : (cs : List ClientValue) → AllPairs scene_value.AreApart cs → AreApart (λ (n : ℕ). n) (ids_of cs)
ids_apart [] h = tt
ids_apart (c ∷ cs) h = (
  others c cs (λ k d l. h 0 (suc k) d (omega arith) (omega (arith, l))),
  ids_apart cs (λ i j d l m. h (suc i) (suc j) d (omega (arith, l)) (omega (arith, m))),
)

module _ {X : Type 0} (number : X → ℕ) where
  others_by : (n : ℕ) (xs : List X) → AllByRecursion (λ (m : ℕ). eqb m n ≡ false) (map number xs) → AllByRecursion (λ x. eqb (number x) n ≡ false) xs
  others_by n [] h = tt
  others_by n (x ∷ xs) h = (h.0, others_by n xs h.1)

  apart_by : (xs : List X) → AreApart (λ (n : ℕ). n) (map number xs) → AreApart number xs
  apart_by [] h = tt
  apart_by (x ∷ xs) h = (others_by (number x) xs h.0, apart_by xs h.1)

-- the desks of a scene's clients
pub desks_apart : (sides : List ClientSide) (cs : List ClientValue) → map (λ (d : ClientSide). d.client) sides ≡ ids_of cs
    → AllPairs scene_value.AreApart cs → AreApart (λ (d : ClientSide). d.client) sides
desks_apart sides cs same apart = apart_by (λ (d : ClientSide). d.client) sides (subst (AreApart (λ (n : ℕ). n)) (sym same) (ids_apart cs apart))
