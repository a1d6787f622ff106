-- Options: by cases, through a map, and under a test; and what the error of a result is.
use Rattle.std.proofs.Common.{◌≡◌, Bool, true, false, cond, Option, Some, None, is_some, Result, Ok, Err, refl, ap}
use Rattle.std.specs.Prelude.{IsErrAnd, OnErr, is_none, if◌then◌else◌}
use Rattle.std.specs.Option.{option_map}

pub option_cases : {X G : Type 0} (o : Option X) → (o ≡ None → G) → ((x : X) → o ≡ Some x → G) → G
option_cases None none some = none refl
option_cases (Some x) none some = some x refl

pub is_some_mapped : {X Y : Type 0} (f : X → Y) (o : Option X) → is_some (option_map f o) ≡ is_some o
is_some_mapped f None = refl
is_some_mapped f (Some x) = refl

pub map_cond : {X Y : Type 0} (f : X → Y) (b : Bool) (x : X) (o : Option X) → option_map f (cond b (Some x) o) ≡ cond b (Some (f x)) (option_map f o)
map_cond f true x o = refl
map_cond f false x o = refl

-- both are there, or neither
pub same_presence : {X : Type 0} (o p : Option X) → (if is_some o then is_none p else is_some p) ≡ false → is_some o ≡ is_some p
same_presence None None e = refl
same_presence None (Some y) e = cc
same_presence (Some x) None e = cc
same_presence (Some x) (Some y) e = refl

-- what a `?` passes on
pub err_is : {X E : Type 0} (r : Result X E) (e : E) → IsErrAnd r (λ f. f ≡ e) → r ≡ Err e
err_is (Ok x) e h = absurd h
err_is (Err f) e h = ap Err h

-- a fact holds of an error whatever the result is
pub of_err : {X E A : Type 0} (r : Result X E) → A → OnErr r A
of_err (Ok x) a = tt
of_err (Err e) a = a
