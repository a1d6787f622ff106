-- The result of a rule: a value, or the refusal that ends it.
use Rattle.std.specs.Prelude.{Bool, Option, Result, Ok, Err, ⊤, if◌then◌else◌}
use Rattle.std.specs.Option.{ok_or}
use Rattle.dmc_types.specs.declared.refusal.Refusal.{Refusal}
use Rattle.dmc_types.specs.declared.refusal.Refusal.TheVariants.{Range, Inexact}
use Rattle.dmc_types.specs.declared.refusal.Field.{Field}

-- the next rule starts from the value; a refusal ends all
infixl 10 ◌>>=◌
abbrev pub ◌>>=◌ : {A B E : Type 0} → Result A E → (A → Result B E) → Result B E
(Ok x) >>= f = f x
(Err e) >>= f = Err e

abbrev pub refuse_if : {E : Type 0} → Bool → E → Result ⊤ E
refuse_if b refusal = if b then Err refusal else Ok tt

-- a sum that is no value is refused Range
abbrev pub in_range : {X : Type 0} → Option X → Result X Refusal
in_range o = ok_or o Range

-- a rate whose spacing is no value is refused Inexact
abbrev pub exactly : {X : Type 0} → Result X Field → Result X Refusal
exactly (Ok x) = Ok x
exactly (Err field) = Err (Inexact field)
