-- Which cause a refusal has.
use Rattle.std.proofs.Common.{◌≡◌, ap, Result, Ok, Err}
use Rattle.dmc_history.specs.declared.ReserveFault.TheVariants as reserve

abbrev value : {X E : Type 0} → E → Result X E → E
value e (Ok x) = e
value e (Err f) = f

pub same_cause : {X E : Type 0} (a b : E) → ◌≡◌ {A = Result X E} (Err a) (Err b) → a ≡ b
same_cause {X} a b h = ap (value {X = X} a) h

pub memory_is_not_full : reserve.Memory ≡ reserve.HistoryFull → ⊥
memory_is_not_full e = absurd cc
