-- How results are compared, and steps that may fail.
use Rattle.std.specs.Prelude.{◌≡◌, Result, Ok, Err}
pub use Rattle.dmc_tag.specs.Outcome.{◌>>=◌}

-- the result of a call, seen by view, is this one
abbrev pub Gives : {X Y E : Type 0} → (X → Y) → Result X E → Result Y E → Type 0
Gives view (Ok x) answer = answer ≡ Ok (view x)
Gives view (Err e) answer = answer ≡ Err e
