-- What a lock's contract says of a shard's stamp: that there is one.
use Rattle.std.proofs.Common.{◌≡◌, ◌+◌, ◌≤◌, Result, Ok, Err, refl, arith}
use Rattle.std.specs.Prelude.{IfOk, IfErr}
use Rattle.dmc_types.specs.Values.{Params}
use Rattle.dmc_types.specs.declared.ids.ServerId.{ServerId}
use Rattle.dmc_shards.specs.ShardNumbers.{Numbers, next_params}
use Rattle.dmc_sharded.specs.Arriving.{IsStampFor}

pub next_is_stamp : (n : Numbers) (s : ServerId) (params : Params) → IsStampFor params (next_params n s params)
next_is_stamp n s params = record { cost = refl; delta = omega arith; rho = omega arith }

module _ {X E : Type 0} {params : Params} (stamped : Params) (fits : IsStampFor params stamped) where
  pub some_stamp_if_ok : (r : Result X E) (R : Params → X → Type 0) → IfOk r (R stamped) → IfOk r (λ x. (s : Params) × IsStampFor params s × R s x)
  some_stamp_if_ok (Ok x) R h = (stamped, fits, h)
  some_stamp_if_ok (Err e) R h = tt

  pub some_stamp_if_err : (r : Result X E) (R : Params → E → Type 0) → IfErr r (R stamped) → IfErr r (λ e. (s : Params) × IsStampFor params s × R s e)
  some_stamp_if_err (Ok x) R h = tt
  some_stamp_if_err (Err e) R h = (stamped, fits, h)
