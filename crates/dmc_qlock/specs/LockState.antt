-- What contracts see of a queue's lock.
use Rattle.std.specs.Prelude.{ℕ}

-- the number of the server whose book it is
pub record LockState : Type 0 where
  pub server : ℕ
