-- What a handle owns says the same to every thread.
use Prim.Native.Nat.{ℕ}
use mir.Raw.{raw}
use base.Fraction.{full_share}
use base.Shift.{Keyless}
use denote.Memory.{lone}
use denote.RawPtr.{Ptr, block_ptr, null_ptr}
use denote.Param.Send.{part_keyless}
use Rattle.std.specs.declared.option.Option.{Option}
use Rattle.std.specs.declared.option.Option.TheVariants.{None, Some}
use Rattle.std.specs.contracts.alloc.Global as heap
use Rattle.std.proofs.Crossing.{frees}
use Rattle.dmc_c.specs.contracts.kept.Kept as row
use Rattle.dmc_c.proofs.kept.Kept.TheSendSync.{the_send}
use Rattle.dmc_c.specs.Ownership.{boxed_at, handle_owns}

boxed_keyless : (a : (heap.the_row).Denot) (p : Ptr) (kept : (row.the_row).Denot) → Keyless (boxed_at a p kept)
boxed_keyless a null_ptr kept = (tt, frees.frees a (raw (lone row.the_row.mir)) null_ptr)
boxed_keyless a (block_ptr b o) kept =
    (part_keyless row.the_row the_send full_share kept b o, frees.frees a (raw (lone row.the_row.mir)) (block_ptr b o))

pub owns_keyless : (flag : ℕ) (p : Ptr) (held : Option (row.the_row).Denot) → Keyless (handle_owns flag p held)
owns_keyless flag p None = tt
owns_keyless flag p (Some kept) = (tt, λ a. boxed_keyless a p kept)
