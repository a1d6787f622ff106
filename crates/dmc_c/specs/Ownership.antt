-- What a handle owns: the box behind its pointer, if something is held.
use Rattle.std.specs.Prelude.{ℕ, Option, Some, None}
use Rattle.std.specs.Box.Ownership.{box_owns}
use Rattle.std.specs.contracts.alloc.Global as heap
use Rattle.std.specs.contracts.impls.GlobalAllocator.TheImpl.{ghosts}
use Rattle.dmc_c.specs.declared.kept.Kept.{Kept}
use Rattle.dmc_c.specs.contracts.kept.Kept as row
use base.Fml.{Fml, fsep, feq, fex}
use denote.RawPtr.{Ptr}

-- what is held at p, in a block that `Global` frees
abbrev pub boxed_at : (heap.the_row).Denot → Ptr → Kept → Fml
boxed_at alloc p kept = box_owns (ghosts.dealloc_token alloc) row.the_row p kept

-- the flag is 0 if nothing is held, and else 1
abbrev pub handle_owns : ℕ → Ptr → Option Kept → Fml
handle_owns flag p None = feq ℕ flag 0
handle_owns flag p (Some kept) = fsep (feq ℕ flag 1) (fex (heap.the_row).Denot (λ alloc. boxed_at alloc p kept))
