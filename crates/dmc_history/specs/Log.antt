-- What contracts see of a history.
use Rattle.std.specs.Prelude.{◌≡◌, ℕ, ◌%◌, ◌⊎◌, List}

-- the events, oldest first; how many it may have; and how many slots are reserved for more
pub record Log (E : Type 0) : Type 0 where
  pub events : List E
  pub most : ℕ
  pub room : ℕ

-- the number of slots in a block of a history
abbrev pub block_size : ℕ
block_size = 1024

-- This number of events fills its blocks, so that the next one needs an allocation. 0 does.
abbrev pub FillBlocks : ℕ → Type 0
FillBlocks count = count % block_size ≡ 0

-- The slots end after this number of events: at the end of a block, or if the history has the most that it may.
abbrev pub EndSlots : (count most : ℕ) → Type 0
EndSlots count most = FillBlocks count ⊎ (count ≡ most)
