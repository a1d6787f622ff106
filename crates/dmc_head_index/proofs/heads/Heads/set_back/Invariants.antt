use Rattle.std.proofs.Common.{◌≡◌, ℕ, ◌<◌, ◌≤◌, length}
use Rattle.std.specs.Option.{option_map}
use Rattle.dmc_index.specs.Index.{slot_of_key}
use Rattle.dmc_head_index.specs.Heads.{set_back}
use Rattle.dmc_head_index.proofs.heads.Heads.set_back.Given as goal

-- the keys before this one are set back, and the others are as they were
abbrev pub invariant-loop-key : goal.invariant-loop-key
invariant-loop-key g l = record {
  room : length l.self ≡ length l.fn.self;
  done : (k : ℕ) → k < l.key → slot_of_key l.self k ≡ option_map (set_back g.T.Tag.ops l.t) (slot_of_key l.fn.self k);
  rest : (k : ℕ) → l.key ≤ k → slot_of_key l.self k ≡ slot_of_key l.fn.self k;
}
