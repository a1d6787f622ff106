use Rattle.std.proofs.Common.{◌≡◌, ℕ, ◌<◌, Some, IsSome, length}
use Rattle.dmc_index.specs.Index.{slot_of_key}
use Rattle.dmc_tests_base.proofs.heaps.order_of.Given as goal

-- the keys so far are held, each by the client of its number
abbrev pub invariant-loop-key : goal.invariant-loop-key
invariant-loop-key g l = record {
  room : length (g.I.OrderIndex.slots l.index) ≡ 7;
  tags : length l.tags ≡ 7;
  all : (k : ℕ) → k < l.key → IsSome (slot_of_key (g.I.OrderIndex.slots l.index) k);
  clients : (k : ℕ) (r : _) → slot_of_key (g.I.OrderIndex.slots l.index) k ≡ Some r → (k < l.key) × (r.client.0 ≡ k);
}
