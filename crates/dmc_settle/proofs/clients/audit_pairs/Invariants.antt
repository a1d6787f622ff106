use Rattle.std.proofs.Common.{◌≡◌, ◌*◌, ◌≤◌, ◌<◌, ℕ, map, take, get_or}
use Rattle.std.specs.Prelude.{sum_by}
use Rattle.dmc_ledger.specs.Bundles.{server_side}
use Rattle.dmc_tlock.specs.BookState.{no_side}
use Rattle.dmc_settle.specs.internal.Filled.{IsAudited, responses_held, stamps_taken}
use Rattle.dmc_settle.specs.internal.Places.{desk_of, sides}
use Rattle.dmc_settle.proofs.clients.audit_pairs.Given as goal

abbrev pub invariant-loop-s : goal.invariant-loop-s
invariant-loop-s g l = record {
  audited : (k : ℕ) → k < l.s → IsAudited (desk_of (map sides l.desks) k l.client) (get_or (map server_side l.sides) k no_side);
  sent : l.taken.sent ≡ stamps_taken (map sides (take l.s l.desks)) l.client;
  completed : l.taken.completed ≡ sum_by responses_held (map server_side (take l.s l.sides));
  few_sent : l.taken.sent ≤ l.s * 2147483648;
  few_completed : l.taken.completed ≤ l.s * 2147483648;
}
