-- A book of which nothing came in is consistent.
use Rattle.std.proofs.Common.{◌≡◌, ℕ, ◌+◌, ◌*◌, ◌<◌, ◌≤◌, List, length, get_or, replicate, refl, sym, ap, ◌∙◌, arith}
use Rattle.std.proofs.lemmas.List.{get_or-replicate, length-replicate}
use Rattle.dmc_types.specs.Values.{no_counts}
use Rattle.dmc_types.specs.declared.ids.ServerId.{ServerId}
use Rattle.dmc_tracker.specs.Numbers.{AreLimits}
use Rattle.dmc_shards.specs.ShardNumbers.{Numbers, no_numbers, new_numbers, numbers_at}
use Rattle.dmc_ledger.specs.Bundles.{books_per_pair}
use Rattle.dmc_sharded.specs.BookState.{BookState, DeskState, desk_at, new_desk, IsDesk, IsConsistent}

desk_is_new : (client s n : ℕ) → IsDesk client no_counts s (new_desk client s n)
desk_is_new client s n = record {
  its_client = refl;
  its_server = refl;
  stamps = (0, record { number = refl; total = refl; few = omega arith; gathered = refl; open_tills = refl });
  delta = record { number = refl; total = refl; few = omega arith; gathered = refl; open_tills = refl };
  rho = record { number = refl; total = refl; few = omega arith; gathered = refl; open_tills = refl };
}

numbers_are_new : (most shards : ℕ) (s : ServerId) → s.0 < shards → numbers_at (new_numbers most shards) s ≡ no_numbers
numbers_are_new most shards s within = get_or-replicate shards s.0 no_numbers no_numbers within

pub book_is_new : (client shards most n : ℕ) (desks : List DeskState) → AreLimits shards most → length desks ≡ shards
    → ((k : ℕ) → k < shards → desk_at desks k ≡ new_desk client k (n + books_per_pair * k))
    → IsConsistent (record { client = client; tracker = new_numbers most shards; desks = desks })
book_is_new client shards most n desks limits long each = record {
  balanced = λ s within. rw (numbers_are_new most shards s (omega (arith, within, long))) refl;
  desks = λ s within. rw (numbers_are_new most shards s (omega (arith, within, long)), each s.0 (omega (arith, within, long))) (desk_is_new client s.0 (n + books_per_pair * s.0));
  shards = long ∙ sym (length-replicate shards no_numbers);
  rho = omega arith;
  delta = omega arith;
  most = limits.max_limit;
}
