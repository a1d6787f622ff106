use Rattle.std.proofs.Common.{◌≡◌, ℕ, ◌<◌, ◌≤◌, [], length, map, get_or}
use Rattle.std.specs.Prelude.{vec_capacity}
use Rattle.dmc_book.specs.Settling.{AreSettledDesks}
use Rattle.dmc_settle.specs.internal.Filled.{AreServerNumbers, no_server_numbers, server_numbers}
use Rattle.dmc_settle.specs.internal.Places.{no_book, pass_states, sides}
use Rattle.dmc_settle.proofs.servers.settle_servers.Given as goal

abbrev pub invariant-loop-s : goal.invariant-loop-s
invariant-loop-s g l = record {
  a_book_each : length l.books ≡ length l.fn.books;
  passes_each : length l.passes.items ≡ length l.fn.books;
  a_row_each : length l.rows ≡ length l.fn.books;
  desks_each : length l.desks.items ≡ l.s;
  room : length l.fn.books ≤ vec_capacity l.desks;
  books_left : (k : ℕ) → l.s ≤ k → get_or l.books k no_book ≡ get_or l.fn.books k no_book;
  passes_left : (k : ℕ) → l.s ≤ k → get_or (map pass_states l.passes.items) k [] ≡ get_or (map pass_states l.fn.passes.items) k [];
  desks : (k : ℕ) → k < l.s
      → AreSettledDesks (get_or l.fn.books k no_book).history (get_or (map pass_states l.fn.passes.items) k [])
      (get_or l.fn.books k no_book).desks (get_or (map sides l.desks.items) k []);
  numbers : (k : ℕ) → k < l.s
      → AreServerNumbers g.T.Tag.ops (get_or l.fn.books k no_book) (get_or (map pass_states l.fn.passes.items) k [])
      (get_or (map server_numbers l.rows) k no_server_numbers);
  servers : map (λ r. r.server) l.rows ≡ map (λ r. r.server) l.fn.rows;
  stops : map (λ r. r.stops) l.rows ≡ map (λ r. r.stops) l.fn.rows;
}
