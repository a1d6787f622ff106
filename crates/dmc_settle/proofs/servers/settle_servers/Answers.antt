use Rattle.std.proofs.Common.{◌≡◌, ℕ, ◌<◌, ◌≤◌, List, [], ◌∷◌, ◌++◌, length, map, get_or, refl, sym, ap, ◌∙◌, subst, arith, rules}
use Rattle.std.specs.Prelude.{vec_capacity}
use Rattle.std.specs.Global.{Vec}
use Rattle.std.proofs.lemmas.List.{get_or-map, get_or-set_other, get_or_default, length-set}
use Rattle.dmc_shared.proofs.PlaceLemmas.{done_more, rest_more, push_more}
use Rattle.dmc_book.specs.BookState.{BookState, PassState}
use Rattle.dmc_book.specs.declared.pass.WorkerPass.{WorkerPass}
use Rattle.dmc_book.specs.Settling.{AreSettledDesks}
use Rattle.dmc_ledger.specs.Bundles.{ClientSide}
use Rattle.dmc_ledger.specs.declared.desk.ClientDesk.{ClientDesk}
use Rattle.dmc_settle.specs.internal.Filled.{AreServerNumbers, IsReadyServer, ServerNumbers, no_server_numbers, server_numbers}
use Rattle.dmc_settle.specs.internal.Places.{no_book, pass_states, sides}
use Rattle.dmc_settle.specs.declared.report.ServerReport.{ServerReport}
use Rattle.dmc_settle.proofs.Lists.{map_kept}
use Rattle.dmc_settle.proofs.servers.settle_servers.Given.{Over}
use Rattle.dmc_settle.proofs.servers.settle_servers.Goals.{After-index-books-s}
use Rattle.dmc_settle.proofs.servers.settle_servers.Goals as goal

-- ---- what the paths share

abbrev row_seen : (g : Over) → Vec (WorkerPass g.row.S.Denot) → List PassState
row_seen g = pass_states

in_books : (g : Over) (c : After-index-books-s g) → c.loop-s.s < length c.loop-s.books
in_books g c = omega (arith, c.loop-s-test.true, c.loop-s.invariant.a_book_each)

-- neither the book of this turn nor its passes were changed before
book_is : (g : Over) (c : After-index-books-s g) → get_or c.loop-s.books c.loop-s.s c.index-books-s.result ≡ get_or c.args.books.now c.loop-s.s no_book
book_is g c = get_or_default c.loop-s.books c.loop-s.s c.index-books-s.result no_book (in_books g c) ∙ c.loop-s.invariant.books_left c.loop-s.s (omega arith)

passes_are : (g : Over) (c : After-index-books-s g) → row_seen g c.replace-own.result ≡ get_or (map (row_seen g) c.args.passes.items) c.loop-s.s []
passes_are g c =
    let inv = c.loop-s.invariant in
    let in_passes : c.loop-s.s < length c.loop-s.passes.items = omega (arith, in_books g c, inv.a_book_each, inv.passes_each) in
    ap (row_seen g) c.replace-own.ensures.value ∙ ap (row_seen g) c.index_mut.ensures.value
    ∙ sym (get_or-map (row_seen g) c.loop-s.passes.items c.loop-s.s c.index_mut.result.now [] in_passes) ∙ inv.passes_left c.loop-s.s (omega arith)

-- ---- the goals

pub loop-s-init : goal.loop-s-init
loop-s-init g c = record {
  a_book_each = refl;
  passes_each = c.requires.passes;
  a_row_each = c.requires.rows;
  desks_each = ap length c.requires.empty;
  room = c.requires.room;
  books_left = λ k from. refl;
  passes_left = λ k from. refl;
  desks = λ k none. absurd (omega (arith, none));
  numbers = λ k none. absurd (omega (arith, none));
  servers = refl;
  stops = refl;
}

pub settle_server-settled-requires : goal.settle_server-settled-requires
settle_server-settled-requires g c =
    let a = (goal.at.settle_server-settled-requires g c).After-index-books-s in
    let s = c.loop-s.s in
    subst (λ (b : BookState g.row.T.Denot). IsReadyServer b (row_seen g c.replace-own.result)) (sym (book_is g a))
    (subst (λ (p : List PassState). IsReadyServer (get_or c.args.books.now s no_book) p) (sym (passes_are g a))
    (c.requires.ready s (omega (arith, in_books g a, c.loop-s.invariant.a_book_each))))

pub unwrap-requires : goal.unwrap-requires
unwrap-requires g c = c.push.ensures.succeeds (omega (arith, c.loop-s-test.true, c.loop-s.invariant.room, c.loop-s.invariant.desks_each, c.loop-s.desks.ok.0))

pub loop-s-preserved : goal.loop-s-preserved
loop-s-preserved g c =
    let a = (goal.at.loop-s-preserved g c).After-index-books-s in
    let s = c.loop-s.s in
    let inv = c.loop-s.invariant in
    let all : List (List PassState) = map (row_seen g) c.args.passes.items in
    let seen : Vec (ClientDesk g.row.S.Denot) → List ClientSide = sides in
    let read : ServerReport g.row.T.Denot → ServerNumbers g.row.T.Denot = server_numbers in
    let in_rows : s < length c.loop-s.rows = omega (arith, in_books g a, inv.a_book_each, inv.a_row_each) in
    let room : length c.args.books.now ≤ vec_capacity c.push.new.self = search rules in
    let pushed : c.push.new.self.items ≡ c.loop-s.desks.items ++ c.settle_server-settled.result ∷ [] = search rules in
    let settled : AreSettledDesks (get_or c.args.books.now s no_book).history (get_or all s []) (get_or c.args.books.now s no_book).desks (seen c.settle_server-settled.result) =
    subst (λ (b : BookState g.row.T.Denot). AreSettledDesks b.history (get_or all s []) b.desks (seen c.settle_server-settled.result)) (book_is g a)
    (subst (λ (p : List PassState). AreSettledDesks (get_or c.loop-s.books s c.index-books-s.result).history p (get_or c.loop-s.books s c.index-books-s.result).desks (seen c.settle_server-settled.result)) (passes_are g a)
    c.settle_server-settled.ensures.desks) in
    let numbers : AreServerNumbers g.T.Tag.ops (get_or c.args.books.now s no_book) (get_or all s []) (read c.settle_server-settled.new.row) =
    subst (λ (b : BookState g.row.T.Denot). AreServerNumbers g.T.Tag.ops b (get_or all s []) (read c.settle_server-settled.new.row)) (book_is g a)
    (subst (λ (p : List PassState). AreServerNumbers g.T.Tag.ops (get_or c.loop-s.books s c.index-books-s.result) p (read c.settle_server-settled.new.row)) (passes_are g a)
    c.settle_server-settled.ensures.numbers) in
    record {
      a_book_each = length-set c.loop-s.books s c.settle_server-settled.new.book ∙ inv.a_book_each;
      passes_each = length-set c.loop-s.passes.items s c.replace-own.new.dest ∙ inv.passes_each;
      a_row_each = length-set c.loop-s.rows s c.settle_server-settled.new.row ∙ inv.a_row_each;
      desks_each = search rules;
      room = room;
      books_left = λ k from. get_or-set_other c.loop-s.books s k c.settle_server-settled.new.book no_book (λ e. omega (arith, e, from)) ∙ inv.books_left k (omega (arith, from));
      passes_left = rest_more (row_seen g) [] all c.loop-s.passes.items s c.replace-own.new.dest inv.passes_left;
      desks = rw pushed (push_more seen [] (λ (k : ℕ) (ds : List ClientSide). AreSettledDesks (get_or c.args.books.now k no_book).history (get_or all k []) (get_or c.args.books.now k no_book).desks ds)
          c.loop-s.desks.items s c.settle_server-settled.result inv.desks_each inv.desks settled);
      numbers = done_more read no_server_numbers (λ (k : ℕ) (n : ServerNumbers g.row.T.Denot). AreServerNumbers g.T.Tag.ops (get_or c.args.books.now k no_book) (get_or all k []) n)
          c.loop-s.rows s c.settle_server-settled.new.row in_rows inv.numbers numbers;
      servers = map_kept (λ (r : ServerReport g.row.T.Denot). r.server) c.loop-s.rows s c.settle_server-settled.new.row c.index-rows-s.result in_rows c.settle_server-settled.ensures.server ∙ inv.servers;
      stops = map_kept (λ (r : ServerReport g.row.T.Denot). r.stops) c.loop-s.rows s c.settle_server-settled.new.row c.index-rows-s.result in_rows c.settle_server-settled.ensures.stops ∙ inv.stops;
    }
