use Rattle.std.proofs.Common.{◌≡◌, ℕ, ◌<◌, List, [], length, get_or, map, refl, sym, ap, ◌∙◌, arith, below_more, subst}
use Rattle.std.proofs.lemmas.Bool.{false≢true}
use Rattle.std.proofs.lemmas.List.{get_or-map, get_or_read, length-map}
use Rattle.dmc_book.specs.BookState.{BookState, PassState, pass_state}
use Rattle.dmc_book.specs.declared.pass.WorkerPass.{WorkerPass}
use Rattle.dmc_settle.specs.internal.Checks.{AreServerParts}
use Rattle.dmc_settle.specs.internal.Places.{no_book, pass_states}
use Rattle.dmc_settle.specs.Left.{IsServerPart}
use Rattle.dmc_settle.proofs.checks.are_server_parts.Given.{Over}
use Rattle.dmc_settle.proofs.checks.are_server_parts.Goals as goal
use Rattle.dmc_settle.proofs.checks.are_server_parts.Goals.{After-is_server_part}
use Rattle.dmc_settle.proofs.checks.are_server_parts.Goals.{then-books-servers-via-then-books-servers, then-books-servers-via-else-books-servers+then-passes-servers}

-- ---- what the paths share

at : (g : Over) (c : After-is_server_part g) → c.index-books-s.result ≡ get_or c.args.books.now c.loop-s.s no_book
at g c = get_or_read c.args.books.now c.loop-s.s c.index-books-s.result (omega (arith, c.loop-s-test.true, c.if-books-servers.false)) c.index-books-s.is no_book

at_passes : (g : Over) (c : After-is_server_part g) → get_or (map pass_states c.args.passes.now) c.loop-s.s [] ≡ map pass_state c.deref.result.now
at_passes g c =
    let in_passes : c.loop-s.s < length c.args.passes.now = omega (arith, c.loop-s-test.true, c.if-passes-servers.false) in
    get_or-map pass_states c.args.passes.now c.loop-s.s c.index-passes-s.result [] in_passes ∙ ap pass_states (sym c.index-passes-s.is)
    ∙ ap (λ (ps : List (WorkerPass g.row.S.Denot)). map pass_state ps) (sym c.deref.ensures.value)

-- ---- the goals

pub returns-then-books-servers : goal.returns-then-books-servers
returns-then-books-servers g c = (
  (λ e. cc),
  (λ (all : AreServerParts c.args.scene.now c.args.books.now (map pass_states c.args.passes.now)). elim c.then-books-servers.branch [
    | then-books-servers-via-then-books-servers w ↦ absurd (w.if-books-servers.true (all.a_book_each ∙ sym c.servers-servers.ensures.value))
    | then-books-servers-via-else-books-servers+then-passes-servers w ↦ absurd (w.if-passes-servers.true (sym (length-map c.args.passes.now (pass_states {S = g.row.S.Denot})) ∙ all.passes_each ∙ sym c.servers-servers.ensures.value))
  ]),
)

pub loop-s-init : goal.loop-s-init
loop-s-init g c = λ k none. absurd (omega (arith, none))

pub bounds-books-s : goal.bounds-books-s
bounds-books-s g c = omega (arith, c.loop-s-test.true, c.if-books-servers.false)

pub bounds-passes-s : goal.bounds-passes-s
bounds-passes-s g c = omega (arith, c.loop-s-test.true, c.if-passes-servers.false)

pub returns-then-not-is_server_part : goal.returns-then-not-is_server_part
returns-then-not-is_server_part g c =
    let a = (goal.at.returns-then-not-is_server_part g c).After-is_server_part in
    let s = c.loop-s.s in (
      (λ e. cc),
      (λ (all : AreServerParts c.args.scene.now c.args.books.now (map pass_states c.args.passes.now)). absurd (false≢true (sym c.if-not-is_server_part.true ∙ c.is_server_part.ensures.1
          (subst (λ (b : BookState g.row.T.Denot). IsServerPart c.args.scene.now s b (map pass_state c.deref.result.now)) (sym (at g a))
          (subst (λ (p : List PassState). IsServerPart c.args.scene.now s (get_or c.args.books.now s no_book) p) (at_passes g a)
          (all.each s (omega (arith, c.loop-s-test.true, c.servers-servers.ensures.value)))))))),
    )

pub loop-s-preserved : goal.loop-s-preserved
loop-s-preserved g c =
    let a = (goal.at.loop-s-preserved g c).After-is_server_part in
    let s = c.loop-s.s in
    let all_passes : List (List PassState) = map pass_states c.args.passes.now in
    below_more (λ (k : ℕ). IsServerPart c.args.scene.now k (get_or c.args.books.now k no_book) (get_or all_passes k [])) s c.loop-s.invariant
    (subst (λ (b : BookState g.row.T.Denot). IsServerPart c.args.scene.now s b (get_or all_passes s [])) (at g a)
    (subst (λ (p : List PassState). IsServerPart c.args.scene.now s c.index-books-s.result p) (sym (at_passes g a))
    (c.is_server_part.ensures.0 c.if-not-is_server_part.false)))

pub returns : goal.returns
returns g c =
    let books_each : length c.args.books.now ≡ c.args.scene.now.servers = c.if-books-servers.false ∙ c.servers-servers.ensures.value in
    let passes_each : length c.args.passes.now ≡ c.args.scene.now.servers = c.if-passes-servers.false ∙ c.servers-servers.ensures.value in (
      (λ e. record {
        a_book_each = books_each;
        passes_each = length-map c.args.passes.now (pass_states {S = g.row.S.Denot}) ∙ passes_each;
        each = λ s within. c.loop-s.invariant s (omega (arith, within, c.loop-s-test.false, c.servers-servers.ensures.value));
      }),
      (λ all. refl),
    )
