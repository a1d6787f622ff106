use Rattle.std.proofs.Common.{List, sym, ◌∙◌, subst}
use Rattle.std.proofs.lemmas.Bool.{false≢true}
use Rattle.dmc_book.specs.BookState.{PassState}
use Rattle.dmc_settle.specs.internal.Checks.{AreServerParts}
use Rattle.dmc_settle.specs.Left.{AreTogether, Left, left_of, stops_of}
use Rattle.dmc_settle.proofs.Together.{clients_of, pairs_of, passes_seen, servers_of, together_of}
use Rattle.dmc_settle.proofs.checks.are_together.Goals as goal

pub returns-then-not-are_server_parts : goal.returns-then-not-are_server_parts
returns-then-not-are_server_parts g c =
    let r : Left g.row.T.Denot = left_of c.args.books.now c.args.trackers.now c.args.passes.now (stops_of c.args.report.now) in
    let seen = passes_seen c.args.passes.now.workers.items in (
      (λ e. cc),
      (λ (all : AreTogether c.args.scene.now r). absurd (false≢true (sym c.if-not-are_server_parts.true ∙ c.are_server_parts.ensures.1
          (rw c.deref.ensures.value (subst (λ (ps : List (List PassState)). AreServerParts c.args.scene.now c.args.books.now ps) seen (servers_of c.args.scene.now r all)))))),
    )

pub returns-then-not-are_client_parts : goal.returns-then-not-are_client_parts
returns-then-not-are_client_parts g c =
    let r : Left g.row.T.Denot = left_of c.args.books.now c.args.trackers.now c.args.passes.now (stops_of c.args.report.now) in
    let seen = passes_seen c.args.passes.now.workers.items in (
      (λ e. cc),
      (λ (all : AreTogether c.args.scene.now r). absurd (false≢true (sym c.if-not-are_client_parts.true ∙ c.are_client_parts.ensures.1 (rw c.deref-2.ensures.value (clients_of c.args.scene.now r all))))),
    )

pub returns : goal.returns
returns g c =
    let r : Left g.row.T.Denot = left_of c.args.books.now c.args.trackers.now c.args.passes.now (stops_of c.args.report.now) in
    let seen = passes_seen c.args.passes.now.workers.items in
    let servers = rw c.deref.ensures.value at (c.are_server_parts.ensures.0 c.if-not-are_server_parts.false) in
    let clients = rw c.deref-2.ensures.value at (c.are_client_parts.ensures.0 c.if-not-are_client_parts.false) in (
      (λ e. together_of c.args.scene.now r (subst (λ (ps : List (List PassState)). AreServerParts c.args.scene.now c.args.books.now ps) (sym seen) servers) clients (c.are_pairs.ensures.0 e)),
      (λ (all : AreTogether c.args.scene.now r). c.are_pairs.ensures.1 (pairs_of c.args.scene.now r all)),
    )
