use Rattle.std.proofs.Common.{◌≡◌, ◌<◌, length, ◌∙◌, ap, subst, sym, false, Err}
use Rattle.dmc_pull.specs.Queue as queue
use Rattle.dmc_lemmas.proofs.Options.{err_is}
use Rattle.dmc_book.specs.BookState.{AccountsState, BookState, pass_state, state_of}
use Rattle.dmc_book.specs.Calls.{Asks, event_of, lacks_desk}
use Rattle.dmc_book.specs.Consistent.{IsReplayed}
use Rattle.dmc_book.specs.Moves.{takes}
use Rattle.dmc_book.specs.internal.Runs.{Runs}
use Rattle.dmc_book.proofs.Counting.{book_reserved, history_recorded, replayed_more}
use Rattle.dmc_book.proofs.AskLemmas.{replayed_unasked}
use Rattle.dmc_book.proofs.RunLemmas.{unasked}
use Rattle.dmc_book.proofs.book.QueueBook.hand_on.Goals as goal

pub invariant_of-self-in_err-reply : goal.invariant_of-self-in_err-reply
invariant_of-self-in_err-reply g c =
    let here = c.self.inside in
    let pass = pass_state c.args.pass.now in
    let allows = takes c.reserve.new.self.desks pass.clients pass.units in
    subst (IsReplayed g.T.Tag.ops (queue.state_of c.ask.new.queue) here.config) (sym (ap (λ (a : AccountsState g.row.T.Denot). a.history) c.reserve.ensures.kept))
    (replayed_unasked g.T.Tag.ops (length pass.units < length c.reserve.new.self.desks) allows (queue.state_of here.queue.0) (queue.state_of c.ask.new.queue) here.config here.accounts.history c.args.command c.self.invariant c.in_err-reply.field-0.0 c.in_err-reply.ensures)

pub returns-in_err-reply : goal.returns-in_err-reply
returns-in_err-reply g c =
    let here = c.self.inside in
    let pass = pass_state c.args.pass.now in
    let q = queue.state_of here.queue.0 in
    let p = queue.state_of c.ask.new.queue in
    let fault = c.in_err-reply.field-0.0 in
    let b : BookState g.row.T.Denot = state_of here.config here.accounts here.closed in
    let r : BookState g.row.T.Denot = state_of here.config c.reserve.new.self here.closed in
    let same : r ≡ b = book_reserved here.config here.closed here.accounts c.reserve.new.self c.reserve.ensures.kept in
    let enrolled = c.is_enrolled.ensures.0 c.if-not-is_enrolled.false in
    let has_desk : lacks_desk b.desks c.args.command ≡ false = sym c.lacks_desk_for.ensures ∙ c.if-lacks_desk_for.false in
    let asked = subst (λ (a : AccountsState g.row.T.Denot). Asks g.T.Tag.ops (length pass.units < length a.desks) (takes a.desks pass.clients pass.units) q p c.args.command (Err fault)) c.reserve.ensures.kept c.in_err-reply.ensures in
    let is = err_is c.from_residual-in_err-reply.result _ c.from_residual-in_err-reply.ensures.1 in
    subst (λ (a : BookState g.row.T.Denot). Runs g.T.Tag.ops a pass c.args.command r pass c.from_residual-in_err-reply.result) c.self.view_is
    (subst (λ n. Runs g.T.Tag.ops b pass c.args.command n pass c.from_residual-in_err-reply.result) (sym same)
    (subst (Runs g.T.Tag.ops b pass c.args.command b pass) (sym is)
    (unasked g.T.Tag.ops b pass c.args.command enrolled has_desk q p c.self.invariant c.in_ok-reserve.ensures.fewer fault asked)))

pub invariant_of-self-2 : goal.invariant_of-self-2
invariant_of-self-2 g c =
    let here = c.self.inside in
    let e = event_of c.args.pass.now.worker.0 c.args.command c.in_ok-reply.reply in
    let history = history_recorded here.config here.closed here.accounts c.reserve.new.self c.reserve.ensures.kept e c.record.new.self c.record.ensures.accounts in
    subst (IsReplayed g.T.Tag.ops (queue.state_of c.ask.new.queue) here.config) (sym history)
    (replayed_more g.T.Tag.ops (queue.state_of here.queue.0) (queue.state_of c.ask.new.queue) here.config here.accounts.history c.self.invariant e c.in_ok-reply.ensures.0)
