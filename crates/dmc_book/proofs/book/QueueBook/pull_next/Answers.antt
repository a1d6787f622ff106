use Rattle.std.proofs.Common.{◌≡◌, ◌<◌, length, ◌∙◌, refl, subst, sym, Err}
use Rattle.dmc_types.specs.declared.command.Command.TheVariants.{Pull}
use Rattle.dmc_pull.specs.Queue as queue
use Rattle.dmc_book.specs.BookState.{AccountsState, BookState, pass_state, state_of}
use Rattle.dmc_book.specs.Calls.{Asks, asked, event_of}
use Rattle.dmc_book.specs.Consistent.{IsReplayed}
use Rattle.dmc_book.specs.Moves.{takes}
use Rattle.dmc_book.specs.internal.Runs.{Runs}
use Rattle.dmc_book.proofs.Counting.{book_reserved, history_recorded, replayed_more}
use Rattle.dmc_book.proofs.RunLemmas.{unasked}
use Rattle.dmc_book.proofs.book.QueueBook.pull_next.Goals as goal

pub returns-in-Err-reply_of : goal.returns-in-Err-reply_of
returns-in-Err-reply_of g c =
    let here = c.self.inside in
    let pass = pass_state c.args.pass.now in
    let q = queue.state_of here.queue.0 in
    let p = queue.state_of c.ask_to_pull-answer.new.queue in
    let fault = c.in-Err-reply_of.fault in
    let b : BookState g.row.T.Denot = state_of here.config here.accounts here.closed in
    let r : BookState g.row.T.Denot = state_of here.config c.reserve.new.self here.closed in
    let same : r ≡ b = book_reserved here.config here.closed here.accounts c.reserve.new.self c.reserve.ensures.kept in
    let enrolled = c.is_enrolled.ensures.0 c.if-not-is_enrolled.false in
    let reported : asked c.ask_to_pull-answer.result ≡ Err fault = sym c.reply_of.ensures ∙ c.in-Err-reply_of.is in
    let answer = subst (Asks g.T.Tag.ops (length pass.units < length c.reserve.new.self.desks) (takes c.reserve.new.self.desks pass.clients pass.units) q p (Pull c.args.at)) reported c.ask_to_pull-answer.ensures in
    let asks = subst (λ (a : AccountsState g.row.T.Denot). Asks g.T.Tag.ops (length pass.units < length a.desks) (takes a.desks pass.clients pass.units) q p (Pull c.args.at) (Err fault)) c.reserve.ensures.kept answer in
    subst (λ (a : BookState g.row.T.Denot). Runs g.T.Tag.ops a pass (Pull c.args.at) r pass (Err fault)) c.self.view_is
    (subst (λ n. Runs g.T.Tag.ops b pass (Pull c.args.at) n pass (Err fault)) (sym same)
    (unasked g.T.Tag.ops b pass (Pull c.args.at) enrolled refl q p c.self.invariant c.in_default.ensures.fewer fault asks))

pub invariant_of-self-2 : goal.invariant_of-self-2
invariant_of-self-2 g c =
    let here = c.self.inside in
    let pass = pass_state c.args.pass.now in
    let q = queue.state_of here.queue.0 in
    let p = queue.state_of c.ask_to_pull-answer.new.queue in
    let e = event_of c.args.pass.now.worker.0 (Pull c.args.at) c.in-Ok.reply in
    let history = history_recorded here.config here.closed here.accounts c.reserve.new.self c.reserve.ensures.kept e c.record.new.self c.record.ensures.accounts in
    let answer = subst (Asks g.T.Tag.ops (length pass.units < length c.reserve.new.self.desks) (takes c.reserve.new.self.desks pass.clients pass.units) q p (Pull c.args.at)) (sym c.reply_of.ensures ∙ c.in-Ok.is) c.ask_to_pull-answer.ensures in
    subst (IsReplayed g.T.Tag.ops p here.config) (sym history) (replayed_more g.T.Tag.ops q p here.config here.accounts.history c.self.invariant e answer.0)
