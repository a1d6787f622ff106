use Rattle.std.proofs.Common.{◌≡◌, ap, refl, subst, sym, None, Some, Ok, Err, inl}
use Rattle.std.specs.Prelude.{IsOk}
use Rattle.dmc_types.specs.declared.command.Command.{Command}
use Rattle.dmc_types.specs.declared.command.Command.TheVariants.{Add}
use Rattle.dmc_tag.specs.State.{State}
use Rattle.dmc_tag.specs.Step.{outcome}
use Rattle.dmc_tag.specs.Steps.{Steps}
use Rattle.dmc_tag.specs.declared.reply.Reply.TheVariants.{Refused, Tagged}
use Rattle.dmc_pull.specs.Queue as queue
use Rattle.dmc_ledger.specs.Bundles.{stamp_holdings}
use Rattle.dmc_book.specs.BookState.{AccountsState, BookState, pass_state, state_of}
use Rattle.dmc_book.specs.Calls.{Ran, event_of}
use Rattle.dmc_book.specs.Consistent.{IsReplayed}
use Rattle.dmc_book.specs.internal.Submits.{Submits}
use Rattle.dmc_book.specs.declared.fault.SubmitCause.TheVariants as submit
use Rattle.dmc_book.proofs.Counting.{book_recorded, book_reserved, history_recorded, replayed_memory, replayed_more, reply_after}
use Rattle.dmc_book.proofs.SubmitLemmas.{asked_at}
use Rattle.dmc_book.proofs.book.QueueBook.add.Goals as goal

pub invariant_of-self-in-Tagged : goal.invariant_of-self-in-Tagged
invariant_of-self-in-Tagged g c =
    let here = c.self.inside in
    let q = queue.state_of here.queue.0 in
    let p = queue.state_of c.ask_to_add.new.queue in
    let command : Command = Add (record { 0 = c.args.stamp.now.client }) c.args.token c.args.stamp.now.params c.args.at in
    let e = event_of c.args.pass.now.worker.0 command (Tagged c.in-Tagged.tags) in
    let history = history_recorded here.config here.closed here.accounts c.reserve.new.self c.reserve.ensures.kept e c.record_add.new.self c.record_add.ensures.accounts in
    let same : Add c.client-client.result c.args.token c.params-params.result c.args.at ≡ command = rw (c.client-client.ensures, c.params-params.ensures) refl in
    let steps = subst (λ (a : Command). Steps g.T.Tag.ops q p a (Some (Tagged c.in-Tagged.tags))) same c.in-Tagged.ensures in
    subst (IsReplayed g.T.Tag.ops p here.config) (sym history) (replayed_more g.T.Tag.ops q p here.config here.accounts.history c.self.invariant e steps)

pub invariant_of-self-in-Refused : goal.invariant_of-self-in-Refused
invariant_of-self-in-Refused g c =
    let here = c.self.inside in
    let q = queue.state_of here.queue.0 in
    let p = queue.state_of c.ask_to_add.new.queue in
    let e = event_of c.args.pass.now.worker.0 (Add c.client-client.result c.args.token c.params-params.result c.args.at) (Refused c.in-Refused.refusal) in
    let history = history_recorded here.config here.closed here.accounts c.reserve.new.self c.reserve.ensures.kept e c.record.new.self c.record.ensures.accounts in
    subst (IsReplayed g.T.Tag.ops p here.config) (sym history) (replayed_more g.T.Tag.ops q p here.config here.accounts.history c.self.invariant e c.in-Refused.ensures)

pub invariant_of-self-in-Memory : goal.invariant_of-self-in-Memory
invariant_of-self-in-Memory g c =
    let here = c.self.inside in
    let q = queue.state_of here.queue.0 in
    let p = queue.state_of c.ask_to_add.new.queue in
    subst (IsReplayed g.T.Tag.ops p here.config) (sym (ap (λ (a : AccountsState g.row.T.Denot). a.history) c.reserve.ensures.kept))
    (replayed_memory g.T.Tag.ops q p here.config here.accounts.history c.self.invariant (Add c.client-client.result c.args.token c.params-params.result c.args.at) c.in-Memory.ensures)

pub returns-in-Tagged : goal.returns-in-Tagged
returns-in-Tagged g c =
    let here = c.self.inside in
    let q = queue.state_of here.queue.0 in
    let p = queue.state_of c.ask_to_add.new.queue in
    let before = pass_state c.args.pass.now in
    let later = pass_state c.record_add.new.pass in
    let tills = stamp_holdings c.args.tills.now in
    let reply = Tagged c.in-Tagged.tags in
    let command : Command = Add (record { 0 = c.args.stamp.now.client }) c.args.token c.args.stamp.now.params c.args.at in
    let same : Add c.client-client.result c.args.token c.params-params.result c.args.at ≡ command = rw (c.client-client.ensures, c.params-params.ensures) refl in
    let b : BookState g.row.T.Denot = state_of here.config here.accounts here.closed in
    let new : BookState g.row.T.Denot = state_of here.config c.record_add.new.self here.closed in
    let ran : Ran g.T.Tag.ops b new before later command reply = record {
      reply_is = reply_after g.T.Tag.ops q p here.config here.accounts.history c.self.invariant command reply (subst (λ (a : Command). Steps g.T.Tag.ops q p a (Some reply)) same c.in-Tagged.ensures);
      book = book_recorded here.config here.closed here.accounts c.reserve.new.self c.reserve.ensures.kept (event_of before.worker command reply) c.record_add.new.self c.record_add.ensures.accounts;
      pass = c.record_add.ensures.pass;
    } in
    subst (λ (a : BookState g.row.T.Denot). Submits g.T.Tag.ops a new before later c.args.stamp.now tills (stamp_holdings c.record_add.new.tills) c.args.token c.args.at (Ok c.in-Tagged.tags)) c.self.view_is
    (ran, c.record_add.ensures.tills, asked_at b before c.args.stamp.now tills c.in-Some.desk c.in-Some.ensures c.if-self.false c.in_ok-reserve.ensures.fewer)

pub returns-in-Refused : goal.returns-in-Refused
returns-in-Refused g c =
    let here = c.self.inside in
    let q = queue.state_of here.queue.0 in
    let p = queue.state_of c.ask_to_add.new.queue in
    let before = pass_state c.args.pass.now in
    let later = pass_state c.record.new.pass in
    let tills = stamp_holdings c.args.tills.now in
    let reply = Refused c.in-Refused.refusal in
    let asked : Command = Add c.client-client.result c.args.token c.params-params.result c.args.at in
    let same : asked ≡ Add (record { 0 = c.args.stamp.now.client }) c.args.token c.args.stamp.now.params c.args.at = rw (c.client-client.ensures, c.params-params.ensures) refl in
    let b : BookState g.row.T.Denot = state_of here.config here.accounts here.closed in
    let new : BookState g.row.T.Denot = state_of here.config c.record.new.self here.closed in
    let ran : Ran g.T.Tag.ops b new before later asked reply = record {
      reply_is = reply_after g.T.Tag.ops q p here.config here.accounts.history c.self.invariant asked reply c.in-Refused.ensures;
      book = book_recorded here.config here.closed here.accounts c.reserve.new.self c.reserve.ensures.kept (event_of before.worker asked reply) c.record.new.self c.record.ensures.accounts;
      pass = c.record.ensures.pass;
    } in
    subst (λ (a : BookState g.row.T.Denot). Submits g.T.Tag.ops a new before later c.args.stamp.now tills tills c.args.token c.args.at (Err (submit.Refused c.in-Refused.refusal))) c.self.view_is
    (subst (λ (d : Command). Ran g.T.Tag.ops b new before later d reply) same ran, refl, asked_at b before c.args.stamp.now tills c.in-Some.desk c.in-Some.ensures c.if-self.false c.in_ok-reserve.ensures.fewer)

pub returns-in-Memory : goal.returns-in-Memory
returns-in-Memory g c =
    let here = c.self.inside in
    let q = queue.state_of here.queue.0 in
    let p = queue.state_of c.ask_to_add.new.queue in
    let before = pass_state c.args.pass.now in
    let tills = stamp_holdings c.args.tills.now in
    let command : Command = Add (record { 0 = c.args.stamp.now.client }) c.args.token c.args.stamp.now.params c.args.at in
    let same : Add c.client-client.result c.args.token c.params-params.result c.args.at ≡ command = rw (c.client-client.ensures, c.params-params.ensures) refl in
    let steps = subst (λ (a : Command). Steps g.T.Tag.ops q p a None) same c.in-Memory.ensures in
    let b : BookState g.row.T.Denot = state_of here.config here.accounts here.closed in
    let r : BookState g.row.T.Denot = state_of here.config c.reserve.new.self here.closed in
    let kept : r ≡ b = book_reserved here.config here.closed here.accounts c.reserve.new.self c.reserve.ensures.kept in
    let accepted = subst (λ (s : State g.row.T.Denot). IsOk (outcome g.T.Tag.ops s command)) c.self.invariant.state steps.1 in
    subst (λ (a : BookState g.row.T.Denot). Submits g.T.Tag.ops a r before before c.args.stamp.now tills tills c.args.token c.args.at (Err submit.Memory)) c.self.view_is
    ((kept, refl), refl, (asked_at b before c.args.stamp.now tills c.in-Some.desk c.in-Some.ensures c.if-self.false c.in_ok-reserve.ensures.fewer, inl (steps.0, accepted)))
