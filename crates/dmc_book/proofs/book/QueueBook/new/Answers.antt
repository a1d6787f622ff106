use Rattle.std.proofs.Common.{ap, subst, sym}
use Rattle.dmc_pull.specs.Queue as queue
use Rattle.dmc_book.specs.Consistent.{IsReplayed}
use Rattle.dmc_book.proofs.OpeningLemmas.{replayed_new}
use Rattle.dmc_book.proofs.book.QueueBook.new.Goals as goal

pub invariant_of-book : goal.invariant_of-book
invariant_of-book g c =
    subst (IsReplayed g.T.Tag.ops (queue.state_of c.new.result) c.args.config) (sym (ap (λ a. a.history) c.open_accounts-accounts.ensures.accounts))
    (replayed_new g.T.Tag.ops (queue.state_of c.new.result) c.args.config c.new.ensures)
