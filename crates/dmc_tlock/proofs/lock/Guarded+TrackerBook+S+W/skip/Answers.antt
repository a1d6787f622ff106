use Rattle.dmc_tlock.specs.Entries.{book_after_skip}
use Rattle.dmc_shared.proofs.LaterLemmas.{later_by}
use Rattle.dmc_tlock.proofs.LaterLemmas.{later_same, later_skip}
use Rattle.dmc_tlock.specs.Later.{IsLater}
use Rattle.dmc_tlock.proofs.lock.Guarded+TrackerBook+S+W.skip.Goals as goal

pub invariant_of-self : goal.invariant_of-self
invariant_of-self g c =
    let book = c.self.inside.book in
    g.met.W.Witness.stays c.self.inside.witness book c.skip.new.self
    (later_by IsLater later_same book c.skip.new.self (book_after_skip c.args.server book) c.skip.result (later_skip c.args.server book) c.skip.ensures.book c.skip.ensures.kept)
    c.self.invariant
