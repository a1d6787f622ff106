use Rattle.dmc_tlock.specs.Entries.{book_after_unit}
use Rattle.dmc_shared.proofs.LaterLemmas.{later_by}
use Rattle.dmc_tlock.proofs.LaterLemmas.{later_same, later_unit}
use Rattle.dmc_tlock.specs.Later.{IsLater}
use Rattle.dmc_tlock.proofs.lock.Guarded+TrackerBook+S+W.respond.Goals as goal

pub invariant_of-self : goal.invariant_of-self
invariant_of-self g c =
    let book = c.self.inside.book in
    g.met.W.Witness.stays c.self.inside.witness book c.respond_to.new.self
    (later_by IsLater later_same book c.respond_to.new.self (book_after_unit c.args.unit.now book) c.respond_to.result (later_unit c.args.unit.now book) c.respond_to.ensures.book c.respond_to.ensures.kept)
    c.self.invariant
