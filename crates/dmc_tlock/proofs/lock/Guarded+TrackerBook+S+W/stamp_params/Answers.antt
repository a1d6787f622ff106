use Rattle.dmc_tlock.specs.Entries.{book_after_stamp}
use Rattle.dmc_shared.proofs.LaterLemmas.{later_by}
use Rattle.dmc_tlock.proofs.LaterLemmas.{later_same, later_stamp}
use Rattle.dmc_tlock.specs.Later.{IsLater}
use Rattle.dmc_tlock.proofs.lock.Guarded+TrackerBook+S+W.stamp_params.Given.{Over}
use Rattle.dmc_tlock.proofs.lock.Guarded+TrackerBook+S+W.stamp_params.Goals as goal
use Rattle.dmc_tlock.proofs.lock.Guarded+TrackerBook+S+W.stamp_params.Goals.{After-stamp}

-- whatever the book answers, it is a later one
stays : (g : Over) (c : After-stamp g) → g.W.Witness.holds c.self.inside.witness c.stamp.new.self
stays g c =
    let book = c.self.inside.book in
    g.met.W.Witness.stays c.self.inside.witness book c.stamp.new.self
    (later_by IsLater later_same book c.stamp.new.self (book_after_stamp c.args.server c.args.cost book) c.stamp.result (later_stamp c.args.server c.args.cost book) c.stamp.ensures.book c.stamp.ensures.kept)
    c.self.invariant

pub invariant_of-self : goal.invariant_of-self
invariant_of-self g c = stays g (goal.at.invariant_of-self g c).After-stamp

pub invariant_of-self-2 : goal.invariant_of-self-2
invariant_of-self-2 g c = stays g (goal.at.invariant_of-self-2 g c).After-stamp
