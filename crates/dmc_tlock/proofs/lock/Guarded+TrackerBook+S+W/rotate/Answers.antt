use Rattle.dmc_shared.proofs.LaterLemmas.{later_if, on_some}
use Rattle.dmc_tlock.proofs.LaterLemmas.{released_same, released_rotated}
use Rattle.dmc_tlock.specs.Later.{IsReleased}
use Rattle.dmc_tlock.specs.Segments.{after_rotating}
use Rattle.dmc_tlock.proofs.lock.Guarded+TrackerBook+S+W.rotate.Goals as goal

pub invariant_of-self : goal.invariant_of-self
invariant_of-self g c =
    let book = c.self.inside.book in
    g.met.W.ReleaseWitness.stays_released c.self.inside.witness book c.rotate.new.self
    (later_if IsReleased released_same book c.rotate.new.self (after_rotating book) c.rotate.result (λ some. released_rotated book (on_some c.rotate.result c.rotate.ensures.within some)) c.rotate.ensures.rotated c.rotate.ensures.kept)
    c.self.invariant
