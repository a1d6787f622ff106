use Rattle.std.proofs.Common.{subst, sym}
use Rattle.std.specs.Prelude.{true}
use Rattle.dmc_book.specs.Later.{IsLater}
use Rattle.dmc_qlock.proofs.LaterLemmas.{later_closed}
use Rattle.dmc_qlock.proofs.guarded.Guarded+QueueBook+T+I+S+W.close.Goals as goal

pub invariant_of-self : goal.invariant_of-self
invariant_of-self g c =
    g.met.W.Witness.stays c.self.inside.witness c.self.inside.book c.close.new.self
    (subst (IsLater c.self.inside.book) (sym c.close.ensures) (later_closed c.self.inside.book true)) c.self.invariant
