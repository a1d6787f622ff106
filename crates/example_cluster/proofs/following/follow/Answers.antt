use Rattle.std.proofs.Common.{refl}
use Rattle.example_cluster.proofs.following.follow.Goals as goal

pub returns : goal.returns
returns c =
    (c.step-stamped.new.self, c.step-stamped.ensures, (c.step-arrived.new.self, c.step-arrived.ensures, (c.step-pulled.new.self, c.step-pulled.ensures, refl)))
