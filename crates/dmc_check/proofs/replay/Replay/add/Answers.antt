-- The replay has one more event.
use Rattle.std.proofs.Common.{suc, arith, ◌≡◌}
use Rattle.dmc_check.proofs.VerdictLemmas.{represents_more}
use Rattle.dmc_check.proofs.replay.Replay.add.Goals as goal

pub returns-clause-added : goal.returns-clause-added
returns-clause-added g c =
    let old = c.args.self.now in
    let added = rw (c.in_ok-events.ensures.ok_part) at c.checked_add.ensures in
    let next : c.in_ok-events.events ≡ suc old.events = omega (arith, added.1) in
    λ config events h. represents_more g.T.Tag.ops config events c.args.event.now old _ h next (c.in_ok-self.ensures.so_far config events h)
