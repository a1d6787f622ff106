use Rattle.std.proofs.Common.{◌≡◌}
use Rattle.dmc_core.proofs.Opened.{after_first, HaveRegistered}
use Rattle.dmc_core.proofs.opening.register_all.Given as goal

abbrev pub invariant-loop-client : goal.invariant-loop-client
invariant-loop-client g l = record {
  holds : g.Q.Scheduler.state l.queue ≡ after_first g.T.Tag.ops l.fn.scene l.client-index;
  registered : HaveRegistered g.T.Tag.ops l.fn.scene l.client-index;
}
