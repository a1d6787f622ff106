use Rattle.dmc_check.proofs.VerdictLemmas.{replays_exactly, verdict_by}
use Rattle.std.proofs.Common.{subst, sym}
use Rattle.dmc_check.specs.Verdicts.{IsVerdict}
use Rattle.dmc_pull.specs.Queue.{state_of}
use Rattle.dmc_check.proofs.replayer.Replayer.verdict.Goals as goal

pub returns-clause-exactly : goal.returns-clause-exactly
returns-clause-exactly g c =
    let here = c.self.inside in
    let verdict = subst (IsVerdict g.T.Tag.ops here.config here.events.items) (sym c.verdict.ensures) (verdict_by g.T.Tag.ops here.config here.events.items (state_of here.replay.queue) here.replay.difference c.self.invariant.so_far) in
    rw (← c.self.view_is) (replays_exactly g.T.Tag.ops here.config here.events.items c.verdict.result verdict)
