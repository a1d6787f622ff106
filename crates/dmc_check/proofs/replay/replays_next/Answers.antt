use Rattle.std.proofs.Common.{ap}
use Rattle.dmc_lemmas.proofs.Options.{of_err}
use Rattle.dmc_check.proofs.replay.replays_next.Goals as goal

pub returns-in_err-reply-clause-kept : goal.returns-in_err-reply-clause-kept
returns-in_err-reply-clause-kept g c = of_err c.from_residual.result c.in_err-reply.ensures.2

pub returns-clause-replayed : goal.returns-clause-replayed
returns-clause-replayed g c = record { reply = rw (ap (λ p. p.1) c.in_ok-reply.ensures) at c.is_same_reply.ensures; state = ap (λ p. p.0) c.in_ok-reply.ensures }
