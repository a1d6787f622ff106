-- The replay with one more event.
use Rattle.std.proofs.Common.{refl}
use Rattle.dmc_pull.specs.Queue.{state_of}
use Rattle.dmc_lemmas.proofs.Options.{of_err}
use Rattle.dmc_check.proofs.VerdictLemmas.{later_event, none_yet, same_event, represents_kept, other_event}
use Rattle.dmc_check.proofs.replay.Replay.difference_with.Goals as goal

pub returns-then-is_some-clause-so_far : goal.returns-then-is_some-clause-so_far
returns-then-is_some-clause-so_far g c =
    let old = c.args.self.now in
    λ config events h. later_event g.T.Tag.ops config events c.args.event.now (state_of old.queue) old.difference c.if-is_some.ensures h.so_far

pub returns-then-branch-clause-so_far : goal.returns-then-branch-clause-so_far
returns-then-branch-clause-so_far g c =
    let old = c.args.self.now in
    λ config events h.
    let before = none_yet g.T.Tag.ops config events (state_of old.queue) old.difference c.if-is_some.ensures h.so_far in
    same_event g.T.Tag.ops config events c.args.event.now (state_of old.queue) (state_of c.replays_next.new.queue) c.in_ok-replays_next.field-0 c.if-branch.true before c.in_ok-replays_next.ensures.replayed

pub returns-clause-so_far : goal.returns-clause-so_far
returns-clause-so_far g c =
    let old = c.args.self.now in
    λ config events h.
    let before = none_yet g.T.Tag.ops config events (state_of old.queue) old.difference c.if-is_some.ensures h.so_far in
    other_event g.T.Tag.ops config events c.args.event.now (state_of old.queue) (state_of c.replays_next.new.queue) old.events c.in_ok-replays_next.field-0 c.if-branch.false h.count before c.in_ok-replays_next.ensures.replayed

pub returns-in_err-replays_next-clause-kept : goal.returns-in_err-replays_next-clause-kept
returns-in_err-replays_next-clause-kept g c =
    λ config events h. of_err c.from_residual.result (represents_kept g.T.Tag.ops config events c.args.self.now _ refl refl c.in_err-replays_next.ensures.kept h)
