use Rattle.std.proofs.Common.{◌∙◌, ap, is_some, sym}
use Rattle.std.specs.Option.{option_map}
use Rattle.dmc_tag.specs.Rules.{grant_priority}
use Rattle.dmc_types.specs.declared.config.PhaseType.TheVariants as phases
use Rattle.dmc_pull.specs.internal.Choice.{first_at}
use Rattle.dmc_pull.specs.Queue.{state_of}
use Rattle.dmc_pull.proofs.Pull.Grants.{counted_then_taken, priority_settles, refusal_settles, priority_declined, allowed_settles}
use Rattle.dmc_lemmas.proofs.Options.{is_some_mapped}
use Rattle.dmc_pull.proofs.Common.Replaced.{waits}
use Rattle.dmc_pull.proofs.queue.PullQueue.grant_priority.Goals as goal

pub can_grant-requires : goal.can_grant-requires
can_grant-requires g c = sym (is_some_mapped (λ found. found.client.id) (first_at c.args.key c.args.self.now.roster.entries)) ∙ ap is_some c.requires

pub returns-in-Err : goal.returns-in-Err
returns-in-Err g c =
    let old = c.args.self.now in
    let w = waits old.roster.entries c.args.key c.args.client c.requires in
    refusal_settles g.T.Tag.ops old old c.args.key c.args.client old.last_moment c.can_grant.ensures.distinct w c.in-Err.refusal c.args.beyond c.in-Err.ensures.value

pub returns-then-not-allows : goal.returns-then-not-allows
returns-then-not-allows g c =
    let old = c.args.self.now in
    let w = waits old.roster.entries c.args.key c.args.client c.requires in
    priority_declined g.T.Tag.ops old old c.args.key c.args.client old.last_moment c.can_grant.ensures.distinct w (g.A.GrantTest.allows c.args.test.now) (sym c.if-not-allows.ensures) c.in-Ok.amount c.args.beyond c.in-Ok.ensures.value

pub returns : goal.returns
returns g c =
    let old = c.args.self.now in
    let new = c.take_out-request.new.self in
    let request = c.take_out-request.result in
    let w = waits old.roster.entries c.args.key c.args.client c.requires in
    let after =
    counted_then_taken g.T.Tag.ops old c.count_first.new.self new c.args.key c.in-Ok.amount old.last_moment c.count_first.ensures.roster c.count_first.ensures.config c.count_first.ensures.progress c.take_out-request.ensures.roster c.take_out-request.ensures.config (c.take_out-request.ensures.moment ∙ c.last_moment-at.ensures ∙ c.count_first.ensures.moment) c.take_out-request.ensures.progress in
    allowed_settles (g.A.GrantTest.allows c.args.test.now) (state_of old) (state_of new) (λ found. grant_priority g.T.Tag.ops (state_of old) old.last_moment found c.args.beyond) c.args.client request.token phases.Priority c.args.beyond request.cost (sym c.if-not-allows.ensures) (first_at c.args.key old.roster.entries)
    (priority_settles g.T.Tag.ops old new c.args.key c.args.client old.last_moment c.can_grant.ensures.distinct w request c.in-Ok.amount c.args.beyond c.in-Ok.ensures.value after
    (c.take_out-request.ensures.request ∙ ap (λ r. option_map (λ found. found.request) (first_at c.args.key r.entries)) c.count_first.ensures.roster))
