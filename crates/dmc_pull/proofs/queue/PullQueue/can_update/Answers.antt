use Rattle.std.proofs.Common.{◌≡◌, true, false, [], Ok, Err}
use Rattle.dmc_tag.specs.Rules.{changes_reservation}
use Rattle.dmc_client.specs.Record.{client_of}
use Rattle.dmc_pull.specs.Queue.{state_of}
use Rattle.dmc_pull.proofs.Clients.Registering.{spacings_at}
use Rattle.dmc_tag.proofs.Refusals.{refused_unknown, update_inexact}
use Rattle.dmc_pull.proofs.Clients.Updating.{client_at, unnamed, said_of, refused_busy, may_update, busy_as, not_busy}
use Rattle.dmc_pull.proofs.queue.PullQueue.can_update.Goals as goal

pub returns-in_default-clause-outcome : goal.returns-in_default-clause-outcome
returns-in_default-clause-outcome g c =
    let q = c.self.inside in
    let s = state_of (record { config = q.config; roster = q.roster; heads = q.heads.0; last_moment = q.last_moment; progress = q.progress }) in
    rw (← c.self.view_is) (refused_unknown g.T.Tag.ops s c.args.client c.args.info (unnamed c.args.client q.roster.entries c.find.result c.find.ensures.key c.in_default.is))

pub returns-in-Err-clause-outcome : goal.returns-in-Err-clause-outcome
returns-in-Err-clause-outcome g c =
    let q = c.self.inside in
    let s = state_of (record { config = q.config; roster = q.roster; heads = q.heads.0; last_moment = q.last_moment; progress = q.progress }) in
    let h = client_at c.args.client c.in-Some.key q.roster.entries c.in-Some.ensures.entry c.in-Some.ensures.held c.find.ensures.distinct in
    let inexact = spacings_at g.T.Tag.ops c.args.info c.spacings_for.result c.hz.result q.config.hz c.hz.ensures.value c.spacings_for.ensures.value (Err c.in-Err.field) c.in-Err.is in
    rw (← c.self.view_is) (update_inexact g.T.Tag.ops s c.args.client c.args.info (client_of c.args.client h.entry.rec) h.named c.in-Err.field inexact)

pub returns-then-is_busy-clause-outcome : goal.returns-then-is_busy-clause-outcome
returns-then-is_busy-clause-outcome g c =
    let q = c.self.inside in
    let s = state_of (record { config = q.config; roster = q.roster; heads = q.heads.0; last_moment = q.last_moment; progress = q.progress }) in
    let h = client_at c.args.client c.in-Some.key q.roster.entries c.in-Some.ensures.entry c.in-Some.ensures.held c.find.ensures.distinct in
    let exact = spacings_at g.T.Tag.ops c.args.info c.spacings_for.result c.hz.result q.config.hz c.hz.ensures.value c.spacings_for.ensures.value (Ok c.in-Ok.spacings) c.in-Ok.is in
    let busy = busy_as h c.args.info c.at.result.now c.at.ensures.value c.is_busy.result c.is_busy.ensures true c.if-is_busy.true in
    rw (← c.self.view_is) (refused_busy g.T.Tag.ops s c.args.client c.args.info (client_of c.args.client h.entry.rec) h.named c.in-Ok.spacings exact busy)

pub returns-clause-outcome : goal.returns-clause-outcome
returns-clause-outcome g c =
    let q = c.self.inside in
    let s = state_of (record { config = q.config; roster = q.roster; heads = q.heads.0; last_moment = q.last_moment; progress = q.progress }) in
    let h = client_at c.args.client c.in-Some.key q.roster.entries c.in-Some.ensures.entry c.in-Some.ensures.held c.find.ensures.distinct in
    let exact = spacings_at g.T.Tag.ops c.args.info c.spacings_for.result c.hz.result q.config.hz c.hz.ensures.value c.spacings_for.ensures.value (Ok c.in-Ok.spacings) c.in-Ok.is in
    let free = busy_as h c.args.info c.at.result.now c.at.ensures.value c.is_busy.result c.is_busy.ensures false c.if-is_busy.false in
    rw (← c.self.view_is) (may_update g.T.Tag.ops s c.args.client c.args.info (client_of c.args.client h.entry.rec) h.named c.in-Ok.spacings exact free)

pub returns-clause-updates : goal.returns-clause-updates
returns-clause-updates g c =
    let q = c.self.inside in
    let rec = c.at.result.now in
    let exact = spacings_at g.T.Tag.ops c.args.info c.spacings_for.result c.hz.result q.config.hz c.hz.ensures.value c.spacings_for.ensures.value (Ok c.in-Ok.spacings) c.in-Ok.is in
    let free = not_busy rec c.args.info c.is_busy.result c.is_busy.ensures c.if-is_busy.false in
    let said = said_of (λ r. changes_reservation r.info c.args.info ≡ true → r.requests ≡ []) c.in-Some.key q.roster.entries rec c.at.ensures.value free in
    rw (← c.self.view_is) (record { exact = exact; are = c.in-Ok.ensures.spacings; key = c.in-Some.ensures.entry; held = c.in-Some.ensures.held; distinct = c.find.ensures.distinct; not_busy = said })
