use Rattle.std.proofs.Common.{◌≤◌, ◌<◌, Ok, Err, ◌∙◌, sym, subst}
use Rattle.dmc_types.specs.Limits.{max_clients}
use Rattle.dmc_pull.specs.Queue.{state_of}
use Rattle.dmc_pull.proofs.Common.Entries.{length_clients}
use Rattle.dmc_tag.proofs.Refusals.{refused_known, refused_inexact}
use Rattle.dmc_pull.proofs.Clients.Registering.{is_known, not_named, spacings_at, refused_clients, may_register}
use Rattle.dmc_pull.proofs.queue.PullQueue.can_register.Goals as goal

pub returns-then-is_some-clause-outcome : goal.returns-then-is_some-clause-outcome
returns-then-is_some-clause-outcome g c =
    let q = c.self.inside in
    let s = state_of (record { config = q.config; roster = q.roster; heads = q.heads.0; last_moment = q.last_moment; progress = q.progress }) in
    let known = is_known c.args.client q.roster.entries c.find.result c.find.ensures.key ∙ sym c.is_some.ensures ∙ c.if-is_some.true in
    rw (← c.self.view_is) (refused_known g.T.Tag.ops s c.args.client c.args.info known)

pub returns-in-Err-clause-outcome : goal.returns-in-Err-clause-outcome
returns-in-Err-clause-outcome g c =
    let q = c.self.inside in
    let s = state_of (record { config = q.config; roster = q.roster; heads = q.heads.0; last_moment = q.last_moment; progress = q.progress }) in
    let known = is_known c.args.client q.roster.entries c.find.result c.find.ensures.key ∙ sym c.is_some.ensures ∙ c.if-is_some.false in
    let inexact = spacings_at g.T.Tag.ops c.args.info c.spacings_for.result c.hz.result q.config.hz c.hz.ensures.value c.spacings_for.ensures.value (Err c.in-Err.field) c.in-Err.is in
    rw (← c.self.view_is) (refused_inexact g.T.Tag.ops s c.args.client c.args.info c.in-Err.field known inexact)

pub returns-then-len-clause-outcome : goal.returns-then-len-clause-outcome
returns-then-len-clause-outcome g c =
    let q = c.self.inside in
    let s = state_of (record { config = q.config; roster = q.roster; heads = q.heads.0; last_moment = q.last_moment; progress = q.progress }) in
    let known = is_known c.args.client q.roster.entries c.find.result c.find.ensures.key ∙ sym c.is_some.ensures ∙ c.if-is_some.false in
    let exact = spacings_at g.T.Tag.ops c.args.info c.spacings_for.result c.hz.result q.config.hz c.hz.ensures.value c.spacings_for.ensures.value (Ok c.in-Ok.spacings) c.in-Ok.is in
    let count = c.len.ensures.value ∙ sym (length_clients q.roster.entries) in
    rw (← c.self.view_is) (refused_clients g.T.Tag.ops s c.args.client c.args.info c.in-Ok.spacings known exact (subst (λ n. max_clients ≤ n) count c.if-len.true))

pub returns-clause-outcome : goal.returns-clause-outcome
returns-clause-outcome g c =
    let q = c.self.inside in
    let s = state_of (record { config = q.config; roster = q.roster; heads = q.heads.0; last_moment = q.last_moment; progress = q.progress }) in
    let known = is_known c.args.client q.roster.entries c.find.result c.find.ensures.key ∙ sym c.is_some.ensures ∙ c.if-is_some.false in
    let exact = spacings_at g.T.Tag.ops c.args.info c.spacings_for.result c.hz.result q.config.hz c.hz.ensures.value c.spacings_for.ensures.value (Ok c.in-Ok.spacings) c.in-Ok.is in
    let count = c.len.ensures.value ∙ sym (length_clients q.roster.entries) in
    rw (← c.self.view_is) (may_register g.T.Tag.ops s c.args.client c.args.info c.in-Ok.spacings known exact (subst (λ n. n < max_clients) count c.if-len.false))

pub returns-clause-registers : goal.returns-clause-registers
returns-clause-registers g c =
    let q = c.self.inside in
    let exact = spacings_at g.T.Tag.ops c.args.info c.spacings_for.result c.hz.result q.config.hz c.hz.ensures.value c.spacings_for.ensures.value (Ok c.in-Ok.spacings) c.in-Ok.is in
    let none = not_named c.args.client q.roster.entries c.find.result c.find.ensures.key (sym c.is_some.ensures ∙ c.if-is_some.false) in
    let room = subst (λ n. n < max_clients) c.len.ensures.value c.if-len.false in
    rw (← c.self.view_is) (record { exact = exact; are = c.in-Ok.ensures.spacings; new = none; room = room })
