use Rattle.std.proofs.Common.{◌≡◌, sym, ap, ◌∙◌, subst, Some, None, Ok}
use Rattle.std.proofs.lemmas.List.{nil_from_length}
use Rattle.dmc_client.specs.Record.{IsRecord}
use Rattle.dmc_roster.specs.Entries.{Entry}
use Rattle.dmc_tag.specs.State.{queued_requests}
use Rattle.dmc_tag.specs.Outcome.{◌>>=◌, in_range}
use Rattle.dmc_tag.specs.Rules.{adjusts}
use Rattle.dmc_pull.specs.internal.Adding.{needed_shift, unless_nothing}
use Rattle.dmc_pull.specs.Queue.{IsKept}
use Rattle.dmc_pull.specs.Represented.{clients_in}
use Rattle.dmc_pull.proofs.Common.Parts.{all_as}
use Rattle.dmc_pull.proofs.Pull.Choices.{none_queued}
use Rattle.dmc_pull.proofs.Add.Adds.{tag_order, shift_past, shift_empty, shift_virtual, shift_by_least}
use Rattle.dmc_pull.proofs.queue.PullQueue.shift_for_idle.Goals as goal
use Rattle.dmc_pull.proofs.queue.PullQueue.shift_for_idle.Goals.{in-None, in-Some-shift_for, then-self-eq0-via-then-self-eq0, then-self-eq0-via-else-self-eq0+then-not-adjusts}

pub returns-in_default-clause-value : goal.returns-in_default-clause-value
returns-in_default-clause-value g c =
    let inside = c.self.inside in
    let empty = none_queued g.T.Tag.ops inside.last_moment inside.roster.entries inside.heads.0 c.self.invariant.0.heads c.self.invariant.0.distinct c.in_default.ensures.value in
    λ arriving same. subst (λ q. Ok None ≡ needed_shift g.T.Tag.ops q.config.shares (clients_in q.roster.entries) arriving c.args.t) c.self.view_is
    (shift_empty g.T.Tag.ops inside.config.shares (clients_in inside.roster.entries) arriving c.args.t empty)

pub returns-then-self-eq0-clause-value : goal.returns-then-self-eq0-clause-value
returns-then-self-eq0-clause-value g c = λ arriving same.
    let inside = c.self.inside in
    let ops = g.T.Tag.ops in
    elim c.then-self-eq0.branch [
      | then-self-eq0-via-then-self-eq0 w ↦
          let empty = nil_from_length (queued_requests (clients_in inside.roster.entries)) (sym c.self.invariant.0.counted ∙ w.if-self-eq0.true) in
          subst (λ q. Ok None ≡ needed_shift ops q.config.shares (clients_in q.roster.entries) arriving c.args.t) c.self.view_is (shift_empty ops inside.config.shares (clients_in inside.roster.entries) arriving c.args.t empty)
      | then-self-eq0-via-else-self-eq0+then-not-adjusts w ↦
          let unadjusted = sym (w.adjusts.ensures ∙ ap adjusts w.shares.ensures) ∙ w.if-not-adjusts.true in
          subst (λ q. Ok None ≡ needed_shift ops q.config.shares (clients_in q.roster.entries) arriving c.args.t) c.self.view_is (shift_virtual ops inside.config.shares (clients_in inside.roster.entries) arriving c.args.t unadjusted)
    ]

pub returns-clause-value : goal.returns-clause-value
returns-clause-value g c =
    let ops = g.T.Tag.ops in
    let inside = c.self.inside in
    let es = inside.roster.entries in
    let order = tag_order g.T.Ord.cmp ops.compare g.met.T.Ord.total g.met.T.Tag.compares in
    let records = all_as (λ (e : Entry _). IsKept ops g.T.Tag.fraction g.T.Tag.is_value inside.config.hz e.rec) (λ e. IsRecord ops e.rec) (λ e k. k.is_record) es c.self.invariant.0.kept in
    let past : c.match-shift_for.result ≡ shift_past ops c.in-Some.least c.args.t = elim c.match-shift_for.branch [
      | in-None w ↦ w.result-is ∙ ap (λ o. in_range o >>= λ amount. Ok (unless_nothing ops (Some amount))) (sym w.in-None.is ∙ c.shift_for.ensures.value)
      | in-Some-shift_for w ↦ w.result-is ∙ ap Ok w.unless_nothing.ensures ∙ ap (λ o. in_range o >>= λ amount. Ok (unless_nothing ops (Some amount))) (sym w.in-Some-shift_for.is ∙ c.shift_for.ensures.value)
    ] in
    let adjusted = sym (c.adjusts.ensures ∙ ap adjusts c.shares.ensures) ∙ c.if-not-adjusts.false in
    λ arriving same. subst (λ q. c.match-shift_for.result ≡ needed_shift ops q.config.shares (clients_in q.roster.entries) arriving c.args.t) c.self.view_is
    (past ∙ shift_by_least ops order g.met.T.Tag.exact.same inside.last_moment es inside.heads.0 c.self.invariant.0.heads c.self.invariant.0.distinct records c.in-Some.least c.in-Some.ensures.value inside.config.shares arriving c.args.t adjusted same)
