use Rattle.std.proofs.Common.{◌≡◌, ℕ, sym, ap, ◌∙◌, subst, Some}
use Rattle.std.specs.Prelude.{◌==◌, ◌≤◌, ◌+◌, slice_set, length, IfSome}
use Rattle.dmc_types.specs.declared.ids.ClientId.{ClientId}
use Rattle.dmc_tag.specs.declared.plain.QueuedRequest.{QueuedRequest}
use Rattle.dmc_roster.specs.Entries.{Listing, record_at}
use Rattle.dmc_tag.specs.Order.{AreNext}
use Rattle.dmc_head_index.specs.declared.head.Head.{Head}
use Rattle.dmc_head_index.specs.Heads.{IsOthers}
use Rattle.dmc_tag.specs.Rules.{progress_added, queued}
use Rattle.dmc_tag.specs.State.{State}
use Rattle.dmc_tag.proofs.ForCallers.{differences_are_values, tag_order}
use Rattle.dmc_tag.proofs.ForCallers.{due_from_ceil}
use Rattle.dmc_pull.specs.internal.Adding.{IsAddition}
use Rattle.dmc_pull.specs.Queue.{Queue, IsQueue, AreValues, state_of}
use Rattle.dmc_pull.specs.internal.Queue.{head_at}
use Rattle.dmc_pull.specs.internal.ShareRange.{AreWithin}
use Rattle.dmc_pull.specs.Represented.{clients_in}
use Rattle.dmc_pull.proofs.Common.Lent.{unchanged}
use Rattle.dmc_pull.proofs.Common.Keyed.{record_is}
use Rattle.dmc_pull.proofs.Common.Progress.{added_values}
use Rattle.dmc_pull.proofs.Add.Arrived.{After, IsOf, of_addition, heads_can_shift, after_calls, within, vacant, apart, with_first, with_more, came_state}
use Rattle.dmc_pull.proofs.Add.InRange.{arrived_within}
use Rattle.dmc_pull.proofs.queue.PullQueue.queue.Given.{Over}
use Rattle.dmc_pull.proofs.queue.PullQueue.queue.Goals as goal
use Rattle.dmc_pull.proofs.queue.PullQueue.queue.Goals.{After-shift_others, then-is_first, else-is_first}

-- ---- what the goals share

abbrev queue_before : (g : Over) → After-shift_others g → Queue g.row.T.Denot
queue_before g c = let q = c.self.inside in record { config = q.config; roster = q.roster; heads = q.heads.0; last_moment = q.last_moment; progress = q.progress }

abbrev arriving : (g : Over) → After-shift_others g → QueuedRequest g.row.T.Denot
arriving g c = record { token = c.args.token; cost = c.args.cost; tags = c.args.addition.tags; slack = c.args.addition.slack }

addition_is : (g : Over) (c : After-shift_others g) → IsAddition g.T.Tag.ops g.T.Tag.fraction g.T.Tag.is_value (queue_before g c) c.args.client c.args.addition
addition_is g c = subst (λ q. IsAddition g.T.Tag.ops g.T.Tag.fraction g.T.Tag.is_value q c.args.client c.args.addition) (sym c.self.view_is) c.requires.addition

-- the client's entry
of : (g : Over) (c : After-shift_others g) → IsOf g.T.Tag.ops g.T.Tag.fraction g.T.Tag.is_value (queue_before g c) c.self.inside.queued c.args.addition.key c.args.client
of g c = of_addition c.self.invariant.0 (addition_is g c)

empty : (g : Over) (c : After-shift_others g) → c.is_empty-is_first.result ≡ (length (of g c).entry.rec.requests == 0)
empty g c =
    c.is_empty-is_first.ensures
    ∙ ap (λ rec. length rec.requests == 0) (sym (record_is c.args.addition.key c.self.inside.roster.entries (of g c).entry c.at_mut-rec.result.now (of g c).found c.at_mut-rec.ensures.value))

-- the entries and the heads after the push and the shift of the others
after : (g : Over) (c : After-shift_others g)
    → After g.T.Tag.ops (λ tag. g.T.Tag.is_value (g.T.Tag.fraction tag)) c.self.inside.config.hz c.self.inside.last_moment c.args.addition.shift c.args.addition.key (of g c).entry c.self.inside.roster.entries (arriving g c) c.args.at c.shift_others.new.roster.entries c.shift_others.new.heads
after g c =
    let is = addition_is g c in
    after_calls (of g c) (differences_are_values g.T.Tag.ops g.T.Tag.fraction g.T.Tag.is_value g.met.T.Tag.exact) (arriving g c) c.args.at c.push.result (sym c.if-is_err.ensures.value) c.at_mut-rec.result.now c.push.new.self c.at_mut-rec.ensures.value c.push.ensures.ok c.push.ensures.kept c.args.addition.shift is.idle is.shiftable c.shift_others.new.roster.entries c.shift_others.ensures.entries c.shift_others.ensures.kept c.shift_others.new.heads c.shift_others.ensures.firsts

pub push-requires : goal.push-requires
push-requires g c =
    let found = ap (λ q. record_at c.args.addition.key q.roster.entries) (sym c.self.view_is) ∙ c.at_mut-rec.ensures.value in
    record {
      next = subst (λ o. IfSome o (λ rec. AreNext g.T.Tag.ops rec.info rec.previous c.args.addition.tags)) found c.requires.addition.next;
      slack = c.requires.addition.slack;
    }

pub invariant_of-self : goal.invariant_of-self
invariant_of-self g c =
    let q = c.self.inside in
    -- a push that failed changes no record
    let same = unchanged c.push.result c.self.inside.roster c.args.addition.key c.at_mut-rec.result.now c.push.new.self (sym c.if-is_err.ensures.value) c.self.invariant.0.distinct c.at_mut-rec.ensures.value c.push.ensures.err in
    subst (λ roster. IsQueue g.T.Tag.ops g.T.Tag.fraction g.T.Tag.is_value (record { config = q.config; roster = roster; heads = q.heads.0; last_moment = q.last_moment; progress = q.progress }) q.queued × AreWithin g.T.Tag.ops q.range roster.entries) (sym same) c.self.invariant

pub returns-then-is_err-clause-err : goal.returns-then-is_err-clause-err
returns-then-is_err-clause-err g c =
    let q = c.self.inside in
    let same = unchanged c.push.result c.self.inside.roster c.args.addition.key c.at_mut-rec.result.now c.push.new.self (sym c.if-is_err.ensures.value) c.self.invariant.0.distinct c.at_mut-rec.ensures.value c.push.ensures.err in
    let view : Listing g.row.T.Denot → Queue g.row.T.Denot = λ roster. record { config = q.config; roster = roster; heads = q.heads.0; last_moment = q.last_moment; progress = q.progress } in
    ap view same ∙ c.self.view_is

pub shift_others-requires : goal.shift_others-requires
shift_others-requires g c =
    let is = subst (λ q. IsAddition g.T.Tag.ops g.T.Tag.fraction g.T.Tag.is_value q c.args.client c.args.addition) (sym c.self.view_is) c.requires.addition in
    heads_can_shift (of_addition c.self.invariant.0 is) c.args.addition.shift is.shiftable

pub insert-requires-clause-in_room : goal.insert-requires-clause-in_room
insert-requires-clause-in_room g c = within (after g (goal.at.insert-requires-clause-in_room g c).After-shift_others)

pub insert-requires-clause-vacant : goal.insert-requires-clause-vacant
insert-requires-clause-vacant g c =
    let p = (goal.at.insert-requires-clause-vacant g c).After-shift_others in
    vacant (after g p) (sym (empty g p) ∙ c.if-is_first.true)

pub insert-requires-clause-apart : goal.insert-requires-clause-apart
insert-requires-clause-apart g c =
    let p = (goal.at.insert-requires-clause-apart g c).After-shift_others in
    let others = IsOthers c.shift_others.new.heads c.args.addition.key in
    subst (λ (head : Head g.row.T.Denot). others head.client) (sym c.head_at.ensures) (subst others (of g p).id (apart (after g p)))

pub invariant_of-self-2 : goal.invariant_of-self-2
invariant_of-self-2 g c =
    let p = (goal.at.invariant_of-self-2 g c).After-shift_others in
    let is = addition_is g p in
    let request = arriving g p in
    let ops = g.T.Tag.ops in
    let is_value = g.T.Tag.is_value in
    let fraction = g.T.Tag.fraction in
    let inside = c.self.inside in
    let at = c.args.at in
    let later = subst (λ q. q.last_moment ≤ at) (sym c.self.view_is) c.requires.later in
    let due_from = due_from_ceil ops fraction is_value g.met.T.Tag.exact in
    let order = tag_order g.T.Ord.cmp ops.compare g.met.T.Ord.total g.met.T.Tag.compares in
    let came = arrived_within ops order g.met.T.Tag.exact (of g p) request at inside.range c.self.invariant.1 c.push.result (sym c.if-is_err.ensures.value) c.at_mut-rec.result.now c.push.new.self c.at_mut-rec.ensures.value c.push.ensures.ok c.args.addition.shift c.shift_others.new.roster.entries c.shift_others.ensures.entries in
    let within = subst (λ range. AreWithin ops range c.shift_others.new.roster.entries) (sym c.widen.ensures) came in
    let values = subst (AreValues fraction is_value) (sym c.count_arrival.ensures) (added_values ops fraction is_value _ _ _ _ c.self.invariant.0.progress is.value) in
    elim c.if-is_first.branch [
      | then-is_first w ↦
          let first = with_first fraction is_value inside.config c.shift_others.new.roster (after g p) inside.queued c.self.invariant.0.counted is.room is.value c.count_arrival.new.progress values later due_from (sym (empty g p) ∙ w.if-is_first.true) in
          let named = subst (λ id. IsQueue ops fraction is_value (record { config = inside.config; roster = c.shift_others.new.roster; heads = slice_set c.shift_others.new.heads c.args.addition.key (Some (head_at ops at id request.tags)); last_moment = at; progress = c.count_arrival.new.progress }) (inside.queued + 1)) (of g p).id first in
          rw (w.self-inside-is, w.insert.ensures, w.head_at.ensures) (named, within)
      | else-is_first w ↦
          let more = with_more fraction is_value inside.config c.shift_others.new.roster (after g p) inside.queued c.self.invariant.0.counted is.room is.value c.count_arrival.new.progress values later due_from (sym (empty g p) ∙ w.if-is_first.false) in
          rw w.self-inside-is (more, within)
    ]

pub returns-clause-ok : goal.returns-clause-ok
returns-clause-ok g c =
    let p = (goal.at.returns-clause-ok g c).After-shift_others in
    let inside = c.self.inside in
    let request = arriving g p in
    let roster = c.shift_others.new.roster in
    let at = c.args.at in
    let config : c.if-is_first.self-inside.config ≡ inside.config = elim c.if-is_first.branch [ then-is_first w ↦ ap (λ i. i.config) w.self-inside-is | else-is_first w ↦ ap (λ i. i.config) w.self-inside-is ] in
    let same_roster : c.if-is_first.self-inside.roster ≡ roster = elim c.if-is_first.branch [ then-is_first w ↦ ap (λ i. i.roster) w.self-inside-is | else-is_first w ↦ ap (λ i. i.roster) w.self-inside-is ] in
    let same_progress : c.if-is_first.self-inside.progress ≡ c.count_arrival.new.progress = elim c.if-is_first.branch [ then-is_first w ↦ ap (λ i. i.progress) w.self-inside-is | else-is_first w ↦ ap (λ i. i.progress) w.self-inside-is ] in
    let progress = c.count_arrival.new.progress in
    let counts =
    c.count_arrival.ensures
    ∙ ap (λ shares. progress_added g.T.Tag.ops shares (inside.queued == 0) request.tags.p inside.progress) c.shares.ensures
    ∙ ap (λ (n : ℕ). progress_added g.T.Tag.ops inside.config.shares (n == 0) request.tags.p inside.progress) c.self.invariant.0.counted in
    let new : State g.row.T.Denot = record { config = inside.config; clients = clients_in roster.entries; last_moment = at; progress = progress } in
    let is_state = λ (q : Queue g.row.T.Denot) (id : ClientId). new ≡ queued g.T.Tag.ops (state_of q) c.args.addition.shift id request at in
    let named = subst (is_state (queue_before g p)) (of g p).id (came_state g.T.Tag.fraction g.T.Tag.is_value inside.config roster (after g p) inside.last_moment inside.progress progress counts) in
    rw (config, same_roster, same_progress) (subst (λ q. is_state q c.args.client) c.self.view_is named)
