use Rattle.std.proofs.Common.{◌≡◌, ℕ, ◌≤◌, ◌-◌, suc, length, sym, ap, subst, arith}
use Rattle.dmc_tag.proofs.ForCallers.{due_from_ceil}
use Rattle.dmc_roster.specs.Entries.{Entry}
use Rattle.dmc_pull.specs.Queue.{IsKept}
use Rattle.dmc_pull.proofs.Clean.Aging.{held_grown}
use Rattle.dmc_pull.proofs.Common.Within.{last_within}
use Rattle.dmc_pull.proofs.Clients.Registering.{roomier_is, registered_is, registered_state, has_room, was_added}
use Rattle.dmc_pull.proofs.queue.PullQueue.admit.Goals as goal

pub invariant_of-self : goal.invariant_of-self
invariant_of-self g c = (roomier_is g.T.Tag.ops g.T.Tag.fraction g.T.Tag.is_value (due_from_ceil g.T.Tag.ops g.T.Tag.fraction g.T.Tag.is_value g.met.T.Tag.exact) c.self.invariant.0 c.reserve.new.self c.in_err-reserve.ensures.err c.in_err-reserve.ensures.room, c.self.invariant.1)

pub invariant_of-self-in_err-add : goal.invariant_of-self-in_err-add
invariant_of-self-in_err-add g c =
    let q = c.self.inside in
    let holds = held_grown q.heads.0 c.reserve.new.self (c.in-Some.room - length q.heads.0) c.in_ok-reserve.ensures.ok in
    let roomier = roomier_is g.T.Tag.ops g.T.Tag.fraction g.T.Tag.is_value (due_from_ceil g.T.Tag.ops g.T.Tag.fraction g.T.Tag.is_value g.met.T.Tag.exact) c.self.invariant.0 c.reserve.new.self holds c.in_ok-reserve.ensures.room in
    rw c.in_err-add.ensures (roomier, c.self.invariant.1)

pub invariant_of-self-2 : goal.invariant_of-self-2
invariant_of-self-2 g c =
    let q = c.self.inside in
    let ops = g.T.Tag.ops in
    let keeps = subst (λ (n : ℕ). IsKept ops g.T.Tag.fraction g.T.Tag.is_value n c.args.rec) (sym (ap (λ x. x.config.hz) c.self.view_is)) c.requires.kept in
    let later : q.last_moment ≤ c.args.at = subst (λ (n : ℕ). n ≤ c.args.at) (sym (ap (λ x. x.last_moment) c.self.view_is)) c.requires.later in
    let holds = held_grown q.heads.0 c.reserve.new.self (c.in-Some.room - length q.heads.0) c.in_ok-reserve.ensures.ok in
    let roomier = roomier_is ops g.T.Tag.fraction g.T.Tag.is_value (due_from_ceil g.T.Tag.ops g.T.Tag.fraction g.T.Tag.is_value g.met.T.Tag.exact) c.self.invariant.0 c.reserve.new.self holds c.in_ok-reserve.ensures.room in
    let last = was_added q.roster c.add.new.self c.args.client c.args.rec c.in_ok-add.field-0 c.in_ok-add.ensures in
    let room : c.in-Some.room ≡ suc q.roster.next_key = omega (arith, c.in-Some.ensures, c.next_key-key.ensures) in
    let within = has_room q.heads.0 c.reserve.new.self q.roster.next_key c.in-Some.room room c.in_ok-reserve.ensures.ok in
    let entry : Entry g.row.T.Denot = record { id = c.args.client; key = q.roster.next_key; rec = c.args.rec } in (
      registered_is ops g.T.Tag.fraction g.T.Tag.is_value (due_from_ceil g.T.Tag.ops g.T.Tag.fraction g.T.Tag.is_value g.met.T.Tag.exact) roomier c.add.new.self entry last c.in_ok-add.ensures.2 within keeps c.requires.nothing c.args.at later,
      last_within c.self.invariant.1 entry c.requires.nothing c.requires.zero c.add.new.self.entries last,
    )

pub returns-clause-ok : goal.returns-clause-ok
returns-clause-ok g c =
    let q = c.self.inside in
    let last = was_added q.roster c.add.new.self c.args.client c.args.rec c.in_ok-add.field-0 c.in_ok-add.ensures in
    rw (← c.self.view_is) (registered_state (record { config = q.config; roster = q.roster; heads = q.heads.0; last_moment = q.last_moment; progress = q.progress }) c.add.new.self c.reserve.new.self (record { id = c.args.client; key = q.roster.next_key; rec = c.args.rec }) c.args.at last)
