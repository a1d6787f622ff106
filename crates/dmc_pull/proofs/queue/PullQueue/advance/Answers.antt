use Rattle.std.proofs.Common.{sym, subst}
use Rattle.std.specs.Prelude.{◌≤◌, map}
use Rattle.std.specs.Option.{option_map}
use Rattle.dmc_head_index.specs.Heads.{with_ready_mark}
use Rattle.dmc_tag.proofs.ForCallers.{due_from_ceil}
use Rattle.dmc_pull.specs.Queue.{IsQueue}
use Rattle.dmc_pull.specs.internal.Queue.{IsMarked}
use Rattle.dmc_pull.proofs.Common.Kept.{same_roster, length_map, promoted, all_marked}
use Rattle.dmc_pull.proofs.queue.PullQueue.advance.Goals as goal

pub invariant_of-self : goal.invariant_of-self
invariant_of-self g c =
    let ops = g.T.Tag.ops in
    let q = c.self.inside in
    let heads = map (option_map (with_ready_mark ops c.args.at)) q.heads.0 in
    let later : q.last_moment ≤ c.args.at = subst (λ v. v.last_moment ≤ c.args.at) (sym c.self.view_is) c.requires in (
      subst (λ hs. IsQueue ops g.T.Tag.fraction g.T.Tag.is_value (record { config = q.config; roster = q.roster; heads = hs; last_moment = c.args.at; progress = q.progress }) q.queued) (sym c.promote.ensures)
          (same_roster ops g.T.Tag.fraction g.T.Tag.is_value _ q.queued heads c.args.at c.self.invariant.0 (length_map (option_map (with_ready_mark ops c.args.at)) q.heads.0) (promoted ops (due_from_ceil g.T.Tag.ops g.T.Tag.fraction g.T.Tag.is_value g.met.T.Tag.exact) q.last_moment c.args.at q.roster.entries q.heads.0 later c.self.invariant.0.heads)),
      c.self.invariant.1,
    )

pub returns-clause-marked : goal.returns-clause-marked
returns-clause-marked g c =
    let ops = g.T.Tag.ops in
    let q = c.self.inside in
    subst (λ hs. IsMarked ops (record { config = q.config; roster = q.roster; heads = hs; last_moment = c.args.at; progress = q.progress })) (sym c.promote.ensures)
    (all_marked ops (due_from_ceil g.T.Tag.ops g.T.Tag.fraction g.T.Tag.is_value g.met.T.Tag.exact) c.args.at q.heads.0)
