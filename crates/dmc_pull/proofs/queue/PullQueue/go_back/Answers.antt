use Rattle.std.proofs.Common.{sym, subst}
use Rattle.std.specs.Prelude.{map}
use Rattle.std.specs.Option.{option_map}
use Rattle.dmc_head_index.specs.Heads.{set_back}
use Rattle.dmc_tag.proofs.ForCallers.{due_from_ceil}
use Rattle.dmc_pull.specs.Queue.{IsQueue}
use Rattle.dmc_pull.proofs.Common.Kept.{same_roster, length_map, went_back}
use Rattle.dmc_pull.proofs.queue.PullQueue.go_back.Goals as goal

pub invariant_of-self : goal.invariant_of-self
invariant_of-self g c =
    let ops = g.T.Tag.ops in
    let q = c.self.inside in (
      subst (λ hs. IsQueue ops g.T.Tag.fraction g.T.Tag.is_value (record { config = q.config; roster = q.roster; heads = hs; last_moment = c.args.before; progress = q.progress }) q.queued) (sym c.set_back.ensures)
          (same_roster ops g.T.Tag.fraction g.T.Tag.is_value _ q.queued (map (option_map (set_back ops c.args.before)) q.heads.0) c.args.before c.self.invariant.0 (length_map (option_map (set_back ops c.args.before)) q.heads.0) (went_back ops (due_from_ceil g.T.Tag.ops g.T.Tag.fraction g.T.Tag.is_value g.met.T.Tag.exact) q.last_moment c.args.before q.roster.entries q.heads.0 c.self.invariant.0.heads)),
      c.self.invariant.1,
    )
