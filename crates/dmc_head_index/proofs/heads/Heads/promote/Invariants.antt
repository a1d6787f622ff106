use Rattle.std.proofs.Common.{◌≡◌, map, false, not, count_by}
use Rattle.std.specs.Option.{option_map, option_map_or}
use Rattle.dmc_head_index.specs.Heads.{with_ready_mark}
use Rattle.dmc_head_index.proofs.heads.Heads.promote.Given as goal

-- with all marks made, the heads are those of before
abbrev pub invariant-loop-key : goal.invariant-loop-key
invariant-loop-key g l = map (option_map (with_ready_mark g.T.Tag.ops l.t)) l.self ≡ map (option_map (with_ready_mark g.T.Tag.ops l.t)) l.fn.self

-- how many are unready
abbrev pub decreases-loop-key : goal.decreases-loop-key
decreases-loop-key g l = count_by (λ o. option_map_or (λ h. not h.ready) o false) l.self
