-- The virtual time and the furthest P stay values.
use Rattle.std.proofs.Common.{Bool, true, false, cond}
use Rattle.std.specs.Ordering.{is_lt, ord_max}
use Rattle.dmc_types.specs.declared.config.PhaseType.{PhaseType}
use Rattle.dmc_types.specs.declared.config.PhaseType.TheVariants as phases
use Rattle.dmc_types.specs.declared.config.Shares.{Shares}
use Rattle.dmc_types.specs.declared.config.Shares.TheVariants.{Clock, Virtual}
use Rattle.dmc_tag.specs.Tag.{Fraction, Tagging}
use Rattle.dmc_tag.specs.Rules.{virtual_at, floor_by, progress_added, progress_granted}
use Rattle.dmc_tag.specs.declared.plain.Progress.{Progress}
use Rattle.dmc_pull.specs.Queue.{AreValues}

module _ {T : Type 0} (ops : Tagging T) (fraction : T → Fraction) (is_value : Fraction → Type 0) where
  abbrev value : T → Type 0
  value tag = is_value (fraction tag)

  greater_value : (a b : T) → value a → value b → value (ord_max ops.compare a b)
  greater_value a b h k = at (is_lt (ops.compare b a)) where
    at : (r : Bool) → value (cond r a b)
    at true = h
    at false = k

  virtual_value : (nothing_queued : Bool) (progress : Progress T) → AreValues fraction is_value progress → value (virtual_at ops nothing_queued progress)
  virtual_value true progress are = greater_value progress.virtual_time progress.furthest are.virtual_time are.furthest
  virtual_value false progress are = are.virtual_time

  -- what a new P is compared with is a value
  pub floor_value : (shares : Shares) (nothing_queued : Bool) (progress : Progress T) (t : T) → AreValues fraction is_value progress → value t → value (floor_by ops shares nothing_queued progress t)
  floor_value Clock nothing_queued progress t are h = h
  floor_value Virtual nothing_queued progress t are h = virtual_value nothing_queued progress are

  -- after an arrival
  pub added_values : (shares : Shares) (nothing_queued : Bool) (share : T) (progress : Progress T) → AreValues fraction is_value progress → value share → AreValues fraction is_value (progress_added ops shares nothing_queued share progress)
  added_values Clock nothing_queued share progress are h = are
  added_values Virtual nothing_queued share progress are h = record { virtual_time = virtual_value nothing_queued progress are; furthest = greater_value progress.furthest share are.furthest h }

  -- after a grant
  pub granted_values : (phase : PhaseType) (shares : Shares) (share : T) (progress : Progress T) → AreValues fraction is_value progress → value share → AreValues fraction is_value (progress_granted ops phase shares share progress)
  granted_values phases.Reservation shares share progress are h = are
  granted_values phases.Priority Clock share progress are h = are
  granted_values phases.Priority Virtual share progress are h = record { virtual_time = greater_value progress.virtual_time share are.virtual_time h; furthest = are.furthest }
