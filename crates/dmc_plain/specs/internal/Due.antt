-- When something is due.
use Rattle.std.specs.Prelude.{ℕ, min, List, [], ◌∷◌, Option, Some, None}
use Rattle.dmc_tag.specs.Tag.{Tagging}
use Rattle.dmc_tag.specs.Rules.{due_moment}
use Rattle.dmc_tag.specs.Rules as rules_of
use Rattle.dmc_tag.specs.declared.plain.QueuedRequest.{QueuedRequest}

-- the earlier of a moment, if there is one, and that at which the request is due
abbrev pub sooner : {T : Type 0} → Tagging T → Option ℕ → QueuedRequest T → Option ℕ
sooner ops None r = Some (due_moment ops r)
sooner ops (Some m) r = Some (min m (due_moment ops r))

-- the least whole number at which some request is early or free, if there is one
abbrev pub least_due : {T : Type 0} → Tagging T → List (QueuedRequest T) → Option ℕ
least_due ops [] = None
least_due ops (x ∷ xs) = Some (rules_of.least_due ops x xs)
