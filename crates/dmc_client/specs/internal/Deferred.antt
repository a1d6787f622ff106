-- Reductions that are deferred: an amount was taken off each queued R, but not yet off the stored one.
use Rattle.std.specs.Prelude.{◌≡◌, Bool, true, List, [], map, Option, Some, None}
use Rattle.std.specs.Option.{option_map, option_map_or}
use Rattle.std.specs.List.{AllByRecursion}
use Rattle.dmc_tag.specs.Tag.{Tagging}
use Rattle.dmc_tag.specs.Rules.{has_less, less}
use Rattle.dmc_tag.specs.declared.plain.QueuedRequest.{QueuedRequest}

-- a stored R, less the deferred amount
abbrev pub tag_less_deferred : {T : Type 0} → Tagging T → Option T → Option T → Option T
tag_less_deferred ops None r = r
tag_less_deferred ops (Some amount) r = option_map (less ops amount) r

-- a stored request, less the deferred amount
abbrev pub less_deferred : {T : Type 0} → Tagging T → Option T → QueuedRequest T → QueuedRequest T
less_deferred ops deferred r = record r { tags = record (r.tags) { r = tag_less_deferred ops deferred r.tags.r } }

abbrev pub all_less_deferred : {T : Type 0} → Tagging T → Option T → List (QueuedRequest T) → List (QueuedRequest T)
all_less_deferred ops deferred requests = map (less_deferred ops deferred) requests

-- the R less an amount is a value
abbrev pub reservation_has_less : {T : Type 0} → Tagging T → T → QueuedRequest T → Bool
reservation_has_less ops amount r = option_map_or (has_less ops amount) r.tags.r true

-- the R less an amount, and less the deferred amount, is a value
abbrev pub tag_has_deferred : {T : Type 0} → Tagging T → Option T → Option T → Bool
tag_has_deferred ops None r = true
tag_has_deferred ops (Some amount) r = option_map_or (has_less ops amount) r true

abbrev pub has_deferred : {T : Type 0} → Tagging T → Option T → QueuedRequest T → Bool
has_deferred ops deferred r = tag_has_deferred ops deferred r.tags.r

-- Each stored R less the deferred amount is a value, and nothing is deferred if nothing is queued.
pub record IsDeferred {T : Type 0} (ops : Tagging T) (deferred : Option T) (stored : List (QueuedRequest T)) : Type 0 where
  pub values : AllByRecursion (λ r. has_deferred ops deferred r ≡ true) stored
  pub empty : stored ≡ [] → deferred ≡ None

-- the deferred amount after one more reduction
abbrev pub deferred_with : {T : Type 0} → Tagging T → Option T → T → Option T
deferred_with ops None amount = Some amount
deferred_with ops (Some deferred) amount = ops.plus deferred amount
