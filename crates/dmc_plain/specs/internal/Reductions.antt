-- Which requests a reduction may change.
use Rattle.std.specs.Prelude.{Bool, true, List}
use Rattle.std.specs.Option.{option_map_or}
use Rattle.std.specs.List.{list_all}
use Rattle.dmc_tag.specs.Tag.{Tagging}
use Rattle.dmc_tag.specs.Rules.{has_less}
use Rattle.dmc_tag.specs.declared.plain.QueuedRequest.{QueuedRequest}

-- each R less an amount is a value
abbrev pub are_reducible : {T : Type 0} → Tagging T → T → List (QueuedRequest T) → Bool
are_reducible ops amount requests = list_all (λ r. option_map_or (has_less ops amount) r.tags.r true) requests
