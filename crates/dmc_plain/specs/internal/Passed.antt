-- A cancel in two parts: each request is changed, and then those with the token are removed.
use Rattle.std.specs.Prelude.{ℕ, List, [], ◌∷◌}
use Rattle.dmc_types.specs.declared.ids.Token.{Token}
use Rattle.dmc_tag.specs.Cancel.{has_token, befores_next, fallen_request}
use Rattle.dmc_tag.specs.Tag.{Tagging}
use Rattle.dmc_tag.specs.declared.cancel.Befores.{Befores}
use Rattle.dmc_tag.specs.declared.plain.QueuedRequest.{QueuedRequest}
use Rattle.dmc_tag.specs.declared.plain.Slack.{Slack}

-- all requests, each as if it stayed
abbrev pub passed : {T : Type 0} → Tagging T → Token → (ℕ → Slack T) → Befores T → List (QueuedRequest T) → List (QueuedRequest T)
passed ops token charged befores [] = []
passed ops token charged befores (r ∷ rs) = fallen_request ops befores r ∷ passed ops token charged (befores_next ops (has_token token r) (charged r.cost) befores r) rs
