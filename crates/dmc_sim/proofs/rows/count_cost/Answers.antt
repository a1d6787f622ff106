use Rattle.std.proofs.Common.{◌≡◌, ap, ◌∙◌, Option, Some, None, refl}
use Rattle.std.specs.Prelude.{unwrap_or, option_map}
use Rattle.std.specs.List.{find}
use Rattle.std.specs.Option.{option_map_or}
use Rattle.dmc_tag.specs.State.{is_client}
use Rattle.dmc_core.specs.Core.{Held, completions_of}
use Rattle.dmc_sim.proofs.rows.count_cost.Goals as goal

-- the first part of what is found, or 0
cost_of_found : (o : Option Held) → (unwrap_or (option_map completions_of o) (0, 0)).0 ≡ option_map_or (λ h. h.tracker.completions.delta) o 0
cost_of_found None = refl
cost_of_found (Some h) = refl

pub returns : goal.returns
returns g c = record {
  scene = refl;
  plan = refl;
  sent = refl;
  completed = refl;
  reservation = refl;
  cost = ap (λ p. p.0) (c.unwrap_or-cost.ensures ∙ ap (λ o. unwrap_or o (0, 0)) (rw c.id.ensures at c.completions.ensures))
      ∙ cost_of_found (find (λ h. is_client c.args.client.now.scene.id h.id) c.args.core.now.clients);
}
