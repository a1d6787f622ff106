-- How a cluster opens for a scene.
use Rattle.std.specs.Prelude.{All, IsOk, map}
use Rattle.dmc_types.specs.Values.{Rates}
use Rattle.dmc_types.specs.declared.ids.ClientId.{ClientId}
use Rattle.dmc_tag.specs.Tag.{Tagging}
use Rattle.dmc_tag.specs.Spacing.{spacings_of}
use Rattle.dmc_scene.specs.SceneValue.{SceneValue, ClientValue}
use Rattle.dmc_core.specs.Run.{Run}
use Rattle.dmc_core.specs.Events.{opening_run}

-- a client of a scene, as it registers
abbrev pub named_rates : ClientValue → ClientId × Rates
named_rates c = (c.id, c.info)

-- each rate of the scene has a spacing
abbrev pub HaveSpacings : {T : Type 0} → Tagging T → SceneValue → Type 0
HaveSpacings ops scene = All (λ c. IsOk (spacings_of ops scene.config.hz c.info)) scene.clients

-- the run that the cluster of a scene opens with
abbrev pub opening_of : {T : Type 0} → Tagging T → SceneValue → Run T
opening_of ops scene = opening_run ops scene.config scene.counting scene.servers (map named_rates scene.clients)
