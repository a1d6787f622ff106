use Rattle.dmc_core.proofs.ForCallers.{tick_scene_spaced}
use Rattle.dmc_tests_base.proofs.cores.open.Goals as goal

pub new-requires : goal.new-requires
new-requires c = tick_scene_spaced c.in_ok-scene.scene c.tags.ensures.some_hz c.tags.ensures.hz_limit c.in-Tick.ensures.spaced
