-- Each rate of a scene has a spacing in the tags that the scene names.
use Rattle.dmc_core.proofs.ForCallers.{ratio_scene_spaced, tick_scene_spaced}
use Rattle.dmc_sim.proofs.simulation.simulate.Goals as goal

pub simulate_on-requires : goal.simulate_on-requires
simulate_on-requires c = tick_scene_spaced c.args.scene.now c.tags.ensures.some_hz c.tags.ensures.hz_limit c.in-Tick.ensures.spaced

pub simulate_on-requires-in-Ratio : goal.simulate_on-requires-in-Ratio
simulate_on-requires-in-Ratio c = ratio_scene_spaced c.args.scene.now c.tags.ensures.some_hz c.tags.ensures.hz_limit c.in-Ratio.ensures.spaced
