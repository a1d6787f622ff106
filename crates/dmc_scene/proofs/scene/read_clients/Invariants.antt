use Rattle.std.proofs.Common.{vec_capacity}
use Rattle.dmc_scene.proofs.TableLemmas.{Progress}
use Rattle.dmc_scene.proofs.scene.read_clients.Given as goal

abbrev pub invariant-loop-value : goal.invariant-loop-value
invariant-loop-value l = Progress l.tags l.hz l.values l.value-index l.clients.items (vec_capacity l.clients)
