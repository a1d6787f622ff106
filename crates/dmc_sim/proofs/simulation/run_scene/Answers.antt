use Rattle.std.proofs.Common.{map, ap, ◌∙◌, sym, subst}
use Rattle.std.specs.Prelude.{AllPairs}
use Rattle.dmc_pull.specs.Queue.{state_of}
use Rattle.dmc_scene.specs.SceneValue.{AreApart}
use Rattle.dmc_sim.specs.internal.Counts.{AreDifferent, HaveGranted}
use Rattle.dmc_sim.specs.Simulation.{opening_sim}
use Rattle.dmc_sim.specs.declared.report.ServerReport.{ServerReport}
use Rattle.dmc_sim.proofs.RowLemmas.{none_granted}
use Rattle.dmc_sim.proofs.Starts.{at_opening, idle_servers_are, servers_differ}
use Rattle.dmc_sim.proofs.simulation.run_scene.Goals as goal

pub run-requires-clause-apart : goal.run-requires-clause-apart
run-requires-clause-apart g c = subst (AllPairs AreApart) (c.clients.ensures.value ∙ sym c.requires.scenes) c.clients.ensures.apart

pub run-requires-clause-numbers : goal.run-requires-clause-numbers
run-requires-clause-numbers g c = ap (map (λ (r : ServerReport). r.server)) c.requires.servers ∙ idle_servers_are c.args.scene.now

pub run-requires-clause-different : goal.run-requires-clause-different
run-requires-clause-different g c = subst (AllPairs AreDifferent) (sym (ap (map (λ (r : ServerReport). r.server)) c.requires.servers ∙ idle_servers_are c.args.scene.now)) (servers_differ c.args.scene.now)

pub run-requires-clause-grants : goal.run-requires-clause-grants
run-requires-clause-grants g c = subst (HaveGranted 0) (sym c.requires.servers) (none_granted 0 c.args.scene.now.servers)

pub returns-clause-last : goal.returns-clause-last
returns-clause-last g c = c.run.ensures.last (opening_sim g.T.Tag.ops c.args.scene.now) (at_opening g.T.Tag.ops state_of c.args.scene.now c.in_ok-core.core c.args.clients.now c.args.servers.now c.in_ok-core.ensures c.requires.clients c.requires.servers)
