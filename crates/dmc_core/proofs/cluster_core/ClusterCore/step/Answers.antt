use Rattle.dmc_core.proofs.cluster_core.ClusterCore.step.Goals as goal

pub returns : goal.returns
returns g c = rw (← c.self.view_is) c.carry_out.ensures
