use Rattle.std.proofs.Common.{◌∙◌}
use Rattle.dmc_pull.specs.Represented.{clients_in}
use Rattle.dmc_pull.proofs.Add.Adds.{shift_busy}
use Rattle.dmc_pull.proofs.queue.PullQueue.needed_shift.Goals as goal

pub returns-then-idle-clause-value : goal.returns-then-idle-clause-value
returns-then-idle-clause-value g c = λ arriving same. c.shift_for_idle.ensures.value arriving (same ∙ c.if-idle.true)

pub returns-clause-value : goal.returns-clause-value
returns-clause-value g c = λ arriving same. shift_busy g.T.Tag.ops c.args.self.now.config.shares (clients_in c.args.self.now.roster.entries) arriving c.args.t (same ∙ c.if-idle.false)
