use Rattle.std.proofs.Common.{rules}
use Rattle.dmc_driver.proofs.ending.ran_out.Goals as goal

pub returns-then-ran_out_at : goal.returns-then-ran_out_at
returns-then-ran_out_at g c = (
  (λ e. (c.loop-i.i, c.index.result.now, search rules, search rules, c.ran_out_at.ensures.0 (search rules))),
  (λ r. search rules),
)
