use Rattle.std.proofs.Common.{arith}
use Rattle.dmc_types.proofs.RateLemmas.{least_from_greatest}
use Rattle.dmc_types.proofs.rates.rate_at_least.Goals as goal

pub returns-clause-found : goal.returns-clause-found
returns-clause-found c =
    least_from_greatest c.args.hz c.args.rate c.greatest_divisor.result (omega arith) (omega arith) c.greatest_divisor.ensures
