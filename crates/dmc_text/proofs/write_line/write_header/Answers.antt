-- Both numbers are those of their types.
use Rattle.std.proofs.Common.{arith}
use Rattle.dmc_text.proofs.WrittenLemmas.{header_again}
use Rattle.dmc_text.proofs.write_line.write_header.Goals as goal

pub returns-clause-again : goal.returns-clause-again
returns-clause-again g c = header_again c.args.server c.args.first (omega arith) (omega (arith, c.ranges.first.fits))
