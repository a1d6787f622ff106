-- Each number is one of its type.
use Rattle.std.proofs.Common.{arith}
use Rattle.dmc_types.specs.declared.command.Command.TheVariants.{Add}
use Rattle.dmc_text.specs.RoundTrip.{IsAskedAgain}
use Rattle.dmc_text.proofs.WrittenLemmas.{asked_add}
use Rattle.dmc_text.proofs.write_line.write_add.Given.{Over}
use Rattle.dmc_text.proofs.write_line.write_add.Goals.{After-units-units}
use Rattle.dmc_text.proofs.write_line.write_add.Goals as goal

-- however the cost is written
again : (g : Over) (c : After-units-units g) → IsAskedAgain (Add c.args.client c.args.token c.args.params c.args.at)
again g c =
    asked_add c.args.client c.args.token c.args.params c.args.at (omega arith) (omega arith) (omega (arith, c.delta-delta.ensures))
    (omega (arith, c.rho-rho.ensures.value, c.rho-rho.ensures.bound)) (omega (arith, c.units-units.ensures.value, c.cost.ensures, c.units-units.ensures.bound)) (omega (arith, c.units-units.ensures.value, c.cost.ensures))
    (omega (arith, c.ticks-ticks.ensures.value, c.ticks-ticks.ensures.bound))

pub returns-then-units-eq1-clause-again : goal.returns-then-units-eq1-clause-again
returns-then-units-eq1-clause-again g c = again g (goal.at.returns-then-units-eq1-clause-again g c).After-units-units

pub returns-clause-again : goal.returns-clause-again
returns-clause-again g c = again g (goal.at.returns-clause-again g c).After-units-units
