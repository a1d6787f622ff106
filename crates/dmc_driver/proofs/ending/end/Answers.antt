use Rattle.std.proofs.Common.{rules, refl, sym, ◌∙◌}
use Rattle.std.proofs.lemmas.Bool.{false≢true}
use Rattle.dmc_driver.proofs.ending.end.Goals as goal

pub returns-then-not-are_stops-clause-report : goal.returns-then-not-are_stops-clause-report
returns-then-not-are_stops-clause-report g c = λ all. false≢true (sym c.if-not-are_stops.true ∙ c.are_stops.ensures.1 all)

pub returns-then-is_done-clause-report : goal.returns-then-is_done-clause-report
returns-then-is_done-clause-report g c = (refl, c.are_stops.ensures.0 c.if-not-are_stops.false)

pub returns-then-ran_out-clause-report : goal.returns-then-ran_out-clause-report
returns-then-ran_out-clause-report g c = (refl, c.are_stops.ensures.0 c.if-not-are_stops.false)

pub returns-else-ran_out-clause-report : goal.returns-else-ran_out-clause-report
returns-else-ran_out-clause-report g c = (refl, c.are_stops.ensures.0 c.if-not-are_stops.false)

-- Answered here, so that a wrong body fails here.
pub returns-else-ran_out-clause-ending : goal.returns-else-ran_out-clause-ending
returns-else-ran_out-clause-ending g c = search rules

pub returns-then-ran_out-clause-ending : goal.returns-then-ran_out-clause-ending
returns-then-ran_out-clause-ending g c = search rules
