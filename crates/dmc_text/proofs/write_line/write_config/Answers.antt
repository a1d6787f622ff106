-- The configuration is read again from its line.
use Rattle.std.proofs.Common.{arith}
use Rattle.dmc_types.specs.Values.{IsSetting}
use Rattle.dmc_text.proofs.WrittenLemmas.{config_again}
use Rattle.dmc_text.proofs.write_line.write_config.Given.{Over}
use Rattle.dmc_text.proofs.write_line.write_config.Goals.{After-at_limit}
use Rattle.dmc_text.proofs.write_line.write_config.Goals as goal

limits : (g : Over) (c : After-at_limit g) → IsSetting c.args.config.hz c.args.config.idle_age c.args.config.erase_age c.args.config.at_limit
limits g c = record {
  some_hz = omega (arith, c.hz-hz.ensures.value, c.hz-hz.ensures.some);
  hz_limit = omega (arith, c.hz-hz.ensures.value, c.hz-hz.ensures.limit);
  some_age = omega (arith, c.idle_age-idle.ensures.value, c.idle_age-idle.ensures.some);
  in_order = omega (arith, c.idle_age-idle.ensures.value, c.idle_age-idle.ensures.in_order);
  age_limit = omega (arith, c.erase_age-erase.ensures.value, c.erase_age-erase.ensures.limit);
  threshold_limit = c.at_limit.ensures.limit;
}

pub returns-in-Wait-Clock-clause-again : goal.returns-in-Wait-Clock-clause-again
returns-in-Wait-Clock-clause-again g c = config_again c.args.config (limits g (goal.at.returns-in-Wait-Clock-clause-again g c).After-at_limit)

pub returns-in-Wait-Virtual-clause-again : goal.returns-in-Wait-Virtual-clause-again
returns-in-Wait-Virtual-clause-again g c = config_again c.args.config (limits g (goal.at.returns-in-Wait-Virtual-clause-again g c).After-at_limit)

pub returns-in-Allow-Clock-clause-again : goal.returns-in-Allow-Clock-clause-again
returns-in-Allow-Clock-clause-again g c = config_again c.args.config (limits g (goal.at.returns-in-Allow-Clock-clause-again g c).After-at_limit)

pub returns-in-Reject-Clock-clause-again : goal.returns-in-Reject-Clock-clause-again
returns-in-Reject-Clock-clause-again g c = config_again c.args.config (limits g (goal.at.returns-in-Reject-Clock-clause-again g c).After-at_limit)

pub returns-in-Reject-Virtual-clause-again : goal.returns-in-Reject-Virtual-clause-again
returns-in-Reject-Virtual-clause-again g c = config_again c.args.config (limits g (goal.at.returns-in-Reject-Virtual-clause-again g c).After-at_limit)

pub returns-in-Allow-Virtual-clause-again : goal.returns-in-Allow-Virtual-clause-again
returns-in-Allow-Virtual-clause-again g c = config_again c.args.config (limits g (goal.at.returns-in-Allow-Virtual-clause-again g c).After-at_limit)
