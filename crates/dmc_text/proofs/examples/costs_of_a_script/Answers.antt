-- The replies are computed, and their digits.
use Rattle.std.proofs.Common.{refl}
use Rattle.std.specs.Fmt.{digits}
use Rattle.dmc_text.specs.Lines.{is_clean, line_of_words, heading, setting, figure, configured}
use Rattle.dmc_text.specs.Commands.{phrase, command, small, long, optional, moment, params, cost_word, cost, rates}
use Rattle.dmc_text.proofs.examples.costs_of_a_script.Goals as goal

pub returns : goal.returns
unfolding is_clean line_of_words heading setting figure configured phrase command small long optional moment params cost_word cost rates digits
returns c = refl
