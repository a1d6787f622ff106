-- The digits are computed.
use Rattle.std.proofs.Common.{refl}
use Rattle.std.specs.Fmt.{digits}
use Rattle.dmc_text.proofs.examples.texts_of_replies.Goals as goal

pub returns-clause-future : goal.returns-clause-future
unfolding digits
returns-clause-future c = refl

pub returns-clause-tags : goal.returns-clause-tags
unfolding digits
returns-clause-tags c = refl

pub returns-clause-thirds : goal.returns-clause-thirds
unfolding digits
returns-clause-thirds c = refl

pub returns-clause-grant : goal.returns-clause-grant
unfolding digits
returns-clause-grant c = refl

pub returns-clause-costly : goal.returns-clause-costly
unfolding digits
returns-clause-costly c = refl
