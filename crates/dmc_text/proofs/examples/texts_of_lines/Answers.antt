-- The digits are computed.
use Rattle.std.proofs.Common.{refl}
use Rattle.std.specs.Fmt.{digits}
use Rattle.dmc_text.proofs.examples.texts_of_lines.Goals as goal

pub returns-clause-config : goal.returns-clause-config
unfolding digits
returns-clause-config c = refl

pub returns-clause-register : goal.returns-clause-register
unfolding digits
returns-clause-register c = refl

pub returns-clause-cancel : goal.returns-clause-cancel
unfolding digits
returns-clause-cancel c = refl

pub returns-clause-event : goal.returns-clause-event
unfolding digits
returns-clause-event c = refl

pub returns-clause-header : goal.returns-clause-header
unfolding digits
returns-clause-header c = refl

pub returns-clause-virtual_time : goal.returns-clause-virtual_time
unfolding digits
returns-clause-virtual_time c = refl

pub returns-clause-cheap : goal.returns-clause-cheap
unfolding digits
returns-clause-cheap c = refl

pub returns-clause-costly : goal.returns-clause-costly
unfolding digits
returns-clause-costly c = refl
