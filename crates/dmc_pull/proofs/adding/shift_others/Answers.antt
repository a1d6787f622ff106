use Rattle.std.proofs.Common.{refl}
use Rattle.dmc_pull.proofs.adding.shift_others.Goals as goal

pub returns-in-Some-clause-entries : goal.returns-in-Some-clause-entries
returns-in-Some-clause-entries g c = rw (c.in-Some.is, c.change.ensures.value) refl
