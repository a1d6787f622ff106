use Rattle.dmc_driver.specs.Stops.{causes, first_refused}
use Rattle.dmc_driver.proofs.WalkLemmas.{none_left, other_rest}
use Rattle.dmc_driver.proofs.stops.are_causes.Goals as goal

pub returns-in_default : goal.returns-in_default
returns-in_default g c = ((λ e. cc), (λ same. absurd (c.in_default.ensures (causes c.args.ends.now) same)))

pub returns-in_default-after_ends : goal.returns-in_default-after_ends
returns-in_default-after_ends g c =
    let front = first_refused c.args.commands c.args.history.now.events in (
      (λ e. cc),
      (λ same. absurd (other_rest c.args.stops.now front (causes c.args.ends.now) c.in-Some.others.now c.in-Some.ensures c.in_default-after_ends.ensures same)),
    )

pub returns : goal.returns
returns g c =
    let front = first_refused c.args.commands c.args.history.now.events in
    rw c.is_empty.ensures (none_left c.args.stops.now front (causes c.args.ends.now) c.in-Some.others.now c.in-Some-after_ends.rest.now c.in-Some.ensures c.in-Some-after_ends.ensures)
