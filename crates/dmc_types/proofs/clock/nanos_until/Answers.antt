use Rattle.std.proofs.Common.{◌≡◌, ◌<◌, ◌^◌, sym, ◌∙◌, rules}
use Rattle.dmc_types.specs.Clock.{IsHz, IsLeastNanos}
use Rattle.dmc_types.proofs.ClockLemmas.{had_where_it_fits, least_nanos, none_where_none_fits, value_where_it_fits}
use Rattle.dmc_types.proofs.clock.nanos_until.Goals as goal
use Rattle.dmc_types.proofs.clock.nanos_until.Goals.{After-ok-2}

valid : (c : After-ok-2) → IsHz c.args.hz
valid c = search rules

least : (c : After-ok-2) → IsLeastNanos c.args.hz c.args.ticks c.div_ceil-nanos.result
least c =
    let had = had_where_it_fits c.try_from.result (c.args.ticks < 2 ^ 64) c.args.ticks c.in_ok-ticks.ticks c.try_from.ensures (sym c.ok.ensures.value ∙ c.in_ok-ticks.was) in
    let ticks : c.from.result ≡ c.args.ticks = c.from.ensures ∙ had in
    rw (c.div_ceil-nanos.ensures, c.from-2.ensures, ticks) (least_nanos c.args.hz c.args.ticks (valid c).0)

pub returns-clause-value : goal.returns-clause-value
returns-clause-value c = rw c.ok-2.ensures.value (value_where_it_fits c.args.hz c.args.ticks c.div_ceil-nanos.result (valid c) (least c) c.try_from-2.result c.try_from-2.ensures)

pub returns-clause-none : goal.returns-clause-none
returns-clause-none c = rw c.ok-2.ensures.value (none_where_none_fits c.args.hz c.args.ticks c.div_ceil-nanos.result (valid c) (least c) c.try_from-2.result c.try_from-2.ensures)
