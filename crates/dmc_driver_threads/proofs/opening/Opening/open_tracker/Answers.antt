use Rattle.std.proofs.Common.{length, ap, arith}
use Rattle.dmc_tlock.specs.Opening.{AreBookLimits}
use Rattle.dmc_driver_threads.specs.internal.Desks.{TrackerDesksValue}
use Rattle.dmc_driver_threads.proofs.opening.Opening.open_tracker.Goals as goal

pub unreachable-requires : goal.unreachable-requires
unreachable-requires g c =
    let long = ap (λ (d : TrackerDesksValue). d.servers) c.desks.view_is in
    let limits : AreBookLimits (length c.desks.inside.desks.items) c.from-most.result c.events-events.result = record {
      tracker = record {
        some_servers = omega (arith, long, c.requires.some);
        servers_limit = omega (arith, long, c.requires.few);
        some_most = omega (arith, c.from-most.ensures);
        max_limit = omega (arith, c.from-most.ensures);
      };
      some_events = omega (arith, c.events-events.ensures.some);
      events_limit = c.events-events.ensures.limit;
    } in
    let memory = c.in-Err.ensures.memory limits in
    cc
