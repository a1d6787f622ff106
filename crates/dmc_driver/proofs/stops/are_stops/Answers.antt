use Rattle.std.proofs.Common.{sym, ◌∙◌}
use Rattle.std.proofs.lemmas.Bool.{false≢true}
use Rattle.dmc_driver.specs.Stops.{AreExplained, ends_of}
use Rattle.dmc_driver.specs.internal.Walks.{AreClientEnds, AreStopsOfServers}
use Rattle.dmc_driver.proofs.WalkLemmas.{explained, of_servers}
use Rattle.dmc_driver.proofs.stops.are_stops.Goals as goal

pub returns-then-are_stops_of_servers : goal.returns-then-are_stops_of_servers
returns-then-are_stops_of_servers g c =
    let scene = c.args.scene.now in
    let report = c.args.report.now in
    let servers : AreStopsOfServers scene c.args.ends.now report.servers.items = rw (← c.deref.ensures.value) (c.are_stops_of_servers.ensures.0 c.if-are_stops_of_servers.true) in (
      (λ e.
          let clients : AreClientEnds scene.clients report.clients.items = rw (← c.deref-then-are_stops_of_servers.ensures.value, ← c.clients.ensures.value) (c.are_client_ends.ensures.0 e) in
          explained scene c.args.ends.now report servers clients),
      (λ (all : AreExplained scene (ends_of c.args.ends.now) report).
          let clients : AreClientEnds scene.clients report.clients.items = all.clients in
          c.are_client_ends.ensures.1 (rw (c.deref-then-are_stops_of_servers.ensures.value, c.clients.ensures.value) clients)),
    )

pub returns-else-are_stops_of_servers : goal.returns-else-are_stops_of_servers
returns-else-are_stops_of_servers g c = (
  (λ e. cc),
  (λ all.
      let servers = of_servers c.args.scene.now c.args.ends.now c.args.report.now all in
      absurd (false≢true (sym c.if-are_stops_of_servers.false ∙ c.are_stops_of_servers.ensures.1 (rw c.deref.ensures.value servers)))),
)
