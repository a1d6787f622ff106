use Rattle.std.proofs.Common.{length, refl}
use Rattle.std.proofs.lemmas.Option.{slice_get-map, slice_get_read}
use Rattle.dmc_core.specs.declared.server.CoreServer.{CoreServer}
use Rattle.dmc_core.proofs.cluster.Cluster.queue.Goals as goal

pub returns : goal.returns
returns g c =
    let servers = c.self.inside.servers.items in
    let found = rw c.deref.ensures.value at c.in_ok-server.ensures.lookup in
    rw (
      ← c.self.view_is,
      slice_get-map (λ (x : CoreServer g.row.Q.Denot). x.queue) servers c.args.server.0,
      slice_get_read servers (length servers) c.args.server.0 c.in_ok-server.server.now refl found.3.0 found.1,
    )
    refl
