use Rattle.std.proofs.Common.{◌≡◌, map, ap, ◌∙◌}
use Rattle.dmc_pull.specs.Queue.{state_of}
use Rattle.dmc_scene.specs.SceneValue.{ClientValue}
use Rattle.dmc_core.specs.internal.Opening.{opening_state}
use Rattle.dmc_tag.specs.State.{opening}
use Rattle.dmc_core.specs.Opening.{named_rates}
use Rattle.dmc_core.proofs.DistinctIds.{opened_distinct}
use Rattle.dmc_core.proofs.Opened.{opened_servers, opened_clients, opened_kept, opened_rooms, registrations_queue_none}
use Rattle.dmc_core.proofs.opening.open_cluster.Goals as goal

pub of_parts-requires : goal.of_parts-requires
of_parts-requires g c =
    let scene = c.args.scene.now in
    rw c.in_ok-clients.ensures
    (opened_kept (λ x. state_of x.queue ≡ opening_state g.T.Tag.ops scene) scene.counting scene.servers scene.clients c.in_ok-ids.ids c.in_ok-servers.servers.items
    (c.in_ok-ids.ensures ∙ ap (map (λ (k : ClientValue). k.id)) c.clients.ensures.value) (rw c.clients.ensures.value at c.clients.ensures.apart) c.in_ok-servers.ensures.as_many c.in_ok-servers.ensures.each)

pub returns : goal.returns
returns g c =
    let scene = c.args.scene.now in
    rw (c.of_parts.ensures, c.in_ok-clients.ensures)
    (record {
      servers = opened_servers (λ q. state_of q) (opening_state g.T.Tag.ops scene) c.in_ok-servers.servers.items scene.servers c.in_ok-servers.ensures.as_many c.in_ok-servers.ensures.each;
      distinct = opened_distinct g.T.Tag.ops scene.config scene.servers (map named_rates scene.clients);
      clients = opened_clients scene.counting scene.servers scene.clients;
      rooms = opened_rooms (λ q. state_of q) (opening_state g.T.Tag.ops scene) c.in_ok-servers.servers.items c.in_ok-servers.ensures.each
          (registrations_queue_none g.T.Tag.ops (opening g.T.Tag.ops scene.config) (map named_rates scene.clients) tt) scene.counting scene.servers scene.clients;
    })
