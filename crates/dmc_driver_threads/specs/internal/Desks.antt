-- What contracts see of the desks of a cluster while they are opened.
use Rattle.std.specs.Prelude.{ℕ, ◌+◌, List, [], ◌∷◌, ◌++◌, map}
use Rattle.std.specs.List.{range_with_len}
use Rattle.dmc_scene.specs.SceneValue.{ClientValue}

-- a server's: the clients that have one there, in their order
pub record QueueDesksValue : Type 0 where
  pub server : ℕ
  pub clients : List ℕ

-- a client's: at how many servers, which are 0, 1, ..
pub record TrackerDesksValue : Type 0 where
  pub client : ℕ
  pub servers : ℕ

-- the ids of clients, as numbers
abbrev pub ids_of : List ClientValue → List ℕ
ids_of clients = map (λ (c : ClientValue). c.id.0) clients

-- a server's desks for these clients
abbrev pub queue_of : List ℕ → ℕ → QueueDesksValue
queue_of clients server = record { server = server; clients = clients }

-- the desks of servers 0, 1, .. for these clients
abbrev pub queues_of : ℕ → List ℕ → List QueueDesksValue
queues_of servers clients = map (queue_of clients) (range_with_len 0 servers)

-- one desk more at a server, for this client
abbrev pub with_client : ℕ → QueueDesksValue → QueueDesksValue
with_client client queue = record queue { clients = queue.clients ++ client ∷ [] }

-- one desk more of a client, at the next server
abbrev pub with_server : TrackerDesksValue → TrackerDesksValue
with_server sides = record sides { servers = sides.servers + 1 }
