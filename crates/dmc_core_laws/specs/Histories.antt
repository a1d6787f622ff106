-- The history of a server in a cluster run: each client's registration first, then each command that an event gives to the
-- server's queue, with the queue's reply.
use Rattle.std.specs.Prelude.{◌≡◌, ◌<◌, ◌==◌, Bool, true, List, [], ◌∷◌, ◌++◌, map, slice_get, Option, Some, None, Result, Ok}
use Rattle.std.specs.Option.{option_map, option_and_then}
use Rattle.std.specs.List.{find}
use Rattle.dmc_types.specs.Values.{Rates}
use Rattle.dmc_types.specs.declared.ids.ClientId.{ClientId}
use Rattle.dmc_types.specs.declared.ids.ServerId.{ServerId}
use Rattle.dmc_types.specs.declared.command.Command.{Command}
use Rattle.dmc_types.specs.declared.command.Command.TheVariants as commands
use Rattle.dmc_tag.specs.Tag.{Tagging}
use Rattle.dmc_tag.specs.State.{State, opening, is_client}
use Rattle.dmc_tag.specs.Step.{step}
use Rattle.dmc_tag.specs.Replay.{after, replays}
use Rattle.dmc_tag.specs.declared.event.Event.{Event}
use Rattle.dmc_tag.specs.declared.reply.Reply.{Reply}
use Rattle.dmc_scene.specs.SceneValue.{SceneValue}
use Rattle.dmc_core.specs.declared.event.Message.{Message}
use Rattle.dmc_core.specs.declared.event.CoreEvent.{CoreEvent}
use Rattle.dmc_core.specs.declared.event.CoreEvent.TheVariants.{Stamp, Arrive, Pull, Respond, Update, Remove, Cancel, Clean}
use Rattle.dmc_core.specs.declared.event.CoreReply.{CoreReply}
use Rattle.dmc_core.specs.declared.event.CoreReply.TheVariants.{Served}
use Rattle.dmc_core.specs.declared.event.CoreFault.{CoreFault}
use Rattle.dmc_core.specs.Run.{Client, Run, pair_at}
use Rattle.dmc_core.specs.Events.{cluster_step, registration, run_after}
use Rattle.dmc_core.specs.Opening.{named_rates, opening_of}

abbrev pub Answer : Type 0 → Type 0
Answer T = Result (CoreReply T) CoreFault

-- ---- what an event gives to a queue

abbrev pub client_in : {T : Type 0} → Run T → ClientId → Option Client
client_in run id = find (λ c. is_client id c.id) run.clients

-- the oldest message in flight of a client to a server
abbrev pub oldest : {T : Type 0} → Run T → ClientId → ServerId → Option Message
oldest run id s = option_and_then (λ c. slice_get (pair_at s c.pairs).flight 0) (client_in run id)

-- the server that an event names
abbrev pub server_named : CoreEvent → ServerId
server_named (Stamp client server token cost) = server
server_named (Arrive client server at) = server
server_named (Pull server at) = server
server_named (Respond client server phase cost) = server
server_named (Update server client info at) = server
server_named (Remove server client) = server
server_named (Cancel server client token) = server
server_named (Clean server at) = server

-- the command that an event gives to that server's queue
abbrev pub queue_command : {T : Type 0} → Run T → CoreEvent → Option Command
queue_command run (Stamp client server token cost) = None
queue_command run (Arrive client server at) = option_map (λ m. commands.Add client m.token m.params at) (oldest run client server)
queue_command run (Pull server at) = Some (commands.Pull at)
queue_command run (Respond client server phase cost) = None
queue_command run (Update server client info at) = Some (commands.Update client info at)
queue_command run (Remove server client) = Some (commands.Remove client)
queue_command run (Cancel server client token) = Some (commands.Cancel client token run.counting)
queue_command run (Clean server at) = Some (commands.Clean at)

abbrev pub is_server : ServerId → ServerId → Bool
is_server s server = server.0 == s.0

-- an event of a history; one thread gives all commands
abbrev pub entry : {T : Type 0} → Command → Reply T → Event T
entry command reply = record { worker = record { 0 = 0 }; command = command; reply = reply }

-- the command to a queue and its reply
abbrev pub recorded_events : {T : Type 0} → Bool → Option Command → Answer T → List (Event T)
recorded_events true (Some command) (Ok (Served reply)) = entry command reply ∷ []
recorded_events here command answer = []

-- ---- the history of a server

abbrev pub registrations : {T : Type 0} → Tagging T → State T → List (ClientId × Rates) → List (Event T)
registrations ops u [] = []
registrations ops u (c ∷ cs) = entry (registration c) (step ops u (registration c)).1 ∷ registrations ops ((step ops u (registration c)).0) cs

-- the history of the events, from a run on
abbrev pub history_from : {T : Type 0} → Tagging T → ServerId → Run T → List CoreEvent → List (Event T)
history_from ops s run [] = []
history_from ops s run (e ∷ es) =
    recorded_events (is_server s (server_named e)) (queue_command run e) ((cluster_step ops run e).1) ++ history_from ops s ((cluster_step ops run e).0) es

abbrev pub history : {T : Type 0} → Tagging T → SceneValue → ServerId → List CoreEvent → List (Event T)
history ops scene s events = registrations ops (opening ops scene.config) (map named_rates scene.clients) ++ history_from ops s (opening_of ops scene) events

-- The history of a server replays, and the state after it by the rules is the server's plain state.
pub record Replays {T : Type 0} (ops : Tagging T) (scene : SceneValue) (s : ServerId) (events : List CoreEvent) : Type 0 where
  pub replays_all : replays ops scene.config (history ops scene s events)
  pub state_is : slice_get (run_after ops (opening_of ops scene) events).servers s.0 ≡ Some (after ops scene.config (history ops scene s events))

abbrev pub HistoriesReplay : {T : Type 0} → Tagging T → Type 0
HistoriesReplay ops = (scene : SceneValue) (s : ServerId) (events : List CoreEvent) → s.0 < scene.servers → Replays ops scene s events
