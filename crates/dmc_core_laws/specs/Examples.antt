-- Small runs on which the bounds are computed: one server, client 1 of weight 1, 1,000 ticks a second, whole ticks as tags.
use Rattle.std.specs.Prelude.{ℤ, ℕ, List, [], ◌∷◌, ◌++◌, Option, None, slice_get}
use Rattle.dmc_types.specs.Values.{Setting}
use Rattle.dmc_types.specs.declared.ids.ServerId.{ServerId}
use Rattle.dmc_types.specs.declared.config.Counting.{Counting}
use Rattle.dmc_types.specs.declared.config.Counting.TheVariants.{All}
use Rattle.dmc_types.specs.declared.config.PhaseType.TheVariants.{Reservation, Priority}
use Rattle.dmc_types.specs.declared.config.TagKind.TheVariants.{Tick}
use Rattle.dmc_tag.specs.declared.event.Event.{Event}
use Rattle.dmc_tick.specs.Tick.{tick_ops}
use Rattle.dmc_history_laws.specs.Examples.{first_client}
use Rattle.dmc_scene.specs.SceneValue.{SceneValue}
use Rattle.dmc_core.specs.declared.event.CoreEvent.{CoreEvent}
use Rattle.dmc_core.specs.declared.event.CoreEvent.TheVariants.{Stamp, Arrive, Pull, Respond, Cancel}
use Rattle.dmc_core.specs.Events.{answers_of}
use Rattle.dmc_core.specs.Opening.{opening_of}
use Rattle.dmc_tracker.specs.declared.event.TrackerEvent.{TrackerEvent}
use Rattle.dmc_core_laws.specs.Histories.{Answer, history}
use Rattle.dmc_core_laws.specs.Bounds.{run_of, tracker_list}

abbrev pub only_server : ServerId
only_server = record { 0 = 0 }

abbrev pub scene_in : Counting → Setting → Option ℕ → Option ℕ → SceneValue
scene_in counting config reservation limit = record {
  config = config;
  tags = Tick;
  servers = 1;
  workers = 1;
  step = 50;
  seed = 1;
  max_pulls = 100;
  counting = counting;
  clients = record { id = first_client; info = record { reservation = reservation; weight = 1; limit = limit }; requests = 2; window = 1; costs = None } ∷ [];
}

-- all completions counted
abbrev pub scene_of : Setting → Option ℕ → Option ℕ → SceneValue
scene_of config reservation limit = scene_in All config reservation limit

-- a request of a cost is stamped, and arrives at a moment, or at 0
abbrev pub sent_at : ℕ → ℕ → ℕ → List CoreEvent
sent_at at cost token = Stamp first_client only_server (record { 0 = token }) cost ∷ Arrive first_client only_server at ∷ []

abbrev pub sent_of : ℕ → ℕ → List CoreEvent
sent_of cost token = sent_at 0 cost token

abbrev pub sent : ℕ → List CoreEvent
sent token = sent_of 1 token

-- a_1 is granted at 0 by weight and responded, and a_2 is sent; under Wait nothing is due at a pull at 0 then
abbrev pub at_limit : List CoreEvent
at_limit = Pull only_server 0 ∷ Respond first_client only_server Priority 1 ∷ sent 2

abbrev pub waits : List CoreEvent
waits = at_limit ++ Pull only_server 0 ∷ []

-- a_1 is granted at 0 by its reservation and responded, and a_2 is sent
abbrev pub at_reservation : List CoreEvent
at_reservation = Pull only_server 0 ∷ Respond first_client only_server Reservation 1 ∷ sent 2

-- ---- each is granted by a pull: at 50 by weight, at 0 beyond the limit, at 100 by its reservation

abbrev pub limit_events : List CoreEvent
limit_events = sent 1 ++ (waits ++ Pull only_server 50 ∷ [])

abbrev pub beyond_events : List CoreEvent
beyond_events = sent 1 ++ (at_limit ++ Pull only_server 0 ∷ [])

abbrev pub reservation_events : List CoreEvent
reservation_events = sent 1 ++ (at_reservation ++ Pull only_server 100 ∷ [])

-- a_1, which costs 3, is granted at 0 by weight and responded, and a_2 is granted at 150 by weight
abbrev pub cost_events : List CoreEvent
cost_events = sent_of 3 1 ++ (Pull only_server 0 ∷ Respond first_client only_server Priority 3 ∷ sent 2 ++ Pull only_server 150 ∷ [])

-- ---- requests that are taken back

abbrev pub taken_back : ℕ → CoreEvent
taken_back token = Cancel only_server first_client (record { 0 = token })

-- three arrive at 100, and the second is taken back: the first is granted at 100, and the third at 200
abbrev pub taken_back_events : List CoreEvent
taken_back_events = sent_at 100 1 1 ++ (sent_at 100 1 2 ++ (sent_at 100 1 3 ++ taken_back 2 ∷ Pull only_server 100 ∷ Pull only_server 199 ∷ Pull only_server 200 ∷ []))

-- a_1 is granted at 0 by weight and responded, a_2 and a_3 are sent, and a_2 is taken back: by its delta a_3 still waits until 50
abbrev pub uncharged_events : List CoreEvent
uncharged_events = sent 1 ++ (at_limit ++ (sent 3 ++ taken_back 2 ∷ Pull only_server 0 ∷ Pull only_server 50 ∷ []))

-- the history of the server, and the client's list, after events
abbrev pub history_after : SceneValue → List CoreEvent → List (Event ℤ)
history_after scene events = history tick_ops scene only_server events

abbrev pub list_after : SceneValue → List CoreEvent → List TrackerEvent
list_after scene events = tracker_list (run_of tick_ops scene events) first_client

-- the reply to the event of a number, from 0
abbrev pub reply_at : SceneValue → ℕ → List CoreEvent → Option (Answer ℤ)
reply_at scene n events = slice_get (answers_of tick_ops (opening_of tick_ops scene) events) n
