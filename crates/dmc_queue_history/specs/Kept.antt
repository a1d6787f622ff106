-- How a queue's history keeps its events: each in the list of those of its form, and the places of all in order. Contracts
-- of the history cite the list of events alone.
use Rattle.std.specs.Prelude.{◌≡◌, ℕ, ◌+◌, ◌/◌, ◌%◌, ◌≤◌, ◌==◌, Bool, true, min, List, length, Option, Some, None, is_some, option_map, option_to_list, flat_map, slice_get, if◌then◌else◌}
use Rattle.std.specs.List.{AllByRecursion}
use Rattle.dmc_types.specs.Limits.{max_events}
use Rattle.dmc_types.specs.declared.command.Command.TheVariants as commands
use Rattle.dmc_types.specs.declared.config.PhaseType.{PhaseType}
use Rattle.dmc_types.specs.declared.config.PhaseType.TheVariants as phases
use Rattle.dmc_tag.specs.declared.event.Event.{Event}
use Rattle.dmc_tag.specs.declared.reply.Reply.TheVariants as replies
use Rattle.dmc_tag.specs.Tag.{Tagging}
use Rattle.dmc_history.specs.Log.{EndSlots, Log}
use Rattle.dmc_queue_history.specs.declared.history.AddedRequest.{AddedRequest}
use Rattle.dmc_queue_history.specs.declared.kept.QueuedByWeight.{QueuedByWeight}
use Rattle.dmc_queue_history.specs.declared.kept.Queued.{Queued}
use Rattle.dmc_queue_history.specs.declared.kept.Granted.{Granted}
use Rattle.dmc_queue_history.specs.declared.lists.Lists.{Lists}

-- ---- what the mark of a moment says

-- of a request that was queued: whether it has a tag of its reservation
abbrev pub is_reserved : ℕ → Bool
is_reserved mark = mark == 1

-- of one that was granted: 0 if by its reservation, 1 if by its weight, 2 if so and beyond its limit
abbrev pub phase_of : ℕ → PhaseType
phase_of mark = if mark == 0 then phases.Reservation else phases.Priority

abbrev pub is_beyond : ℕ → Bool
is_beyond mark = mark == 2

-- ---- the events

-- that of a request that was added
abbrev pub event_of_added : {T : Type 0} → AddedRequest T → Event T
event_of_added a = record {
  worker = a.worker;
  command = commands.Add a.client a.token a.params a.at;
  reply = replies.Tagged a.tags;
}

-- the reservation's tag is absent, and the limit's is the moment
abbrev pub event_of_queued_by_weight : {T : Type 0} → Tagging T → QueuedByWeight T → Event T
event_of_queued_by_weight ops q = record {
  worker = q.worker;
  command = commands.Add q.client q.token q.params q.at;
  reply = replies.Tagged (record { r = None; l = ops.of_moment q.at; p = q.p });
}

abbrev pub event_of_queued : {T : Type 0} → Queued T → Event T
event_of_queued q = record {
  worker = q.worker;
  command = commands.Add q.client q.token q.params q.marked.at;
  reply = replies.Tagged (record { r = if is_reserved q.marked.mark then Some q.r else None; l = q.l; p = q.p });
}

abbrev pub event_of_granted : {T : Type 0} → Granted → Event T
event_of_granted g = record {
  worker = g.worker;
  command = commands.Pull g.marked.at;
  reply = replies.Granted g.client g.token (phase_of g.marked.mark) (is_beyond g.marked.mark) g.cost;
}

-- ---- places: the index in a list times the number of lists, plus the number of the list

abbrev pub list_count : ℕ
list_count = 4

abbrev pub list_of : ℕ → ℕ
list_of place = place % list_count

abbrev pub index_of : ℕ → ℕ
index_of place = place / list_count

-- ---- the lists

-- what each list holds
pub record Kept (T : Type 0) : Type 0 where
  pub by_weight : List (QueuedByWeight T)
  pub queued : List (Queued T)
  pub granted : List Granted
  pub others : List (Event T)

abbrev pub kept_of : {T : Type 0} → Lists T → Kept T
kept_of lists = record {
  by_weight = lists.by_weight.events;
  queued = lists.queued.events;
  granted = lists.granted.events;
  others = lists.others.events;
}

-- the event at an index of a list
abbrev pub event_in : {T : Type 0} → Tagging T → Kept T → ℕ → ℕ → Option (Event T)
event_in ops kept list index =
    if list == 0 then option_map (event_of_queued_by_weight ops) (slice_get kept.by_weight index) else
    (if list == 1 then option_map event_of_queued (slice_get kept.queued index) else
    (if list == 2 then option_map event_of_granted (slice_get kept.granted index) else
    slice_get kept.others index))

abbrev pub event_at : {T : Type 0} → Tagging T → Kept T → ℕ → Option (Event T)
event_at ops kept place = event_in ops kept (list_of place) (index_of place)

-- the events at these places
abbrev pub events_at : {T : Type 0} → Tagging T → Kept T → List ℕ → List (Event T)
events_at ops kept places = flat_map (λ place. option_to_list (event_at ops kept place)) places

-- for how many more events each list has a place
abbrev pub least_room : {T : Type 0} → Lists T → ℕ
least_room lists = min (min lists.by_weight.room lists.queued.room) (min lists.granted.room lists.others.room)

-- how many events all lists hold
abbrev pub count : {T : Type 0} → Kept T → ℕ
count kept = length kept.by_weight + length kept.queued + length kept.granted + length kept.others

-- each list may have this number of events
pub record HaveMost {T : Type 0} (lists : Lists T) (most : ℕ) : Type 0 where
  pub by_weight : lists.by_weight.most ≡ most
  pub queued : lists.queued.most ≡ most
  pub granted : lists.granted.most ≡ most
  pub others : lists.others.most ≡ most

-- An event was added at a place: each event before is where it was.
pub record Adds {T : Type 0} (ops : Tagging T) (old new : Lists T) (place : ℕ) (event : Event T) : Type 0 where
  pub before : (other : ℕ) → is_some (event_at ops (kept_of old) other) ≡ true → event_at ops (kept_of new) other ≡ event_at ops (kept_of old) other
  pub here : event_at ops (kept_of new) place ≡ Some event
  pub more : count (kept_of new) ≡ count (kept_of old) + 1
  pub most : (most : ℕ) → HaveMost old most → HaveMost new most
  pub room : least_room old ≤ least_room new + 1

-- Each place has an event, no list has another, and this number of events more has a place, whatever their form. These places
-- end with a block, or at the most events.
pub record IsKept {T : Type 0} (ops : Tagging T) (lists : Lists T) (places : Log ℕ) (room : ℕ) : Type 0 where
  pub found : AllByRecursion (λ place. is_some (event_at ops (kept_of lists) place) ≡ true) places.events
  pub counted : count (kept_of lists) ≡ length places.events
  pub most : HaveMost lists places.most
  pub limit : places.most ≤ max_events
  pub within : length places.events + room ≤ places.most
  pub places_room : room ≤ places.room
  pub lists_room : room ≤ least_room lists
  pub whole : EndSlots (length places.events + room) places.most
