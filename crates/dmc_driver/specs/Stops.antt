-- Why the threads of a run stopped, by what the servers' histories have of them.
use Rattle.std.specs.Prelude.{◌≡◌, ℕ, ◌+◌, ◌*◌, ◌<◌, ◌≤◌, ◌==◌, ◌&&◌, Bool, true, false, is_some, if◌then◌else◌, List, [], ◌∷◌, ◌++◌, Option, Some, None, length, map, slice_get, take}
use Rattle.std.specs.Global.{Vec}
use Rattle.dmc_tag.specs.declared.event.Event.{Event}
use Rattle.dmc_tag.specs.declared.reply.Reply.{Reply}
use Rattle.dmc_tag.specs.declared.reply.Reply.TheVariants as reply
use Rattle.dmc_book.specs.Counts.{count, grant_in, one_if}
use Rattle.dmc_scene.specs.SceneValue.{SceneValue, ClientValue}
use Rattle.dmc_settle.specs.declared.report.StopCause.{StopCause}
use Rattle.dmc_settle.specs.declared.report.StopCause.TheVariants.{Turns, Rung, Refused, HistoryFull, TrackFull, Memory, Spawn, Stray}
use Rattle.dmc_settle.specs.declared.report.ClientReport.{ClientReport}
use Rattle.dmc_settle.specs.declared.report.ServerReport.{ServerReport}
use Rattle.dmc_settle.specs.declared.report.ClusterReport.{ClusterReport}
use Rattle.dmc_driver.specs.declared.stops.Calls.{Calls}
use Rattle.dmc_driver.specs.declared.stops.Refusals.{Refusals}
use Rattle.dmc_driver.specs.declared.stops.Refusals.TheVariants as refusals

-- ---- what a history has of a worker

abbrev pub is_of : {T : Type 0} → ℕ → Event T → Bool
is_of worker e = e.worker.0 == worker

abbrev pub is_nothing : {T : Type 0} → Reply T → Bool
is_nothing reply.Nothing = true
is_nothing other = false

-- what was refused, as the cause of a stop
abbrev pub refused : {T : Type 0} → Reply T → Option StopCause
refused (reply.Refused refusal) = Some (Refused refusal)
refused other = None

abbrev pub listed : Option StopCause → List StopCause
listed None = []
listed (Some cause) = cause ∷ []

-- the causes, if there are some
abbrev pub causes : List (Option StopCause) → List StopCause
causes [] = []
causes (end ∷ ends) = listed end ++ causes ends

-- what was refused of a worker's calls, in order
abbrev pub refused_of : {T : Type 0} → ℕ → List (Event T) → List StopCause
refused_of {T} worker events = causes (map (λ (e : Event T). if is_of worker e then refused e.reply else None) events)

abbrev pub refusals_in : List StopCause → Refusals
refusals_in [] = refusals.None
refusals_in (cause ∷ []) = refusals.One cause
refusals_in (cause ∷ other ∷ more) = refusals.Several

-- how many of a worker's calls got a reply, how many of them a grant, and how many Nothing; and what was refused of them
abbrev pub calls_in : {T : Type 0} → ℕ → List (Event T) → Calls
calls_in worker events = record {
  replies = count (λ e. one_if (is_of worker e)) events;
  grants = count (λ e. one_if (is_of worker e && is_some (grant_in e.reply))) events;
  nothings = count (λ e. one_if (is_of worker e && is_nothing e.reply)) events;
  refused = refusals_in (refused_of worker events);
}

-- the number of a server's own worker: the clients' workers come first, then those of server 0, 1, ..
abbrev pub own_worker : SceneValue → ℕ → ℕ → ℕ
own_worker scene server place = length scene.clients + server * scene.workers + place

-- ---- a server's worker

-- no call of it found nothing or was refused
pub record GoesOn (calls : Calls) : Type 0 where
  pub nothings : calls.nothings ≡ 0
  pub refused : calls.refused ≡ refusals.None

-- Why it stopped, by the replies to its calls, which are pulls: the first Nothing and the first refusal end it. It took its last
-- turn: it pulled as often as it may. A tracker counts no further: a pull of it was granted. Its thread was not started: it never
-- pulled. A server's worker is not rung.
abbrev pub IsServerStop : ℕ → Calls → StopCause → Type 0
IsServerStop most calls Turns = (calls.replies ≡ most) × GoesOn calls
IsServerStop most calls Rung = ⊥
IsServerStop most calls (Refused refusal) = (calls.replies ≤ most) × (calls.nothings ≡ 0) × (calls.refused ≡ refusals.One (Refused refusal))
IsServerStop most calls HistoryFull = (calls.replies ≤ most) × GoesOn calls
IsServerStop most calls TrackFull = (calls.replies ≤ most) × (0 < calls.grants) × GoesOn calls
IsServerStop most calls Memory = (calls.replies ≤ most) × GoesOn calls
IsServerStop most calls Spawn = calls.replies ≡ 0
IsServerStop most calls Stray = ⊥

-- If it did not stop, one pull found nothing, none was refused, and it did not pull more often than it may.
abbrev pub IsServerEnd : ℕ → Calls → Option StopCause → Type 0
IsServerEnd most calls None = (calls.replies ≤ most) × (calls.nothings ≡ 1) × (calls.refused ≡ refusals.None)
IsServerEnd most calls (Some cause) = IsServerStop most calls cause

-- the own worker of a server at a place, by the server's history
abbrev pub IsEndAt : {T : Type 0} → SceneValue → ℕ → List (Event T) → ℕ → Option StopCause → Type 0
IsEndAt scene server events place end =
    IsServerEnd scene.max_pulls (calls_in (own_worker scene server place) events) end

-- ---- the stops of a server

-- what was refused of the first commands
abbrev pub first_refused : {T : Type 0} → ℕ → List (Event T) → List StopCause
first_refused {T} n events = causes (map (λ (e : Event T). refused e.reply) (take n events))

-- Each of its own workers ended so as its history says. Its stops are what was refused of the registrations, which are the first
-- commands, and then those of its workers, in their order.
pub record AreServerStops {T : Type 0} (scene : SceneValue) (server : ℕ) (ends : List (Option StopCause)) (r : ServerReport T) : Type 0 where
  pub an_end_each : length ends ≡ scene.workers
  pub explained : (k : ℕ) (end : Option StopCause) → slice_get ends k ≡ Some end → IsEndAt scene server r.history.events k end
  pub stops : r.stops.items ≡ first_refused (length scene.clients) r.history.events ++ causes ends

-- ---- a client's worker

-- By how many of its requests were accepted. It did not stop: all of them. Its thread was not started: none. Else fewer.
abbrev pub IsClientEnd : ℕ → ℕ → Option StopCause → Type 0
IsClientEnd requests sent None = sent ≡ requests
IsClientEnd requests sent (Some Turns) = ⊥
IsClientEnd requests sent (Some Rung) = sent < requests
IsClientEnd requests sent (Some (Refused refusal)) = sent < requests
IsClientEnd requests sent (Some HistoryFull) = sent < requests
IsClientEnd requests sent (Some TrackFull) = sent < requests
IsClientEnd requests sent (Some Memory) = sent < requests
IsClientEnd requests sent (Some Spawn) = sent ≡ 0
IsClientEnd requests sent (Some Stray) = ⊥

-- ---- all of them

-- how the own workers of each server ended, as plain data
abbrev pub ends_of : List (Vec (Option StopCause)) → List (List (Option StopCause))
ends_of ends = map (λ (own : Vec (Option StopCause)). own.items) ends

-- The histories explain the stops of the report, if the servers' own workers ended so, server by server.
pub record AreExplained {T : Type 0} (scene : SceneValue) (ends : List (List (Option StopCause))) (r : ClusterReport T) : Type 0 where
  pub ends_of_each : length ends ≡ length r.servers.items
  pub servers : (k : ℕ) (s : ServerReport T) (own : List (Option StopCause)) → slice_get r.servers.items k ≡ Some s
      → slice_get ends k ≡ Some own → AreServerStops scene k own s
  pub clients : (k : ℕ) (client : ClientValue) (c : ClientReport) → slice_get scene.clients k ≡ Some client
      → slice_get r.clients.items k ≡ Some c → IsClientEnd client.requests c.sent c.stop

-- they are, if the servers' own workers ended in some way
abbrev pub AreStops : {T : Type 0} → SceneValue → ClusterReport T → Type 0
AreStops scene r = (ends : List (List (Option StopCause))) × AreExplained scene ends r
