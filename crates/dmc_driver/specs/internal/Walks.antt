-- What the walks over a history and over stops have found so far.
use Rattle.std.specs.Prelude.{◌≡◌, ℕ, ◌+◌, if◌then◌else◌, is_some, List, ◌++◌, Option, Some, None, length, slice_get}
use Rattle.std.specs.Borrow.{Bor}
use Rattle.std.specs.Global.{Vec}
use Rattle.std.specs.Option.{option_and_then}
use Rattle.dmc_tag.specs.declared.event.Event.{Event}
use Rattle.dmc_tag.specs.declared.reply.Reply.{Reply}
use Rattle.dmc_book.specs.Counts.{grant_in, one_if}
use Rattle.dmc_scene.specs.SceneValue.{SceneValue, ClientValue}
use Rattle.dmc_settle.specs.declared.report.StopCause.{StopCause}
use Rattle.dmc_settle.specs.declared.report.ClientReport.{ClientReport}
use Rattle.dmc_settle.specs.declared.report.ServerReport.{ServerReport}
use Rattle.dmc_driver.specs.Stops.{AreServerStops, IsClientEnd, IsEndAt, is_nothing, is_of, refused}
use Rattle.dmc_driver.specs.declared.stops.Calls.{Calls}
use Rattle.dmc_driver.specs.declared.stops.Refusals.{Refusals}
use Rattle.dmc_driver.specs.declared.stops.Refusals.TheVariants as refusals

-- ---- over a history

-- with what was refused of one call more, if it was
abbrev pub with_refused : Refusals → Option StopCause → Refusals
with_refused refused None = refused
with_refused refusals.None (Some cause) = refusals.One cause
with_refused (refusals.One other) (Some cause) = refusals.Several
with_refused refusals.Several (Some cause) = refusals.Several

-- a worker's calls with one more that got this reply
abbrev pub with_reply : {T : Type 0} → Calls → Reply T → Calls
with_reply calls reply = record {
  replies = calls.replies + 1;
  grants = calls.grants + one_if (is_some (grant_in reply));
  nothings = calls.nothings + one_if (is_nothing reply);
  refused = with_refused calls.refused (refused reply);
}

-- a worker's calls with those of one event more, if there is one
abbrev pub with_event : {T : Type 0} → ℕ → Calls → Option (Event T) → Calls
with_event worker calls None = calls
with_event worker calls (Some e) = if is_of worker e then with_reply calls e.reply else calls

-- what was refused at a place, if it was
abbrev pub refused_at : {T : Type 0} → ℕ → List (Event T) → Option StopCause
refused_at {T} i events = option_and_then (λ (e : Event T). refused e.reply) (slice_get events i)

-- ---- over stops

-- the stops after these first ones, or none if they do not begin so
abbrev pub IsRestAfter : (first stops : List StopCause) → Option (Bor (List StopCause)) → Type 0
IsRestAfter first stops None = (rest : List StopCause) → stops ≡ first ++ rest → ⊥
IsRestAfter first stops (Some rest) = stops ≡ first ++ rest.now

-- ---- ends

-- each of a server's workers ended as its history says
abbrev pub AreEnds : {T : Type 0} → SceneValue → ℕ → List (Event T) → List (Option StopCause) → Type 0
AreEnds scene server events ends = (k : ℕ) (end : Option StopCause) → slice_get ends k ≡ Some end → IsEndAt scene server events k end

-- the stops of each server, whose own workers ended so
pub record AreStopsOfServers {T : Type 0} (scene : SceneValue) (ends : List (Vec (Option StopCause))) (rows : List (ServerReport T)) : Type 0 where
  pub ends_of_each : length ends ≡ length rows
  pub each : (k : ℕ) (s : ServerReport T) (own : Vec (Option StopCause)) → slice_get rows k ≡ Some s → slice_get ends k ≡ Some own
      → AreServerStops scene k own.items s

-- the end of each client
abbrev pub AreClientEnds : List ClientValue → List ClientReport → Type 0
AreClientEnds clients rows = (k : ℕ) (client : ClientValue) (c : ClientReport) → slice_get clients k ≡ Some client
    → slice_get rows k ≡ Some c → IsClientEnd client.requests c.sent c.stop
