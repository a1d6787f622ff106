-- A check of an event text, line by line.
use Rattle.std.specs.Prelude.{◌≡◌, ℕ, ℤ, ◌<◌, length, List, [], Option, Some, None, is_some, Result, Ok, Err, ⊤}
use Rattle.std.proofs.Common.{ap}
use Rattle.dmc_types.specs.Limits.{max_line_bytes}
use Rattle.dmc_tag.specs.Tag.{Tagging}
use Rattle.dmc_text.specs.declared.cause.LineCause.{LineCause}
use Rattle.dmc_text.specs.declared.cause.LineCause.TheVariants.{Bytes}
use Rattle.dmc_text.specs.declared.event_line.EventLine.{EventLine}
use Rattle.dmc_text.specs.Answers.{◌>>=◌}
use Rattle.dmc_text.specs.EventLines.{event_line_of_kind}
use Rattle.dmc_text.specs.Words.{words}
use Rattle.dmc_text.specs.LineLaws.{long_kind}
use Rattle.dmc_check.specs.declared.replay.Replay.{Replay}
use Rattle.dmc_check.specs.EventTexts.{Recorded, with_line, placed, line_behind}
use Rattle.dmc_check.specs.Verdicts.{RepresentsEvents}

-- the replay is that of the lines up to now
abbrev pub Holds : {T : Type 0} → Tagging T → Option (Recorded T) → Option (Replay T) → Type 0
Holds ops None None = ⊤
Holds ops None (Some replay) = ⊥
Holds ops (Some r) None = ⊥
Holds ops (Some r) (Some replay) = RepresentsEvents ops r.config r.events replay

-- how many events were replayed
abbrev pub replayed : {T : Type 0} → Option (Replay T) → ℕ
replayed None = 0
replayed (Some replay) = replay.events

-- the meaning of the next line of a replay
abbrev pub next_line : {T : Type 0} → (ℤ → ℕ → Option T) → Option (Replay T) → List ℕ → Result (EventLine T) LineCause
next_line made replay line = line_behind made (is_some replay) (replayed replay) line

-- a line is taken in: its meaning, and that the replay includes it; nothing is to be written for it
pub record Follows {T : Type 0} (ops : Tagging T) (made : ℤ → ℕ → Option T) (old : Option (Replay T)) (bytes answer : List ℕ) (new : Option (Replay T)) : Type 0 where
  pub line : EventLine T
  pub is_line : next_line made old bytes ≡ Ok line
  pub holds : (recorded : Option (Recorded T)) → Holds ops recorded old → Holds ops (with_line recorded line) new
  pub silent : answer ≡ []

-- a line that is too long is faulty
pub long_event : {T : Type 0} (made : ℤ → ℕ → Option T) (replay : Option (Replay T)) (line : List ℕ) → max_line_bytes < length line → next_line made replay line ≡ Err Bytes
long_event made replay line h =
    ap (λ k. (k >>= λ x. event_line_of_kind made (is_some replay) x (words line)) >>= placed (replayed replay)) (long_kind (is_some replay) line h)
