-- Whole event texts: what their lines record, and what is written about it.
use Rattle.std.specs.Prelude.{◌≡◌, ◌≤◌, ◌==◌, ℕ, suc, ℤ, Bool, List, [], ◌∷◌, ◌++◌, length, IfSome, Option, Some, None, is_some, Result, Ok, Err, if◌then◌else◌, codes}
use Rattle.std.specs.Option.{ok_or}
use Rattle.std.specs.List.{join_with_byte}
use Rattle.std.specs.Fmt.{decimal}
use Rattle.std.specs.Io.KnownBytes.{Keeps, Appends, IsAtEnd}
use Rattle.dmc_types.specs.Values.{Setting}
use Rattle.dmc_tag.specs.Tag.{Tagging}
use Rattle.dmc_tag.specs.declared.event.Event.{Event}
use Rattle.dmc_text.specs.declared.cause.LineCause.{LineCause}
use Rattle.dmc_text.specs.declared.cause.LineCause.TheVariants.{Hz, Number}
use Rattle.dmc_text.specs.declared.script.ScriptFault.{ScriptFault}
use Rattle.dmc_text.specs.declared.script.ScriptFault.TheVariants as faults
use Rattle.dmc_text.specs.declared.event_line.EventLine.{EventLine}
use Rattle.dmc_text.specs.declared.event_line.EventLine.TheVariants.{Skip, Config}
use Rattle.dmc_text.specs.declared.event_line.EventLine.TheVariants as event_lines
use Rattle.dmc_text.specs.Answers.{◌>>=◌}
use Rattle.dmc_text.specs.EventLines.{event_of}
use Rattle.dmc_text.specs.Reading.{max_bytes}
use Rattle.dmc_text.specs.Texts.{lines_of, with_line_end, AppendsSome, ReadsWithin}
use Rattle.dmc_check.specs.declared.check.Verdict.{Verdict}
use Rattle.dmc_check.specs.declared.check.Verdict.TheVariants.{Replays, Differs}
use Rattle.dmc_check.specs.Verdicts.{IsVerdict}

-- ---- what a text records

-- the configuration of the hz line, and the events after it
pub record Recorded (T : Type 0) : Type 0 where
  pub config : Setting
  pub events : List (Event T)

-- with one more line; nothing is recorded before the hz line
abbrev pub with_line : {T : Type 0} → Option (Recorded T) → EventLine T → Option (Recorded T)
with_line r Skip = r
with_line r (Config config) = Some (record { config = config; events = [] })
with_line r (event_lines.Segment server first) = r
with_line None (event_lines.Event event) = None
with_line (Some r) (event_lines.Event event) = Some (record { config = r.config; events = r.events ++ event ∷ [] })

-- how many events are recorded
abbrev pub count_of : {T : Type 0} → Option (Recorded T) → ℕ
count_of None = 0
count_of (Some r) = length r.events

-- a segment's header comes after as many events as it says
abbrev pub placed : {T : Type 0} → ℕ → EventLine T → Result (EventLine T) LineCause
placed count Skip = Ok Skip
placed count (Config config) = Ok (Config config)
placed count (event_lines.Segment server first) = if first == count then Ok (event_lines.Segment server first) else Err Number
placed count (event_lines.Event event) = Ok (event_lines.Event event)

-- the meaning of a line behind this many events; has_config: an hz line was read before
abbrev pub line_behind : {T : Type 0} → (ℤ → ℕ → Option T) → Bool → ℕ → List ℕ → Result (EventLine T) LineCause
line_behind made has_config count line = event_of made has_config line >>= placed count

abbrev pub or_fault : {T X : Type 0} → ℕ → Result T LineCause → (T → Result X (ℕ × LineCause)) → Result X (ℕ × LineCause)
or_fault n (Err cause) more = Err (n, cause)
or_fault n (Ok line) more = more line

-- the record with the lines from the one numbered n on; or the number and the cause of the first faulty one. A text without an hz
-- line is faulty after its last line.
abbrev pub with_lines : {T : Type 0} → (ℤ → ℕ → Option T) → Option (Recorded T) → ℕ → List (List ℕ) → Result (Recorded T) (ℕ × LineCause)
with_lines made r n [] = ok_or r (n, Hz)
with_lines made r n (line ∷ lines) = or_fault n (line_behind made (is_some r) (count_of r) line) (λ l. with_lines made (with_line r l) (suc n) lines)

-- what a text records; its lines are numbered from 1
abbrev pub record_of : {T : Type 0} → (ℤ → ℕ → Option T) → List ℕ → Result (Recorded T) (ℕ × LineCause)
record_of made text = with_lines made None 1 (lines_of text)

-- ---- what is written

-- the line of a verdict on this many events
abbrev pub verdict_text : Verdict → ℕ → List ℕ
verdict_text Replays n = with_line_end (join_with_byte 32 (codes "replays" ∷ decimal n ∷ []))
verdict_text (Differs i) n = with_line_end (join_with_byte 32 (codes "differs" ∷ decimal i ∷ []))

-- ---- what a check does

-- A text has at most as many bytes as a text may have and no faulty line, and this is the verdict on its events, of which there
-- are this many.
pub record HasVerdict {T : Type 0} (ops : Tagging T) (made : ℤ → ℕ → Option T) (text : List ℕ) (verdict : Verdict) (count : ℕ) : Type 0 where
  pub within : length text ≤ max_bytes
  pub recorded : Recorded T
  pub says : record_of made text ≡ Ok recorded
  pub is_verdict : IsVerdict ops recorded.config recorded.events verdict
  pub counts : count ≡ length recorded.events

-- What a check reads and writes, by its result, if the bytes are known. Ok: all of the text is read, no line is faulty, and
-- the verdict on its events is written. Line: it is the first faulty line of the text and is in what was read, and nothing is
-- written. Write: all of the text is read, and of the line of the verdict a first part is written. Read and Memory: nothing is
-- written. At Read one byte more than a text may have may be read, which shows that it is too long.
abbrev pub ChecksAs : {T : Type 0} → Tagging T → (ℤ → ℕ → Option T) → (before after old new : Option (List ℕ)) → Result Verdict ScriptFault → Type 0
ChecksAs ops made before after old new (Ok verdict) = IsAtEnd after × IfSome before (λ text. (count : ℕ) × HasVerdict ops made text verdict count × Appends old new (verdict_text verdict count))
ChecksAs ops made before after old new (Err (faults.Line n cause)) =
    ((read : List ℕ) × ReadsWithin max_bytes before after read × (record_of made read ≡ Err (n, cause)))
    × IfSome before (λ text. record_of made text ≡ Err (n, cause)) × Keeps old new
ChecksAs ops made before after old new (Err faults.Write) = IsAtEnd after × IfSome before (λ text. (verdict : Verdict) × (count : ℕ) × HasVerdict ops made text verdict count × AppendsSome old new (verdict_text verdict count))
ChecksAs ops made before after old new (Err faults.Read) = ((read : List ℕ) × ReadsWithin (suc max_bytes) before after read) × Keeps old new
ChecksAs ops made before after old new (Err faults.Memory) = ((read : List ℕ) × ReadsWithin max_bytes before after read) × Keeps old new
