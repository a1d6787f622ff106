-- The texts of events and of segments, and what they add to what an event text records.
use Rattle.std.specs.Prelude.{◌≡◌, ℕ, suc, ◌+◌, ℤ, true, List, ◌++◌, length, drop, flat_map, Option, Some, Ok}
use Rattle.dmc_types.specs.Values.{Setting}
use Rattle.dmc_tag.specs.declared.event.Event.{Event}
use Rattle.dmc_queue_history.specs.Segmented.{SegmentState}
use Rattle.dmc_text.specs.declared.event_line.EventLine.TheVariants as event_lines
use Rattle.dmc_text.specs.EventLines.{event_of}
use Rattle.dmc_text.specs.Replies.{IsWritable}
use Rattle.dmc_text.specs.Texts.{lines_of, with_line_end}
use Rattle.dmc_text.specs.Written.{event_text, header_text}
use Rattle.dmc_check.specs.EventTexts.{with_lines}

-- ---- what is written

-- the lines of events, where text is the text of a tag
abbrev pub events_text : {T : Type 0} → (T → List ℕ) → List (Event T) → List ℕ
events_text text events = flat_map (λ event. with_line_end (event_text text event)) events

-- the events of a segment
abbrev pub events_in : {T : Type 0} → SegmentState T → List (Event T)
events_in segment = drop segment.first segment.history

-- the header of a segment, and its events
abbrev pub segment_text : {T : Type 0} → (T → List ℕ) → SegmentState T → List ℕ
segment_text text segment = with_line_end (header_text segment.server segment.first) ++ events_text text (events_in segment)

-- ---- what is read

-- an event that a queue may have recorded is read from its line
abbrev pub IsEventAgain : {T : Type 0} → (ℤ → ℕ → Option T) → (T → List ℕ) → Event T → Type 0
IsEventAgain made text event = IsWritable event.reply → event_of made true (event_text text event) ≡ Ok (event_lines.Event event)

-- Behind as many events as were recorded before it, the text of a segment adds its events, whatever follows.
pub record IsSegmentAgain {T : Type 0} (made : ℤ → ℕ → Option T) (text : T → List ℕ) (segment : SegmentState T) : Type 0 where
  pub read : (config : Setting) (before : List (Event T)) (number : ℕ) (more : List ℕ) → length before ≡ segment.first
      → with_lines made (Some (record { config = config; events = before })) number (lines_of (segment_text text segment ++ more))
      ≡ with_lines made (Some (record { config = config; events = before ++ events_in segment })) (number + suc (length (events_in segment))) (lines_of more)
