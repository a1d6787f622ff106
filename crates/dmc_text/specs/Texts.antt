-- Whole texts: their lines, what they mean, and what is written for them.
use Rattle.std.specs.Prelude.{◌≡◌, ℕ, suc, ◌==◌, ◌≤◌, length, IfSome, Bool, true, false, ◌||◌, List, [], ◌∷◌, ◌++◌, Option, Some, None, is_some, Result, Ok, Err, if◌then◌else◌, codes, ⊤}
use Rattle.std.specs.List.{list_any}
use Rattle.std.specs.Io.KnownBytes.{Consumes, Appends, IsAtEnd}
use Rattle.dmc_types.specs.declared.refusal.ValueFault.{ValueFault}
use Rattle.dmc_types.specs.declared.refusal.ValueFault.TheVariants as faults
use Rattle.dmc_tag.specs.Tag.{Tagging}
use Rattle.dmc_tag.specs.State.{State, opening}
use Rattle.dmc_tag.specs.Step.{step}
use Rattle.dmc_text.specs.declared.cause.LineCause.{LineCause}
use Rattle.dmc_text.specs.declared.cause.LineCause.TheVariants.{Hz}
use Rattle.dmc_text.specs.declared.line.Line.{Line}
use Rattle.dmc_text.specs.declared.line.Line.TheVariants.{Skip, Config, Ask, Value}
use Rattle.dmc_text.specs.declared.script.ScriptFault.{ScriptFault}
use Rattle.dmc_text.specs.declared.script.ScriptFault.TheVariants as ends
use Rattle.dmc_text.specs.Lines.{line_of}
use Rattle.dmc_text.specs.Reading.{max_bytes}
use Rattle.dmc_text.specs.Replies.{reply_text}

-- ---- lines

-- a byte before the first line
abbrev pub onto : ℕ → List (List ℕ) → List (List ℕ)
onto b [] = (b ∷ []) ∷ []
onto b (line ∷ lines) = (b ∷ line) ∷ lines

-- the lines of a text: each ends with LF, and the last may lack it
abbrev pub lines_of : List ℕ → List (List ℕ)
lines_of [] = []
lines_of (b ∷ bs) = if b == 10 then [] ∷ lines_of bs else onto b (lines_of bs)

-- ---- what the lines mean

abbrev pub is_config : Line → Bool
is_config Skip = false
is_config (Config config) = true
is_config (Ask command) = false
is_config (Value fault) = false

-- has_config: an hz line was read before, or this is one
abbrev pub has_config_after : Bool → Line → Bool
has_config_after has_config line = has_config || is_config line

abbrev pub and_on : Result Line LineCause → (Line → List Line) → List Line
and_on (Err cause) more = []
and_on (Ok line) more = line ∷ more line

-- the meaning of the lines, up to the first faulty one
abbrev pub commands : Bool → List (List ℕ) → List Line
commands has_config [] = []
commands has_config (line ∷ lines) = and_on (line_of has_config line) (λ l. commands (has_config_after has_config l) lines)

abbrev pub fault_or : ℕ → Result Line LineCause → (Line → Option (ℕ × LineCause)) → Option (ℕ × LineCause)
fault_or n (Err cause) more = Some (n, cause)
fault_or n (Ok line) more = more line

-- the number and the cause of the first faulty line; a text without an hz line is faulty after its last line
abbrev pub first_fault : Bool → ℕ → List (List ℕ) → Option (ℕ × LineCause)
first_fault has_config n [] = if has_config then None else Some (n, Hz)
first_fault has_config n (line ∷ lines) = fault_or n (line_of has_config line) (λ l. first_fault (has_config_after has_config l) (suc n) lines)

-- the first faulty line of a whole text, whose lines are numbered from 1
abbrev pub fault_of : List ℕ → Option (ℕ × LineCause)
fault_of text = first_fault false 1 (lines_of text)

-- ---- what is written

abbrev pub value_text : ValueFault → List ℕ
value_text faults.Moment = codes "refused moment"
value_text faults.Params = codes "refused params"
value_text faults.Cost = codes "refused cost"
value_text faults.Rate = codes "refused rate"
value_text faults.Config = codes "refused config"

-- a line with the LF that ends it
abbrev pub with_line_end : List ℕ → List ℕ
with_line_end line = line ++ 10 ∷ []

-- a text of these lines
abbrev pub text_of : List (List ℕ) → List ℕ
text_of [] = []
text_of (line ∷ lines) = with_line_end line ++ text_of lines

-- what is written for lines, from a state on; there is none before the hz line
abbrev pub written : {T : Type 0} → Tagging T → (T → List ℕ) → Option (State T) → List Line → List ℕ
written ops text s [] = []
written ops text s (Skip ∷ lines) = written ops text s lines
written ops text s (Config config ∷ lines) = written ops text (Some (opening ops config)) lines
written ops text s (Value fault ∷ lines) = with_line_end (value_text fault) ++ written ops text s lines
written ops text None (Ask command ∷ lines) = written ops text None lines
written ops text (Some s) (Ask command ∷ lines) = with_line_end (reply_text text ((step ops s command).1)) ++ written ops text (Some ((step ops s command).0)) lines

-- what is written for the rest of a text, from a state on
abbrev pub written_for : {T : Type 0} → Tagging T → (T → List ℕ) → Option (State T) → List ℕ → List ℕ
written_for ops text s rest = written ops text s (commands (is_some s) (lines_of rest))

-- what is written for a text
abbrev pub out : {T : Type 0} → Tagging T → (T → List ℕ) → List ℕ → List ℕ
out ops text input = written_for ops text None input

-- ---- what a run does

abbrev pub has_end : List ℕ → Bool
has_end text = list_any (λ b. b == 10) text

-- the text up to and with its last LF
abbrev pub whole_lines : List ℕ → List ℕ
whole_lines [] = []
whole_lines (b ∷ bs) = if has_end (b ∷ bs) then b ∷ whole_lines bs else []

-- the known bytes, and the first of these after them, or all
abbrev pub AppendsSome : Option (List ℕ) → Option (List ℕ) → List ℕ → Type 0
AppendsSome old new bytes = (sent : List ℕ) × (unsent : List ℕ) × Appends old new sent × (sent ++ unsent ≡ bytes)

-- at most this many bytes are read
abbrev pub ReadsWithin : ℕ → (before after : Option (List ℕ)) → List ℕ → Type 0
ReadsWithin most before after read = Consumes before after read × (length read ≤ most)

-- What a run reads and writes, if the bytes are known. Ok: all of the text is read, it has at most as many bytes as a text may
-- have, no line is faulty, and what is written is the text of the replies.
abbrev pub RunsToEnd : {T : Type 0} → Tagging T → (T → List ℕ) → (before after old new : Option (List ℕ)) → Type 0
RunsToEnd ops text before after old new = IsAtEnd after × IfSome before (λ input. (length input ≤ max_bytes) × (fault_of input ≡ None) × Appends old new (out ops text input))

-- A line fault: it is the first of the text and is in what was read, and what is written is the text of the replies up to it.
abbrev pub RunsToFault : {T : Type 0} → Tagging T → (T → List ℕ) → (before after old new : Option (List ℕ)) → ℕ → LineCause → Type 0
RunsToFault ops text before after old new n cause =
    ((read : List ℕ) × ReadsWithin max_bytes before after read × (fault_of read ≡ Some (n, cause)))
    × IfSome before (λ input. (fault_of input ≡ Some (n, cause)) × Appends old new (out ops text input))

-- The writer failed, or an allocation: a first part of what was read was carried out, and a first part of its replies written.
abbrev pub RunsPartly : {T : Type 0} → Tagging T → (T → List ℕ) → (before after old new : Option (List ℕ)) → Type 0
RunsPartly ops text before after old new = (read : List ℕ) × ReadsWithin max_bytes before after read × AppendsSome old new (out ops text read)

-- The reader failed, or the text has more than the most bytes, which one more byte shows: of the replies to the whole lines that
-- were read, a first part is written.
abbrev pub RunsWholeLines : {T : Type 0} → Tagging T → (T → List ℕ) → (before after old new : Option (List ℕ)) → Type 0
RunsWholeLines ops text before after old new = (read : List ℕ) × ReadsWithin (suc max_bytes) before after read × AppendsSome old new (out ops text (whole_lines read))

-- What a script reads and writes, by its result.
abbrev pub RunsAs : {T : Type 0} → Tagging T → (T → List ℕ) → (before after old new : Option (List ℕ)) → Result ⊤ ScriptFault → Type 0
RunsAs ops text before after old new (Ok x) = RunsToEnd ops text before after old new
RunsAs ops text before after old new (Err (ends.Line n cause)) = RunsToFault ops text before after old new n cause
RunsAs ops text before after old new (Err ends.Read) = RunsWholeLines ops text before after old new
RunsAs ops text before after old new (Err ends.Write) = RunsPartly ops text before after old new
RunsAs ops text before after old new (Err ends.Memory) = RunsPartly ops text before after old new
