-- What is written to the fault writer.
use Rattle.std.specs.Prelude.{◌≡◌, ℕ, Bool, true, false, List, [], ◌∷◌, ◌++◌, codes, Option, Some, None}
use Rattle.std.specs.Fmt.{decimal}
use Rattle.std.specs.Io.KnownBytes.{Appends}
use Rattle.dmc_scene.specs.Keys.{name_of}
use Rattle.dmc_text.specs.Texts.{AppendsSome, with_line_end}
use Rattle.dmc_text.specs.Watching.{stream_of, failed, IsCalm}
use Rattle.dmc_text.specs.declared.watched.Watched.{Watched}
use Rattle.dmc_tool.specs.Faults.{cause_word}
use Rattle.dmc_tool.specs.declared.fault.Fault.{Fault}
use Rattle.dmc_tool.specs.declared.fault.Fault.TheVariants as fault
use Rattle.dmc_tool.specs.declared.fault.FaultText.{FaultText}

-- ---- texts

abbrev pub fault_text : Fault → List ℕ
fault_text fault.Usage = codes "usage: dmclock script|check [--tags tick|ratio] | sim | run"
fault_text (fault.Line number cause) = codes "dmclock: line " ++ (decimal number ++ (codes " " ++ cause_word cause))
fault_text fault.Read = codes "dmclock: read"
fault_text fault.Write = codes "dmclock: write"
fault_text fault.Memory = codes "dmclock: memory"
fault_text fault.SceneText = codes "dmclock: scene text"
fault_text (fault.SceneMissing key client) = codes "dmclock: scene missing " ++ name_of key
fault_text (fault.SceneKind key client) = codes "dmclock: scene kind " ++ name_of key
fault_text (fault.SceneValue key client) = codes "dmclock: scene value " ++ name_of key
fault_text fault.Torn = codes "dmclock: torn"
fault_text fault.Range = codes "dmclock: refused range"
fault_text fault.TurnsOut = codes "dmclock: turns out"
fault_text fault.Stopped = codes "dmclock: stopped"

abbrev pub number_text : Option ℕ → List ℕ
number_text None = []
number_text (Some n) = decimal n

-- the line of the parts of a text, with its LF
abbrev pub line_of : FaultText → List ℕ
line_of text = text.head.now ++ (number_text text.number ++ (text.tail.now ++ 10 ∷ []))

-- ---- writing

-- All of these bytes are written, or the writer fails after a first part of them. The first argument says which bytes a writer
-- has taken.
abbrev pub Sends : {W : Type 0} → (W → Option (List ℕ)) → List ℕ → (old new : Watched W) → Bool → Type 0
Sends held bytes old new true = Appends (held (stream_of old)) (held (stream_of new)) bytes × IsCalm old new
Sends held bytes old new false = AppendsSome (held (stream_of old)) (held (stream_of new)) bytes × (failed new ≡ true)

-- these bytes are written, up to where the writer fails
abbrev pub WritesLines : {W : Type 0} → (W → Option (List ℕ)) → List ℕ → (old new : Watched W) → Type 0
WritesLines held bytes old new = (is_sent : Bool) × Sends held bytes old new is_sent

-- a fault's text is written as one line
abbrev pub WritesFault : {W : Type 0} → (W → Option (List ℕ)) → Fault → (old new : Watched W) → Type 0
WritesFault held fault old new = WritesLines held (with_line_end (fault_text fault)) old new
