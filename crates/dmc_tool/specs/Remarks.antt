-- What is remarked on a scene that is read: the lines on its keys that are ignored. They are written behind those of a fault, if an
-- explanation is asked for.
use Rattle.std.specs.Prelude.{◌≡◌, ◌⊎◌, ℕ, Bool, true, false, List, [], ◌∷◌, Option, Some, None, Result, Err}
use Rattle.dmc_text.specs.declared.watched.Watched.{Watched}
use Rattle.dmc_tool.specs.FaultLine.{WritesLines}
use Rattle.dmc_tool.specs.Ignored.{ignored_lines}
use Rattle.dmc_tool.specs.Scenes.{ReadsText}
use Rattle.dmc_tool.specs.declared.fault.Fault.{Fault}
use Rattle.dmc_tool.specs.declared.fault.Fault.TheVariants.{Read, Memory}
use Rattle.dmc_tool.specs.declared.words.Tool.{Tool}
use Rattle.dmc_tool.specs.declared.words.ToolCommand.{ToolCommand}
use Rattle.dmc_tool.specs.declared.words.ToolCommand.TheVariants.{Script, Check, Sim, Run}

-- the text can't be read, or an allocation failed
abbrev pub EndsEarly : {X : Type 0} → Result X Fault → Type 0
EndsEarly end = (end ≡ Err Read) ⊎ (end ≡ Err Memory)

-- All of a text is read, and these are its lines. Nothing is remarked at an early end, or if no explanation is asked for.
abbrev pub RemarksOn : {X : Type 0} → Bool → (before after : Option (List ℕ)) → Result X Fault → (blank remarks : List ℕ) → Type 0
RemarksOn false before after end blank remarks = remarks ≡ blank
RemarksOn true before after end blank remarks =
    (EndsEarly end × (remarks ≡ blank)) ⊎ ((text : List ℕ) × ReadsText before after text × (remarks ≡ ignored_lines text))

-- by the command: only a scene is remarked on
abbrev pub CommandRemarks : {X : Type 0} → ToolCommand → Bool → (before after : Option (List ℕ)) → Result X Fault → (blank remarks : List ℕ) → Type 0
CommandRemarks Script is_explained before after end blank remarks = remarks ≡ blank
CommandRemarks Check is_explained before after end blank remarks = remarks ≡ blank
CommandRemarks Sim is_explained before after end blank remarks = RemarksOn is_explained before after end blank remarks
CommandRemarks Run is_explained before after end blank remarks = RemarksOn is_explained before after end blank remarks

abbrev pub WordsRemarks : {X : Type 0} → Option Tool → Bool → (before after : Option (List ℕ)) → Result X Fault → (blank remarks : List ℕ) → Type 0
WordsRemarks None is_explained before after end blank remarks = remarks ≡ blank
WordsRemarks (Some tool) is_explained before after end blank remarks = CommandRemarks tool.command is_explained before after end blank remarks

-- they are written, up to where the writer fails; if there are none, the writer is not used
abbrev pub WritesRemarks : {E : Type 0} → (E → Option (List ℕ)) → List ℕ → (quiet loud : Watched E) → Type 0
WritesRemarks heard [] quiet loud = loud ≡ quiet
WritesRemarks heard (byte ∷ bytes) quiet loud = WritesLines heard (byte ∷ bytes) quiet loud
