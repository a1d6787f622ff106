-- The lines that show how far a command is. How many there are depends on how long it takes, so no contract says that.
use Rattle.std.specs.Prelude.{◌≡◌, ℕ, List, [], ◌∷◌, ◌++◌, codes, Option, Some, None}
use Rattle.std.specs.Fmt.{decimal}
use Rattle.dmc_text.specs.Texts.{with_line_end}
use Rattle.dmc_text.specs.declared.watched.Watched.{Watched}
use Rattle.dmc_tool.specs.FaultLine.{WritesLines}
use Rattle.dmc_tool.specs.declared.words.ToolCommand.{ToolCommand}
use Rattle.dmc_tool.specs.declared.words.ToolCommand.TheVariants.{Script, Check, Sim, Run}

-- what a command counts
abbrev pub unit_of : ToolCommand → List ℕ
unit_of Script = codes " lines read"
unit_of Check = codes " lines read"
unit_of Sim = codes " rounds simulated"
unit_of Run = codes " requests served"

-- the line of a count
abbrev pub progress_line : ToolCommand → ℕ → List ℕ
progress_line command count = with_line_end (codes "dmclock: progress: " ++ (decimal count ++ unit_of command))

-- the lines of some counts
abbrev pub progress_lines : ToolCommand → List ℕ → List ℕ
progress_lines command [] = []
progress_lines command (count ∷ counts) = progress_line command count ++ progress_lines command counts

-- some lines of the command's progress are written, up to where the writer fails
abbrev pub WritesProgress : {E : Type 0} → (E → Option (List ℕ)) → ToolCommand → (old new : Watched E) → Type 0
WritesProgress heard command old new = (counts : List ℕ) × WritesLines heard (progress_lines command counts) old new

-- the progress of a command is written, or that of none, and then the writer is not used
abbrev pub ShowsProgress : {E : Type 0} → (E → Option (List ℕ)) → Option ToolCommand → (old new : Watched E) → Type 0
ShowsProgress heard None old new = new ≡ old
ShowsProgress heard (Some command) old new = WritesProgress heard command old new
