-- Whether the streams of a run failed, by how the run ends. Read and Write are reported only if the reader or the writer
-- failed, or, of a script and of events, at the most bytes of a text.
use Rattle.std.specs.Prelude.{◌≡◌, true, List, ℕ, Option, Some, None, Result, Ok, Err}
use Rattle.dmc_text.specs.Watching.{failed, IsCalm, MayFail, FailsToRead}
use Rattle.dmc_text.specs.declared.watched.Watched.{Watched}
use Rattle.dmc_scene.specs.SceneValue.{SceneValue}
use Rattle.dmc_tool.specs.declared.fault.Fault.{Fault}
use Rattle.dmc_tool.specs.declared.fault.Fault.TheVariants.{Read, Write, Memory}
use Rattle.dmc_tool.specs.declared.outcome.Outcome.{Outcome}
use Rattle.dmc_tool.specs.declared.words.Tool.{Tool}
use Rattle.dmc_tool.specs.declared.words.ToolCommand.{ToolCommand}
use Rattle.dmc_tool.specs.declared.words.ToolCommand.TheVariants.{Script, Check, Sim, Run}

-- a scene is read
abbrev pub SceneNoted : {R : Type 0} → (before after : Watched R) → Result SceneValue Fault → Type 0
SceneNoted before after (Ok s) = IsCalm before after
SceneNoted before after (Err Read) = failed after ≡ true
SceneNoted before after (Err fault) = IsCalm before after

-- neither stream failed
abbrev pub AreCalm : {R W : Type 0} → (before after : Watched R) → (old new : Watched W) → Type 0
AreCalm before after old new = IsCalm before after × IsCalm old new

-- A script: at Read and at Memory the pending replies are sent, and the writer may fail then.
abbrev pub ScriptNoted : {R W : Type 0} → (R → Option (List ℕ)) → (before after : Watched R) → (old new : Watched W) → Result Outcome Fault → Type 0
ScriptNoted left before after old new (Err Read) = FailsToRead left 0 before after × MayFail old new
ScriptNoted left before after old new (Err Write) = IsCalm before after × (failed new ≡ true)
ScriptNoted left before after old new (Err Memory) = IsCalm before after × MayFail old new
ScriptNoted left before after old new (Err fault) = AreCalm before after old new
ScriptNoted left before after old new (Ok outcome) = AreCalm before after old new

-- an event text
abbrev pub CheckNoted : {R W : Type 0} → (R → Option (List ℕ)) → (before after : Watched R) → (old new : Watched W) → Result Outcome Fault → Type 0
CheckNoted left before after old new (Err Read) = FailsToRead left 0 before after × IsCalm old new
CheckNoted left before after old new (Err Write) = IsCalm before after × (failed new ≡ true)
CheckNoted left before after old new (Err fault) = AreCalm before after old new
CheckNoted left before after old new (Ok outcome) = AreCalm before after old new

-- a scene is read, and its report written
abbrev pub ReportNoted : {R W : Type 0} → (before after : Watched R) → (old new : Watched W) → Result Outcome Fault → Type 0
ReportNoted before after old new (Err Read) = (failed after ≡ true) × IsCalm old new
ReportNoted before after old new (Err Write) = IsCalm before after × (failed new ≡ true)
ReportNoted before after old new (Err fault) = AreCalm before after old new
ReportNoted before after old new (Ok outcome) = AreCalm before after old new

abbrev pub CommandNoted : {R W : Type 0} → (R → Option (List ℕ)) → ToolCommand → (before after : Watched R) → (old new : Watched W) → Result Outcome Fault → Type 0
CommandNoted left Script before after old new end = ScriptNoted left before after old new end
CommandNoted left Check before after old new end = CheckNoted left before after old new end
CommandNoted left Sim before after old new end = ReportNoted before after old new end
CommandNoted left Run before after old new end = ReportNoted before after old new end

-- words that ask for no tool leave both streams alone
abbrev pub WordsNoted : {R W : Type 0} → (R → Option (List ℕ)) → Option Tool → (before after : Watched R) → (old new : Watched W) → Result Outcome Fault → Type 0
WordsNoted left None before after old new end = AreCalm before after old new
WordsNoted left (Some tool) before after old new end = CommandNoted left tool.command before after old new end
