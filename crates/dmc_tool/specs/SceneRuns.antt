-- What a run of a scene in threads reads and writes.
use Rattle.std.specs.Prelude.{◌≡◌, ◌⊎◌, ℕ, ⊤, List, Option, Result, Ok, Err}
use Rattle.std.specs.Io.KnownBytes.{Keeps}
use Rattle.dmc_scene.specs.SceneValue.{SceneValue}
use Rattle.dmc_tool.specs.RunReports.{RunsScene}
use Rattle.dmc_tool.specs.declared.run_scene.RunSceneFault.{RunSceneFault}
use Rattle.dmc_tool.specs.declared.fault.Fault.{Fault}
use Rattle.dmc_tool.specs.declared.outcome.Outcome.{Outcome}
use Rattle.dmc_tool.specs.declared.outcome.Outcome.TheVariants.{Done}
use Rattle.dmc_tool.specs.Faults.{fault_of_run}
use Rattle.dmc_tool.specs.Scenes.{ReadsScene}

abbrev pub end_of_run : Result ⊤ RunSceneFault → Result Outcome Fault
end_of_run (Ok x) = Ok Done
end_of_run (Err fault) = Err (fault_of_run fault)

-- a scene is read and run, and this is how the run ends
abbrev pub Ran : (before after old new : Option (List ℕ)) → Result Outcome Fault → Type 0
Ran before after old new end =
    (scene : SceneValue) × (ended : Result ⊤ RunSceneFault) × ReadsScene before after (Ok scene) × RunsScene scene old new ended × (end ≡ end_of_run ended)

-- no scene is read, and nothing is written
abbrev pub ReadsNone : (before after old new : Option (List ℕ)) → Result Outcome Fault → Type 0
ReadsNone before after old new end = (fault : Fault) × ReadsScene before after (Err fault) × Keeps old new × (end ≡ Err fault)

abbrev pub RunsRun : (before after old new : Option (List ℕ)) → Result Outcome Fault → Type 0
RunsRun before after old new end = Ran before after old new end ⊎ ReadsNone before after old new end
