-- The exit status of each fault, and the word of a line's cause.
use Rattle.std.specs.Prelude.{ℕ, List, codes}
use Rattle.dmc_scene.specs.declared.fault.SceneFault.{SceneFault}
use Rattle.dmc_scene.specs.declared.fault.SceneFault.TheVariants as scene
use Rattle.dmc_sim.specs.declared.report.SimFault.{SimFault}
use Rattle.dmc_sim.specs.declared.report.SimFault.TheVariants as sim
use Rattle.dmc_tool.specs.declared.run_scene.RunSceneFault.{RunSceneFault}
use Rattle.dmc_tool.specs.declared.run_scene.RunSceneFault.TheVariants as run
use Rattle.dmc_text.specs.declared.cause.LineCause.{LineCause}
use Rattle.dmc_text.specs.declared.cause.LineCause.TheVariants as cause
use Rattle.dmc_text.specs.declared.script.ScriptFault.{ScriptFault}
use Rattle.dmc_text.specs.declared.script.ScriptFault.TheVariants as script
use Rattle.dmc_tool.specs.declared.fault.Fault.{Fault}
use Rattle.dmc_tool.specs.declared.fault.Fault.TheVariants as fault
use Rattle.dmc_tool.specs.declared.words.WordsFault.{WordsFault}
use Rattle.dmc_tool.specs.declared.words.WordsFault.TheVariants as words

abbrev pub status_of : Fault → ℕ
status_of fault.Usage = 2
status_of (fault.Line number cause) = 1
status_of fault.Read = 1
status_of fault.Write = 1
status_of fault.Memory = 1
status_of fault.SceneText = 1
status_of (fault.SceneMissing key client) = 1
status_of (fault.SceneKind key client) = 1
status_of (fault.SceneValue key client) = 1
status_of fault.Torn = 1
status_of fault.Range = 1
status_of fault.TurnsOut = 4
status_of fault.Stopped = 4

abbrev pub cause_word : LineCause → List ℕ
cause_word cause.Bytes = codes "bytes"
cause_word cause.Hz = codes "hz"
cause_word cause.Words = codes "words"
cause_word cause.Number = codes "number"

-- the program's fault for one of its words
abbrev pub fault_of_words : WordsFault → Fault
fault_of_words words.Usage = fault.Usage
fault_of_words words.Memory = fault.Memory

-- the program's fault for one of a script
abbrev pub fault_of_script : ScriptFault → Fault
fault_of_script (script.Line number cause) = fault.Line number cause
fault_of_script script.Read = fault.Read
fault_of_script script.Write = fault.Write
fault_of_script script.Memory = fault.Memory

-- the program's fault for one of a scene
abbrev pub fault_of_scene : SceneFault → Fault
fault_of_scene scene.Text = fault.SceneText
fault_of_scene (scene.Missing key client) = fault.SceneMissing key client
fault_of_scene (scene.Kind key client) = fault.SceneKind key client
fault_of_scene (scene.Value key client) = fault.SceneValue key client
fault_of_scene scene.Memory = fault.Memory

-- the program's fault for one of a simulation
abbrev pub fault_of_sim : SimFault → Fault
fault_of_sim (sim.Refused refusal) = fault.Range
fault_of_sim sim.Memory = fault.Memory

-- the program's fault for one of a run
abbrev pub fault_of_run : RunSceneFault → Fault
fault_of_run run.Memory = fault.Memory
fault_of_run run.Torn = fault.Torn
fault_of_run run.Write = fault.Write
fault_of_run run.TurnsOut = fault.TurnsOut
fault_of_run run.Stopped = fault.Stopped
