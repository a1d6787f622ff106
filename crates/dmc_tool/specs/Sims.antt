-- What a simulation reads and writes.
use Rattle.std.specs.Prelude.{◌≡◌, ℕ, List, Option, Result, Ok, Err, if◌then◌else◌}
use Rattle.std.specs.Io.KnownBytes.{Appends, Keeps}
use Rattle.dmc_text.specs.Texts.{AppendsSome}
use Rattle.dmc_scene.specs.SceneValue.{SceneValue}
use Rattle.dmc_types.specs.declared.refusal.Refusal.{Refusal}
use Rattle.dmc_sim.specs.Reports.{IsReportOf, Simulates}
use Rattle.dmc_sim.specs.Texts.{report_text}
use Rattle.dmc_sim.specs.declared.report.SimReport.{SimReport}
use Rattle.dmc_sim.specs.declared.report.SimFault.TheVariants.{Refused}
use Rattle.dmc_tool.specs.declared.fault.Fault.{Fault}
use Rattle.dmc_tool.specs.declared.fault.Fault.TheVariants.{Range, TurnsOut, Write}
use Rattle.dmc_tool.specs.declared.outcome.Outcome.{Outcome}
use Rattle.dmc_tool.specs.declared.outcome.Outcome.TheVariants.{Done}
use Rattle.dmc_tool.specs.Scenes.{ReadsScene}

-- the end of a simulation whose report is written
abbrev pub end_of_sim : SimReport → Result Outcome Fault
end_of_sim report = if report.turns_out then Err TurnsOut else Ok Done

-- a scene is read, this is the report of its simulation, and P holds of it
abbrev pub Reports : (before after : Option (List ℕ)) → (SimReport → Type 0) → Type 0
Reports before after P = (scene : SceneValue) × (report : SimReport) × ReadsScene before after (Ok scene) × Simulates scene (Ok report) × IsReportOf scene report × P report

-- the whole report is written, and this is how the simulation ends
abbrev pub WritesAll : (before after old new : Option (List ℕ)) → Result Outcome Fault → Type 0
WritesAll before after old new end = Reports before after (λ report. Appends old new (report_text report) × (end ≡ end_of_sim report))

-- a scene is read, and a queue's refusal ends its simulation
abbrev pub IsRefused : (before after : Option (List ℕ)) → Type 0
IsRefused before after = (scene : SceneValue) × (refusal : Refusal) × ReadsScene before after (Ok scene) × Simulates scene (Err (Refused refusal))

-- By how a simulation ends: the report of the scene that is read is written, all of it, or a first part if the writer fails;
-- otherwise nothing is.
abbrev pub RunsSim : (before after old new : Option (List ℕ)) → Result Outcome Fault → Type 0
RunsSim before after old new (Ok outcome) = WritesAll before after old new (Ok outcome)
RunsSim before after old new (Err TurnsOut) = WritesAll before after old new (Err TurnsOut)
RunsSim before after old new (Err Write) = Reports before after (λ report. AppendsSome old new (report_text report))
RunsSim before after old new (Err Range) = IsRefused before after × Keeps old new
RunsSim before after old new (Err fault) = ReadsScene before after (Err fault) × Keeps old new
