-- How the parts of a simulation end.
use Rattle.std.proofs.Common.{◌≡◌, ◌≢◌, ℕ, ◌<◌, ◌≤◌, Bool, true, false, List, [], length, take, sym, subst, arith, Option, Result, Ok, Err}
use Rattle.std.specs.Prelude.{IsErrAnd, if◌then◌else◌}
use Rattle.std.proofs.lemmas.List.{length-take-le}
use Rattle.std.specs.Io.KnownBytes.{Consumes, IsAtEnd}
use Rattle.dmc_scene.specs.declared.fault.SceneFault.{SceneFault}
use Rattle.dmc_scene.specs.declared.fault.SceneFault.TheVariants as scene
use Rattle.dmc_scene.specs.Reading.{scene_in}
use Rattle.dmc_scene.specs.SceneValue.{SceneValue}
use Rattle.dmc_sim.specs.Reports.{Simulates}
use Rattle.dmc_sim.specs.declared.report.SimFault.{SimFault}
use Rattle.dmc_sim.specs.declared.report.SimFault.TheVariants as sim
use Rattle.std.proofs.KnownBytes.{Consumes-nil, Keeps-refl}
use Rattle.dmc_tool.specs.Faults.{fault_of_scene, fault_of_sim}
use Rattle.dmc_tool.specs.Scenes.{ReadsScene, ReadsSome, ReadsText, max_bytes}
use Rattle.dmc_tool.specs.Sims.{RunsSim, WritesAll}
use Rattle.dmc_tool.specs.declared.fault.Fault.{Fault}
use Rattle.dmc_tool.specs.declared.fault.Fault.TheVariants as fault
use Rattle.dmc_tool.specs.declared.outcome.Outcome.{Outcome}
use Rattle.dmc_tool.specs.declared.outcome.Outcome.TheVariants.{Done}

pub none_yet : (r : Option (List ℕ)) → ReadsSome r r
none_yet r = ([], (Consumes-nil r, omega arith))

-- the first n bytes of a buffer are read
pub read_front : (before after : Option (List ℕ)) (items : List ℕ) (n : ℕ) → n ≤ max_bytes → length items ≡ max_bytes → Consumes before after (take n items) → (n < max_bytes → IsAtEnd after)
    → ReadsText before after (take n items)
read_front before after items n most size read end =
    let len : length (take n items) ≡ n = length-take-le n items (omega (arith, most, size)) in
    ((read, omega (arith, len, most)), λ h. end (omega (arith, len, h)))

abbrev failed : SceneFault → Result SceneValue SceneFault
failed cause = Err cause

-- a text that is no scene
refused : (before after : Option (List ℕ)) (text : List ℕ) (cause : SceneFault) → ReadsText before after text
    → (failed cause ≢ failed scene.Memory → failed cause ≡ scene_in text) → ReadsScene before after (Err (fault_of_scene cause))
refused before after text scene.Text read is = (text, read, sym (is (λ e. cc)))
refused before after text (scene.Missing key client) read is = (text, read, sym (is (λ e. cc)))
refused before after text (scene.Kind key client) read is = (text, read, sym (is (λ e. cc)))
refused before after text (scene.Value key client) read is = (text, read, sym (is (λ e. cc)))
refused before after text scene.Memory read is = (text, read.0)

pub refused_as : (before after : Option (List ℕ)) (text : List ℕ) (cause : SceneFault) (result : Result SceneValue Fault) → ReadsText before after text
    → (failed cause ≢ failed scene.Memory → failed cause ≡ scene_in text) → IsErrAnd result (λ shown. shown ≡ fault_of_scene cause) → ReadsScene before after result
refused_as before after text cause (Ok s) read is e = absurd e
refused_as before after text cause (Err f) read is e = subst (λ x. ReadsScene before after (Err x)) (sym e) (refused before after text cause read is)

-- the scene has no report
unreported : (before after old : Option (List ℕ)) (s : SceneValue) (f : SimFault) → ReadsScene before after (Ok s) → Simulates s (Err f) → RunsSim before after old old (Err (fault_of_sim f))
unreported before after old s (sim.Refused refusal) h is = ((s, refusal, h, is), Keeps-refl old)
unreported before after old s sim.Memory h is = ((h.0, h.1.0), Keeps-refl old)

pub unreported_as : (before after old : Option (List ℕ)) (s : SceneValue) (f : SimFault) (result : Result Outcome Fault) → ReadsScene before after (Ok s) → Simulates s (Err f) → IsErrAnd result (λ shown. shown ≡ fault_of_sim f)
    → RunsSim before after old old result
unreported_as before after old s f (Ok outcome) h is e = absurd e
unreported_as before after old s f (Err shown) h is e = subst (λ x. RunsSim before after old old (Err x)) (sym e) (unreported before after old s f h is)

-- the report is written
pub reported : (before after old new : Option (List ℕ)) (b : Bool) (end : Result Outcome Fault) → end ≡ (if b then Err fault.TurnsOut else Ok Done) → WritesAll before after old new end
    → RunsSim before after old new end
reported before after old new true end e h = subst (λ x. WritesAll before after old new x → RunsSim before after old new x) (sym e) (λ t. t) h
reported before after old new false end e h = subst (λ x. WritesAll before after old new x → RunsSim before after old new x) (sym e) (λ t. t) h
