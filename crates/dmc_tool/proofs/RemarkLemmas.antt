-- What is remarked by the end of a run, and that it is written.
use Rattle.std.proofs.Common.{◌≡◌, ◌++◌, ◌∙◌, ℕ, ◌<◌, Bool, true, false, List, [], ◌∷◌, length, ap, refl, sym, subst, arith, append-nil, Option, Result, Ok, Err, inl, inr}
use Rattle.std.specs.Prelude.{IsErrAnd, if◌then◌else◌}
use Rattle.dmc_text.specs.declared.watched.Watched.{Watched}
use Rattle.dmc_tool.specs.FaultLine.{Sends, WritesLines}
use Rattle.dmc_tool.specs.Ignored.{ignored_lines}
use Rattle.dmc_tool.specs.Remarks.{CommandRemarks, EndsEarly, RemarksOn, WritesRemarks}
use Rattle.dmc_tool.specs.Scenes.{ReadsText}
use Rattle.dmc_tool.specs.declared.fault.Fault.{Fault}
use Rattle.dmc_tool.specs.declared.fault.Fault.TheVariants.{Read, Memory}
use Rattle.dmc_tool.specs.declared.words.ToolCommand.{ToolCommand}
use Rattle.dmc_tool.specs.declared.words.ToolCommand.TheVariants.{Script, Check, Sim, Run}
use Rattle.dmc_tool.proofs.FaultLineLemmas.{sent_both, sent_cut}

module _ (before after : Option (List ℕ)) (blank : List ℕ) where
  -- nothing is remarked at an early end
  pub silent : {X : Type 0} (is_explained : Bool) (end : Result X Fault) → EndsEarly end → RemarksOn is_explained before after end blank blank
  silent false end early = refl
  silent true end early = inl (early, refl)

  pub silent_as : {X : Type 0} (is_explained : Bool) (result : Result X Fault) → IsErrAnd result (λ fault. fault ≡ Memory) → RemarksOn is_explained before after result blank blank
  silent_as is_explained (Ok x) e = absurd e
  silent_as is_explained (Err f) e = silent is_explained (Err f) (inr (ap Err e))

  pub silent_command : {X : Type 0} (command : ToolCommand) (is_explained : Bool) (end : Result X Fault) → EndsEarly end → CommandRemarks command is_explained before after end blank blank
  silent_command Script is_explained end early = refl
  silent_command Check is_explained end early = refl
  silent_command Sim is_explained end early = silent is_explained end early
  silent_command Run is_explained end early = silent is_explained end early

  module _ (remarks : List ℕ) where
    -- all of a text is read
    pub remarked : {X : Type 0} (is_explained : Bool) (text : List ℕ) (end : Result X Fault) → ReadsText before after text → remarks ≡ (if is_explained then ignored_lines text else blank)
        → RemarksOn is_explained before after end blank remarks
    remarked false text end read is = is
    remarked true text end read is = inr (text, read, is)

    -- a scene is read, however its run ends
    pub scene_remarked : {X Y : Type 0} (is_explained : Bool) (scene : X) (end : Result Y Fault) → RemarksOn {X = X} is_explained before after (Ok scene) blank remarks
        → RemarksOn is_explained before after end blank remarks
    scene_remarked false scene end h = h
    scene_remarked true scene end (inl (inl e, h)) = absurd (cc)
    scene_remarked true scene end (inl (inr e, h)) = absurd (cc)
    scene_remarked true scene end (inr h) = inr h

    -- no scene is read
    pub fault_remarked : (X : Type 0) {Y : Type 0} (is_explained : Bool) (fault : Fault) (result : Result Y Fault) → RemarksOn {X = X} is_explained before after (Err fault) blank remarks
        → IsErrAnd result (λ reported. reported ≡ fault) → RemarksOn is_explained before after result blank remarks
    fault_remarked X is_explained fault (Ok y) h e = absurd e
    fault_remarked X false fault (Err f) h e = h
    fault_remarked X true fault (Err f) (inl (inl early, h)) e = let is : fault ≡ Read = cc in inl (inl (ap Err (e ∙ is)), h)
    fault_remarked X true fault (Err f) (inl (inr early, h)) e = let is : fault ≡ Memory = cc in inl (inr (ap Err (e ∙ is)), h)
    fault_remarked X true fault (Err f) (inr h) e = inr h

module _ {E : Type 0} (heard : E → Option (List ℕ)) where
  -- there are remarks, or none
  pub some_written : (bytes : List ℕ) (quiet loud : Watched E) → 0 < length bytes → WritesLines heard bytes quiet loud → WritesRemarks heard bytes quiet loud
  some_written [] quiet loud some h = absurd (omega (arith, some))
  some_written (byte ∷ bytes) quiet loud some h = h

  pub none_written : (bytes : List ℕ) (quiet : Watched E) → length bytes ≡ 0 → WritesRemarks heard bytes quiet quiet
  none_written [] quiet none = refl
  none_written (byte ∷ bytes) quiet none = absurd (omega (arith, none))

  -- they are written behind other lines
  pub written_behind : (lines remarks : List ℕ) (old middle new : Watched E) → Sends heard lines old middle true → WritesRemarks heard remarks middle new
      → WritesLines heard (lines ++ remarks) old new
  written_behind lines [] old middle new sent h =
      (true, subst (λ w. Sends heard (lines ++ []) old w true) (sym h) (subst (λ bytes. Sends heard bytes old middle true) (sym (append-nil lines)) sent))
  written_behind lines (byte ∷ bytes) old middle new sent (is_sent, h) = (is_sent, sent_both heard lines (byte ∷ bytes) old middle new is_sent sent h)

  pub written_cut : (lines remarks : List ℕ) (old new : Watched E) → Sends heard lines old new false → WritesLines heard (lines ++ remarks) old new
  written_cut lines remarks old new sent = (false, sent_cut heard lines remarks old new sent)
