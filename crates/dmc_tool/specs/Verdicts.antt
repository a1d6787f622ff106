-- Verdicts on the histories of a report.
use Rattle.std.specs.Prelude.{List, [], ◌∷◌, ⊤}
use Rattle.dmc_types.specs.Values.{Setting}
use Rattle.dmc_tag.specs.Tag.{Tagging}
use Rattle.dmc_check.specs.Verdicts.{IsVerdict}
use Rattle.dmc_check.specs.declared.check.Verdict.{Verdict}
use Rattle.dmc_settle.specs.declared.report.ServerReport.{ServerReport}

-- one for each server, on its history
abbrev pub AreVerdicts : {T : Type 0} → Tagging T → Setting → List (ServerReport T) → List Verdict → Type 0
AreVerdicts ops config [] [] = ⊤
AreVerdicts ops config [] (v ∷ vs) = ⊥
AreVerdicts ops config (s ∷ ss) [] = ⊥
AreVerdicts ops config (s ∷ ss) (v ∷ vs) = IsVerdict ops config s.history.events v × AreVerdicts ops config ss vs
