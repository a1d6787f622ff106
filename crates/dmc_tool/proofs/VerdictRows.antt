-- Rows one by one.
use Rattle.std.proofs.Common.{◌≡◌, ◌<◌, ◌+◌, ◌++◌, ◌∷◌, [], List, length, take, get_or, ℕ, zero, suc, refl, ap, sym, ◌∙◌, subst, arith}
use Rattle.std.proofs.lemmas.List.{append-nil, append_assoc}
use Rattle.dmc_types.specs.Values.{Setting}
use Rattle.dmc_tag.specs.Tag.{Tagging}
use Rattle.dmc_check.specs.Verdicts.{IsVerdict}
use Rattle.dmc_check.specs.declared.check.Verdict.{Verdict}
use Rattle.dmc_settle.specs.declared.report.ServerReport.{ServerReport}
use Rattle.dmc_tool.specs.Verdicts.{AreVerdicts}
use Rattle.dmc_tool.specs.ReportTexts.{server_line, server_lines}

-- one verdict more
verdicts_suc : {T : Type 0} (ops : Tagging T) (config : Setting) (ss : List (ServerReport T)) (vs : List Verdict) (i : ℕ) (v : Verdict) → i < length ss
    → ((s : ServerReport T) → IsVerdict ops config (get_or ss i s).history.events v) → AreVerdicts ops config (take i ss) vs
    → AreVerdicts ops config (take (suc i) ss) (vs ++ v ∷ [])
verdicts_suc ops config [] vs i v below is are = absurd (omega (arith, below))
verdicts_suc ops config (s ∷ ss) [] zero v below is are = (is s, tt)
verdicts_suc ops config (s ∷ ss) (w ∷ vs) zero v below is are = absurd are
verdicts_suc ops config (s ∷ ss) [] (suc i) v below is are = absurd are
verdicts_suc ops config (s ∷ ss) (w ∷ vs) (suc i) v below is are = (are.0, verdicts_suc ops config ss vs i v (omega (arith, below)) is are.1)

pub verdicts_more : {T : Type 0} (ops : Tagging T) (config : Setting) (ss : List (ServerReport T)) (vs : List Verdict) (i : ℕ) (v : Verdict) → i < length ss
    → ((s : ServerReport T) → IsVerdict ops config (get_or ss i s).history.events v) → AreVerdicts ops config (take i ss) vs
    → AreVerdicts ops config (take (i + 1) ss) (vs ++ v ∷ [])
verdicts_more ops config ss vs i v below is are =
    let next : i + 1 ≡ suc i = omega arith in
    subst (λ k. AreVerdicts ops config (take k ss) (vs ++ v ∷ [])) (sym next) (verdicts_suc ops config ss vs i v below is are)

-- one line more
lines_suc : {T : Type 0} (rows : List (ServerReport T)) (vs : List Verdict) (i : ℕ) (d : ServerReport T) (w : Verdict) → i < length rows → i < length vs
    → server_lines (take (suc i) rows) (take (suc i) vs) ≡ server_lines (take i rows) (take i vs) ++ server_line (get_or rows i d) (get_or vs i w)
lines_suc [] vs i d w below below' = absurd (omega (arith, below))
lines_suc (r ∷ rows) [] i d w below below' = absurd (omega (arith, below'))
lines_suc (r ∷ rows) (v ∷ vs) zero d w below below' = append-nil (server_line r v)
lines_suc (r ∷ rows) (v ∷ vs) (suc i) d w below below' =
    ap (λ xs. server_line r v ++ xs) (lines_suc rows vs i d w (omega (arith, below)) (omega (arith, below')))
    ∙ sym (append_assoc (server_line r v) _ _)

pub lines_more : {T : Type 0} (rows : List (ServerReport T)) (vs : List Verdict) (i : ℕ) (d : ServerReport T) (w : Verdict) → i < length rows → i < length vs
    → server_lines (take (i + 1) rows) (take (i + 1) vs) ≡ server_lines (take i rows) (take i vs) ++ server_line (get_or rows i d) (get_or vs i w)
lines_more rows vs i d w below below' =
    let next : i + 1 ≡ suc i = omega arith in
    ap (λ k. server_lines (take k rows) (take k vs)) next ∙ lines_suc rows vs i d w below below'

-- as many verdicts as servers
pub as_many : {T : Type 0} (ops : Tagging T) (config : Setting) (ss : List (ServerReport T)) (vs : List Verdict) → AreVerdicts ops config ss vs → length vs ≡ length ss
as_many ops config [] [] are = refl
as_many ops config [] (v ∷ vs) are = absurd are
as_many ops config (s ∷ ss) [] are = absurd are
as_many ops config (s ∷ ss) (v ∷ vs) are = ap suc (as_many ops config ss vs are.1)
