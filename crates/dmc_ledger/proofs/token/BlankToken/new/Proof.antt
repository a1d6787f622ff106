-- `new` makes the entries of all numbers.
use Rattle.dmc_ledger.proofs.Walks.{ℕ, [], ◌∷◌, refl, proved, ftrue, tables, ‵, raw, ◌⊛◌, some, later, ◌$◌, ◌∵◌, !, qed, move, keep, join, fjoin, pick, suffices, use0, await, no_more, and_then, returns, enter, alloc_all, pass_all, free_all, look_at, get, sets, agg, owns, types_at, unit, nothing, Stays, walk_of, ends_at, token, Mark, made, mint_owns}
use Rattle.dmc_ledger.specs.contracts.token.BlankToken as Blank
use Rattle.dmc_ledger.proofs.Ledger.{begins}
use Rattle.dmc_ledger.specs.contracts.token.BlankToken.new.{ended, clauses}
use Rattle.dmc_ledger.specs.contracts.token.BlankToken.new.Key.{name as #self}
use Rattle.dmc_ledger.proofs.token.BlankToken.new.Statement.{statement}
use Rattle.dmc_ledger.proofs.token.BlankToken.new.Code as code

pub new_spec : {M : Type 1} → statement M
new_spec 𝓤 𝓛 𝓜 𝓡 wired =
    let H = 𝓛.H in let 𝓣 = tables 𝓤 H 𝓜 𝓡 𝓡.env in let c = clauses 𝓛 𝓜.mem 𝓡.returns in let hs : Stays ended.signature.params ended.kept = tt in
    proved 𝓛 ended hs c 𝓜 𝓡 tt #self code.function (code.unfolded 𝓤 H 𝓜 𝓡 wired) (λ κs. tt) (λ κs. tt) (λ κs qs bounds a gh are.
    let y : (walk_of 𝓛 ended hs c).Ghost = ((κs, qs, bounds, a, tt), gh) in
    qed 𝓛 ((‵ ftrue ⊛ ‵ (owns (types_at ended.signature.params κs) a y.0.4)) ∷ raw ((c κs a).requires gh) ∷ []) ∵ keep ! [] $ enter ! 𝓣.C 𝓣.Λ code.function [] _ $ alloc_all ! (λ l. pass_all ! refl tt $
    use0 𝓛 (later (some (λ (k : ℕ). ‵ (mint_owns k 0 0)))) (begins 𝓛) $ await ! tt $ pick ! (λ k. sets ! (agg ! (no_more !)) refl (tt, tt) $ sets ! (agg ! (and_then ! (get ! refl) (no_more !))) refl (tt, (tt, tt)) $
    returns ! (look_at ! 0 refl) $ free_all ! refl $ suffices ! _ (ends_at 𝓛 ended hs c y token record { marker = record {}; name = k } tt tt) $
    use0 𝓛 (‵ ((Mark (Blank.the_type).name [] unit).own_val (tt, tt) (token ∷ []))) (made (Blank.the_type).name [] unit 𝓛) $ fjoin ! $ nothing ! $ join ! $ nothing ! $ join ! $ nothing ! $ move ! (1 ∷ 0 ∷ []) $ types.Kit.done !)))
