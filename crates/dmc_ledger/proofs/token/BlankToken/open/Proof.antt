-- `open` passes on what the blank set-up owns, at the name that the type has.
use Rattle.dmc_ledger.proofs.Walks.{◌≡◌, ℕ, zero, [], ◌∷◌, refl, proved, ftrue, flft, Fn, a_type, dcons, dnil, inst_fn, tables, ‵, raw, ◌⊛◌, ◌$◌, ◌∵◌, !, qed, by, move, keep, split, join, fsplit, fjoin, suffices, frame, rewrite, use0, no_more, and_then, returns, enter, alloc_all, pass_all, free_all, look_at, get, sets, agg, yes, RattleType, owns, types_at, plain, unit, nothing, param, bounded, Stays, stay_dropped, walk_of, ends_at, Goes-dropped, token, Mark, told, made, hears, hears_last, tells_all, mint_owns}
use Rattle.dmc_ledger.specs.contracts.token.BlankToken as Blank
use Rattle.dmc_ledger.specs.contracts.token.MintToken as Mint
use Rattle.dmc_ledger.specs.contracts.token.BlankToken.open.{ended, clauses}
use Rattle.dmc_ledger.specs.contracts.token.BlankToken.open.Key.{name as #self}
use Rattle.dmc_ledger.proofs.token.BlankToken.open.Statement.{statement}
use Rattle.dmc_ledger.proofs.token.BlankToken.open.Code as code

pub open_spec : {M : Type 1} → statement M
open_spec 𝓤 𝓛 𝓜 𝓡 wired S _ g d _ =
    let H = 𝓛.H in let 𝓣 = tables 𝓤 H 𝓜 𝓡 𝓡.env in let En = ended S g d in let inst = bounded (a_type ∷ []) (S, tt) (dcons d dnil) in let fn : Fn = inst_fn inst code.function in
    let c = clauses S g d 𝓛 𝓜.mem 𝓡.returns in let N : RattleType = Mint.the_row (param 0 S) g in let hs : Stays En.signature.params En.kept = (stay_dropped (plain (λ _. Blank.the_row)) yes, tt) in
    proved 𝓛 En hs c 𝓜 𝓡 (Goes-dropped 𝓛 1 (plain (λ _. Blank.the_row)) yes (λ κs x f. refl), tt) (#self inst) fn (code.unfolded 𝓤 H 𝓜 𝓡 wired (S, tt) d)
    (λ κs. ((λ x. token ∷ []), tt)) (λ κs. ((λ x vs is. told (Blank.the_type).name [] unit vs is.0), tt)) (λ κs qs bounds a gh are.
    let y : (walk_of 𝓛 En hs c).Ghost = ((κs, qs, bounds, a, (token ∷ [], tt)), gh) in let new : N.Denot = record { marker = record {}; opened = 0; listed = 0 } in
    qed 𝓛 (((‵ (flft κs.0 qs.0) ⊛ ‵ ftrue) ⊛ ‵ (owns (types_at En.signature.params κs) a y.0.4)) ∷ raw ((c κs a).requires gh) ∷ []) ∵ move ! (1 ∷ []) $ hears ! (λ _. hears_last ! (λ same. split ! $ move ! (1 ∷ []) $ fsplit ! $ fsplit ! $ keep ! (1 ∷ 3 ∷ []) $
    rewrite ! 0 (λ (k : ℕ). ‵ (mint_owns k 0 0)) same refl $ enter ! 𝓣.C 𝓣.Λ fn (token ∷ []) _ $ alloc_all ! (λ l. pass_all ! refl ((tt, (tt, tt)), tt) $
    sets ! (agg ! (no_more !)) refl (tt, tt) $ sets ! (agg ! (and_then ! (get ! refl) (no_more !))) refl (tt, (tt, tt)) $ returns ! (look_at ! 0 refl) $ free_all ! refl $ suffices ! _ (ends_at 𝓛 En hs c y token new (tt, tt) (tt, tt)) $
    use0 𝓛 (‵ ((Mark (Mint.the_type (param 0 S) g).name (param 0 S ∷ []) (param 0 S)).own_val (tt, tt) (token ∷ []))) (made (Mint.the_type (param 0 S) g).name (param 0 S ∷ []) (param 0 S) 𝓛) $ fjoin ! $
    nothing ! $ nothing ! $ fjoin ! $ join ! $ move ! (1 ∷ 0 ∷ []) $ join ! $ frame ! $ by ! (tells_all 𝓤 ((zero ≡ zero) ∷ (zero ≡ zero) ∷ []) (refl, refl))))))
