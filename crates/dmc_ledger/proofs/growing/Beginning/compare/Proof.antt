-- `compare` joins what both show.
use Rattle.dmc_ledger.proofs.Walks.{ℕ, List, [], ◌∷◌, refl, proved, ftrue, flft, tables, Fn, a_type, dcons, dnil, named, Val, vunit, vptr, inst_fn, bounded, param, RattleType, ‵, raw, ◌⊛◌, given, ◌$◌, ◌∵◌, !, qed, move, keep, drop, split, join, fsplit, fjoin, learn, suffices, frame, rewrite, use2, feq_i, unit_lit, of_opd, returns, enter, alloc_all, pass_all, free_all, look_at, sets, yes, owns, types_at, plain, RefOf, unhide, shr_vals, shr_Tells, nothing, Stays, stay_dropped, walk_of, ends_at, Goes-dropped, hears, hears_last, tells_last}
use Rattle.std.specs.Prelude.{◌⊎◌}
use mathlib.Core.List.{IsPrefix}
use base.Logic.{emp}
use Rattle.dmc_ledger.specs.Growing.{beginning_owns}
use Rattle.dmc_ledger.specs.contracts.growing.Beginning as Beginning
use Rattle.dmc_ledger.proofs.GrowingLists.{compared}
use Rattle.dmc_ledger.specs.contracts.growing.Beginning.compare.{ended, clauses}
use Rattle.dmc_ledger.specs.contracts.growing.Beginning.compare.Key.{name as #self}
use Rattle.dmc_ledger.proofs.growing.Beginning.compare.Statement.{statement}
use Rattle.dmc_ledger.proofs.growing.Beginning.compare.Code as code

pub compare_spec : {M : Type 1} → statement M
compare_spec 𝓤 𝓛 𝓜 𝓡 wired T U _ _ g d _ =
    let H = 𝓛.H in let 𝓣 = tables 𝓤 H 𝓜 𝓡 𝓡.env in let X : RattleType = param 0 T in let Y : RattleType = param 1 U in
    let En = ended T U g d in let inst = bounded (a_type ∷ a_type ∷ []) (T, (U, tt)) (dcons d dnil) in let fn : Fn = inst_fn inst code.function in
    let c = clauses T U g d 𝓛 𝓜.mem 𝓡.returns in let R : RattleType = Beginning.the_row X Y g in
    let self = RefOf (0 ∷ []) tt (plain (λ _. R)) (λ _. tt) in let other = RefOf (1 ∷ []) tt (plain (λ _. R)) (λ _. tt) in
    let hs : Stays En.signature.params En.kept = (stay_dropped self yes, (stay_dropped other yes, tt)) in
    proved 𝓛 En hs c 𝓜 𝓡 (Goes-dropped 𝓛 4 self yes (λ κs x f. refl), (Goes-dropped 𝓛 4 other yes (λ κs x f. refl), tt)) (#self inst) fn (code.unfolded 𝓤 H 𝓜 𝓡 wired (T, (U, tt)) d)
    (λ κs. (shr_vals, (shr_vals, tt))) (λ κs. (shr_Tells (named 0) κs.0 R, (shr_Tells (named 1) κs.1.0 R, tt))) (λ κs qs bounds a gh are.
    let r = a.0 in let s = a.1.0 in let one : R.Denot = r.now in let two : R.Denot = s.now in let u : Val = vptr r.ref_ptr.0 r.ref_ptr.1 in let v : Val = vptr s.ref_ptr.0 s.ref_ptr.1 in
    let y : (walk_of 𝓛 En hs c).Ghost = ((κs, qs, bounds, a, (u ∷ [], (v ∷ [], tt))), gh) in
    let toks = ‵ (flft κs.0 qs.0) ⊛ ‵ (flft κs.1.0 qs.1.0) ⊛ ‵ (flft κs.1.1.0 qs.1.1.0) ⊛ ‵ (flft κs.1.1.1.0 qs.1.1.1.0) ⊛ ‵ ftrue in
    qed 𝓛 ((toks ⊛ ‵ (owns (types_at En.signature.params κs) a y.0.4)) ∷ raw ((c κs a).requires gh) ∷ []) ∵
    move ! (1 ∷ []) $ hears ! (λ _. hears ! (λ _. hears_last ! (λ same. split ! $ move ! (1 ∷ []) $ fsplit ! $ fsplit ! $ drop ! $ unhide ! $ fsplit ! $ drop ! $
    move ! (1 ∷ []) $ fsplit ! $ fsplit ! $ drop ! $ unhide ! $ fsplit ! $ drop ! $
    keep ! (2 ∷ 0 ∷ 3 ∷ []) $ rewrite ! 1 (λ (k : ℕ). ‵ (beginning_owns X.coded.code g.name k two.rows two.list)) same refl $
    use2 𝓛 (given (IsPrefix one.list two.list ⊎ IsPrefix two.list one.list) (raw (emp 𝓤))) (compared 𝓛 X.coded g.name one.number one.rows two.rows one.list two.list) $ learn ! (λ either. drop ! $
    enter ! 𝓣.C 𝓣.Λ fn (u ∷ v ∷ []) _ $ alloc_all ! (λ l. pass_all ! refl ((tt, tt), ((tt, tt), tt)) $
    sets ! (of_opd ! (unit_lit !)) refl (tt, tt) $ returns ! (look_at ! 0 refl) $ free_all ! refl $ suffices ! _ (ends_at 𝓛 En hs c y vunit tt (tt, (tt, tt)) (tt, (tt, tt))) $
    nothing ! $ nothing ! $ fjoin ! $ nothing ! $ fjoin ! $ feq_i ! (List Val) (vunit ∷ []) (vunit ∷ []) refl $ move ! (1 ∷ 0 ∷ []) $ join ! $ move ! (1 ∷ 0 ∷ []) $ join ! $ frame ! $ tells_last ! either))))))
