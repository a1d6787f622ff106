-- `add` pushes to the list, and shows all of it.
use Rattle.dmc_ledger.proofs.Walks.{◌≡◌, List, [], ◌∷◌, refl, proved, ftrue, flft, tables, Fn, a_type, dcons, dnil, named, Val, vptr, inst_fn, bounded, param, RattleType, ‵, raw, ◌⊛◌, later, ◌$◌, ◌∵◌, !, qed, by, move, keep, split, join, fsplit, fsplit3, fjoin, fjoin3, suffices, frame, use0, use1, await, feq_i, no_more, and_then, returns, enter, alloc_all, pass_all, free_all, look_at, get, sets, agg, yes, owns, types_at, plain, RefOf, mut_vals, mut_Tells, shr_vals, shr_Tells, nothing, opens, closes, Stays, stay_dropped, stay_ref, walk_of, ends_at, Goes-dropped, Goes-ref, token, Mark, made, tells_all}
use Rattle.std.proofs.Common.{◌++◌}
use denote.Struct.Tuple.{Tuple}
use Rattle.dmc_ledger.specs.Growing.{list_owns, beginning_owns}
use Rattle.dmc_ledger.specs.contracts.growing.GrowingList as GrowingList
use Rattle.dmc_ledger.specs.contracts.growing.Beginning as Beginning
use Rattle.dmc_ledger.proofs.GrowingLists.{pushes}
use Rattle.dmc_ledger.specs.contracts.growing.GrowingList.push.{ended, clauses}
use Rattle.dmc_ledger.specs.contracts.growing.GrowingList.push.Key.{name as #self}
use Rattle.dmc_ledger.proofs.growing.GrowingList.push.Statement.{statement}
use Rattle.dmc_ledger.proofs.growing.GrowingList.push.Code as code

pub push_spec : {M : Type 1} → statement M
push_spec 𝓤 𝓛 𝓜 𝓡 wired T U _ _ g d _ =
    let H = 𝓛.H in let 𝓣 = tables 𝓤 H 𝓜 𝓡 𝓡.env in let X : RattleType = param 0 T in let Y : RattleType = param 1 U in let All : RattleType = Tuple (X ∷ Y ∷ []) in
    let En = ended T U g d in let inst = bounded (a_type ∷ a_type ∷ []) (T, (U, tt)) (dcons d dnil) in let fn : Fn = inst_fn inst code.function in
    let c = clauses T U g d 𝓛 𝓜.mem 𝓡.returns in let S : RattleType = GrowingList.the_row X Y g in let R : RattleType = Beginning.the_row X Y g in
    let other = RefOf (1 ∷ []) tt (plain (λ _. X)) (λ _. tt) in let hs : Stays En.signature.params En.kept = (stay_ref (0 ∷ []) tt (plain (λ _. S)), (stay_dropped other yes, tt)) in
    proved 𝓛 En hs c 𝓜 𝓡 (Goes-ref 𝓛 4 0 tt (plain (λ _. S)), (Goes-dropped 𝓛 4 other yes (λ κs x f. refl), tt)) (#self inst) fn (code.unfolded 𝓤 H 𝓜 𝓡 wired (T, (U, tt)) d)
    (λ κs. (mut_vals, (shr_vals, tt))) (λ κs. (mut_Tells (named 0) κs.0 S, (shr_Tells (named 1) κs.1.0 X, tt))) (λ κs qs bounds a gh are.
    let r = a.0 in let s = a.1.0 in let old : S.Denot = r.now in let u : Val = vptr r.ref_ptr.0 r.ref_ptr.1 in let v : Val = vptr s.ref_ptr.0 s.ref_ptr.1 in
    let y : (walk_of 𝓛 En hs c).Ghost = ((κs, qs, bounds, a, (u ∷ [], (v ∷ [], tt))), gh) in
    let all : List X.Denot = old.list ++ s.now ∷ [] in let old' : S.Denot = record old { list = all } in let new : R.Denot = record { marker = record {}; number = old.number; rows = old.rows; list = all } in
    qed 𝓛 (((‵ (flft κs.0 qs.0) ⊛ ‵ (flft κs.1.0 qs.1.0) ⊛ ‵ (flft κs.1.1.0 qs.1.1.0) ⊛ ‵ (flft κs.1.1.1.0 qs.1.1.1.0) ⊛ ‵ ftrue) ⊛ ‵ (owns (types_at En.signature.params κs) a y.0.4)) ∷ raw ((c κs a).requires gh) ∷ []) ∵
    keep ! (0 ∷ []) $ split ! $ split ! $ move ! (2 ∷ []) $ fsplit ! $ fsplit3 ! $ keep ! (1 ∷ 2 ∷ 4 ∷ 5 ∷ []) $
    enter ! 𝓣.C 𝓣.Λ fn (u ∷ v ∷ []) _ $ alloc_all ! (λ l. pass_all ! refl ((tt, tt), ((tt, tt), tt)) $ opens ! tt S r.ref_ptr.0 r.ref_ptr.1 (λ cs. move ! (1 ∷ []) $ fsplit ! $ move ! (1 ∷ []) $
    use1 𝓛 (later (‵ (list_owns X.coded.code g.name old.number old.rows all) ⊛ ‵ (beginning_owns X.coded.code g.name old.number old.rows all))) (pushes 𝓛 X.coded g.name old.number old.rows old.list s.now) $ await ! tt $ split ! $
    move ! (2 ∷ 0 ∷ []) $ fjoin ! $ move ! (2 ∷ 0 ∷ 3 ∷ 4 ∷ 5 ∷ []) $ closes ! tt S old' cs r.ref_ptr.0 r.ref_ptr.1 $
    sets ! (agg ! (no_more !)) refl (tt, tt) $ sets ! (agg ! (and_then ! (get ! refl) (no_more !))) refl (tt, (tt, tt)) $ returns ! (look_at ! 0 refl) $ free_all ! refl $ suffices ! _ (ends_at 𝓛 En hs c y token new (old', (tt, tt)) (tt, (tt, tt))) $
    feq_i ! (List Val) (u ∷ []) (u ∷ []) refl $ fjoin3 ! $ nothing ! $ nothing ! $ fjoin ! $ move ! (1 ∷ 0 ∷ []) $ fjoin ! $ move ! (2 ∷ []) $
    use0 𝓛 (‵ ((Mark (Beginning.the_type X Y g).name (X ∷ Y ∷ []) All).own_val (tt, tt) (token ∷ []))) (made (Beginning.the_type X Y g).name (X ∷ Y ∷ []) All 𝓛) $ fjoin ! $
    move ! (1 ∷ 0 ∷ []) $ join ! $ move ! (1 ∷ 2 ∷ []) $ join ! $ join ! $ frame ! $
    by ! (tells_all 𝓤 ((old.number ≡ old.number) ∷ (◌≡◌ {A = List X.Denot} all all) ∷ (old.number ≡ old.number) ∷ (◌≡◌ {A = List X.Denot} all all) ∷ []) (refl, (refl, (refl, refl)))))))
