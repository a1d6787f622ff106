-- `open` passes on what the blank list owns: a list that has no item is one of any type.
use Rattle.dmc_ledger.proofs.Walks.{◌≡◌, List, [], ◌∷◌, refl, proved, ftrue, flft, Fn, a_type, dcons, dnil, inst_fn, tables, ‵, raw, ◌⊛◌, ◌$◌, ◌∵◌, !, qed, by, move, keep, split, join, fsplit, fjoin, suffices, frame, use0, use1, no_more, and_then, returns, enter, alloc_all, pass_all, free_all, look_at, get, sets, agg, no, RattleType, owns, types_at, plain, nothing, param, bounded, Stays, stay_dropped, walk_of, ends_at, Goes-dropped, token, Mark, told, made, tells_all}
use denote.Struct.Tuple.{Tuple}
use Rattle.dmc_ledger.specs.Growing.{list_owns}
use Rattle.dmc_ledger.specs.contracts.growing.BlankList as Blank
use Rattle.dmc_ledger.specs.contracts.growing.GrowingList as GrowingList
use Rattle.dmc_ledger.proofs.GrowingLists.{typed_list}
use Rattle.dmc_ledger.specs.contracts.growing.BlankList.open.{ended, clauses}
use Rattle.dmc_ledger.specs.contracts.growing.BlankList.open.Key.{name as #self}
use Rattle.dmc_ledger.proofs.growing.BlankList.open.Statement.{statement}
use Rattle.dmc_ledger.proofs.growing.BlankList.open.Code as code

pub open_spec : {M : Type 1} → statement M
open_spec 𝓤 𝓛 𝓜 𝓡 wired S T _ _ g d _ =
    let H = 𝓛.H in let 𝓣 = tables 𝓤 H 𝓜 𝓡 𝓡.env in let En = ended S T g d in let inst = bounded (a_type ∷ a_type ∷ []) (S, (T, tt)) (dcons d dnil) in let fn : Fn = inst_fn inst code.function in
    let Y : RattleType = param 0 S in let X : RattleType = param 1 T in let All : RattleType = Tuple (X ∷ Y ∷ []) in
    let c = clauses S T g d 𝓛 𝓜.mem 𝓡.returns in let A : RattleType = Blank.the_row Y g in let N : RattleType = GrowingList.the_row X Y g in let hs : Stays En.signature.params En.kept = (stay_dropped (plain (λ _. A)) no, tt) in
    proved 𝓛 En hs c 𝓜 𝓡 (Goes-dropped 𝓛 2 (plain (λ _. A)) no (λ κs x f. refl), tt) (#self inst) fn (code.unfolded 𝓤 H 𝓜 𝓡 wired (S, (T, tt)) d)
    (λ κs. ((λ x. token ∷ []), tt)) (λ κs. ((λ x vs is. told (Blank.the_type Y g).name (Y ∷ []) Y vs is.0), tt)) (λ κs qs bounds a gh are.
    let y : (walk_of 𝓛 En hs c).Ghost = ((κs, qs, bounds, a, (token ∷ [], tt)), gh) in let old : A.Denot = a.0 in let new : N.Denot = record { marker = record {}; number = old.number; rows = old.rows; list = [] } in
    qed 𝓛 (((‵ (flft κs.0 qs.0) ⊛ ‵ (flft κs.1.0 qs.1.0) ⊛ ‵ ftrue) ⊛ ‵ (owns (types_at En.signature.params κs) a y.0.4)) ∷ raw ((c κs a).requires gh) ∷ []) ∵ split ! $ move ! (1 ∷ []) $ fsplit ! $ fsplit ! $ keep ! (1 ∷ 3 ∷ []) $
    use1 𝓛 (‵ (list_owns X.coded.code g.name old.number old.rows [])) (typed_list 𝓛 X.coded g.name old.number old.rows) $ enter ! 𝓣.C 𝓣.Λ fn (token ∷ []) _ $ alloc_all ! (λ l. pass_all ! refl ((tt, (tt, tt)), tt) $
    sets ! (agg ! (no_more !)) refl (tt, tt) $ sets ! (agg ! (and_then ! (get ! refl) (no_more !))) refl (tt, (tt, tt)) $ returns ! (look_at ! 0 refl) $ free_all ! refl $ suffices ! _ (ends_at 𝓛 En hs c y token new (tt, tt) (tt, tt)) $
    use0 𝓛 (‵ ((Mark (GrowingList.the_type X Y g).name (X ∷ Y ∷ []) All).own_val (tt, tt) (token ∷ []))) (made (GrowingList.the_type X Y g).name (X ∷ Y ∷ []) All 𝓛) $ fjoin ! $
    nothing ! $ nothing ! $ fjoin ! $ join ! $ move ! (1 ∷ 0 ∷ []) $ join ! $ frame ! $ by ! (tells_all 𝓤 ((old.number ≡ old.number) ∷ (◌≡◌ {A = List X.Denot} [] []) ∷ []) (refl, refl))))
