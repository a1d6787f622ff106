-- `new` takes the entry of the next number, and makes the list that it names.
use Rattle.dmc_ledger.proofs.Walks.{◌≡◌, ℕ, suc, ◌+◌, List, [], ◌∷◌, refl, arith, proved, ftrue, flft, fex, Fn, a_type, dcons, dnil, named, Val, vptr, inst_fn, tables, ‵, raw, ◌⊛◌, later, ◌$◌, ◌∵◌, !, qed, by, move, keep, split, join, fsplit, fsplit3, fjoin, fjoin3, fpick, suffices, frame, use0, use1, await, feq_i, no_more, and_then, returns, enter, alloc_all, pass_all, free_all, look_at, get, sets, agg, RattleType, owns, types_at, plain, mut_vals, mut_Tells, nothing, opens, closes, param, bounded, Stays, stay_ref, walk_of, ends_at, Goes-ref, token, Mark, made, tells_all, mint_owns}
use Rattle.dmc_ledger.specs.Growing.{blank_owns}
use Rattle.dmc_ledger.specs.contracts.token.MintToken as Mint
use Rattle.dmc_ledger.specs.contracts.growing.BlankList as Blank
use Rattle.dmc_ledger.proofs.GrowingLists.{opens_list}
use Rattle.dmc_ledger.specs.contracts.growing.BlankList.new.{ended, clauses}
use Rattle.dmc_ledger.specs.contracts.growing.BlankList.new.Key.{name as #self}
use Rattle.dmc_ledger.proofs.growing.BlankList.new.Statement.{statement}
use Rattle.dmc_ledger.proofs.growing.BlankList.new.Code as code

pub new_spec : {M : Type 1} → statement M
new_spec 𝓤 𝓛 𝓜 𝓡 wired S _ g d _ =
    let H = 𝓛.H in let 𝓣 = tables 𝓤 H 𝓜 𝓡 𝓡.env in let En = ended S g d in let inst = bounded (a_type ∷ []) (S, tt) (dcons d dnil) in let fn : Fn = inst_fn inst code.function in
    let c = clauses S g d 𝓛 𝓜.mem 𝓡.returns in let A : RattleType = Mint.the_row (param 0 S) g in let N : RattleType = Blank.the_row (param 0 S) g in
    let hs : Stays En.signature.params En.kept = (stay_ref (0 ∷ []) tt (plain (λ _. A)), tt) in
    proved 𝓛 En hs c 𝓜 𝓡 (Goes-ref 𝓛 2 0 tt (plain (λ _. A)), tt) (#self inst) fn (code.unfolded 𝓤 H 𝓜 𝓡 wired (S, tt) d)
    (λ κs. (mut_vals, tt)) (λ κs. (mut_Tells (named 0) κs.0 A, tt)) (λ κs qs bounds a gh are.
    let r = a.0 in let old : A.Denot = r.now in let u : Val = vptr r.ref_ptr.0 r.ref_ptr.1 in
    let y : (walk_of 𝓛 En hs c).Ghost = ((κs, qs, bounds, a, (u ∷ [], tt)), gh) in let old' : A.Denot = record old { listed = suc old.listed } in
    qed 𝓛 (((‵ (flft κs.0 qs.0) ⊛ ‵ (flft κs.1.0 qs.1.0) ⊛ ‵ ftrue) ⊛ ‵ (owns (types_at En.signature.params κs) a y.0.4)) ∷ raw ((c κs a).requires gh) ∷ []) ∵ split ! $ split ! $ move ! (2 ∷ []) $ fsplit ! $ fsplit3 ! $ keep ! (1 ∷ 2 ∷ 4 ∷ 5 ∷ []) $
    enter ! 𝓣.C 𝓣.Λ fn (u ∷ []) _ $ alloc_all ! (λ l. pass_all ! refl ((tt, tt), tt) $ opens ! tt A r.ref_ptr.0 r.ref_ptr.1 (λ cs. move ! (1 ∷ []) $ fsplit ! $ move ! (1 ∷ []) $
    use1 𝓛 (later (‵ (mint_owns g.name old.opened (suc old.listed)) ⊛ ‵ (fex ℕ (λ k. blank_owns g.name old.listed k)))) (opens_list 𝓛 g.name old.opened old.listed) $ await ! tt $ split ! $ move ! (1 ∷ []) $ fpick ! (λ k. let new : N.Denot = record { marker = record {}; number = old.listed; rows = k } in
    move ! (2 ∷ 1 ∷ []) $ fjoin ! $ move ! (2 ∷ 0 ∷ 3 ∷ 4 ∷ 5 ∷ []) $ closes ! tt A old' cs r.ref_ptr.0 r.ref_ptr.1 $
    sets ! (agg ! (no_more !)) refl (tt, tt) $ sets ! (agg ! (and_then ! (get ! refl) (no_more !))) refl (tt, (tt, tt)) $ returns ! (look_at ! 0 refl) $ free_all ! refl $ suffices ! _ (ends_at 𝓛 En hs c y token new (old', tt) (tt, tt)) $
    feq_i ! (List Val) (u ∷ []) (u ∷ []) refl $ fjoin3 ! $ nothing ! $ move ! (1 ∷ 0 ∷ []) $ fjoin ! $ move ! (2 ∷ []) $
    use0 𝓛 (‵ ((Mark (Blank.the_type (param 0 S) g).name (param 0 S ∷ []) (param 0 S)).own_val (tt, tt) (token ∷ []))) (made (Blank.the_type (param 0 S) g).name (param 0 S ∷ []) (param 0 S) 𝓛) $ fjoin ! $
    move ! (1 ∷ 0 ∷ []) $ join ! $ move ! (1 ∷ 2 ∷ []) $ join ! $ join ! $ frame ! $ by ! (tells_all 𝓤 ((old.listed ≡ old.listed) ∷ (suc old.listed ≡ old.listed + 1) ∷ (old.opened ≡ old.opened) ∷ []) (refl, (omega arith, refl)))))))
