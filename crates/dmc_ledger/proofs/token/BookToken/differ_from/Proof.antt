-- `differ_from` compares the book's own row with a share of the other's.
use Rattle.dmc_ledger.proofs.Walks.{◌≡◌, ◌≢◌, ℕ, List, [], ◌∷◌, refl, proved, Share, Fml, ftrue, flft, fshr_bor, Fn, a_type, dcons, dnil, named, Val, vunit, vptr, inst_fn, tables, ‵, raw, ◌⊛◌, given, later, ◌$◌, ◌∵◌, !, qed, by, move, keep, drop, split, join, fsplit, fsplit3, fjoin, fjoin3, learn, suffices, frame, use1, use3, await, feq_i, unit_lit, of_opd, returns, enter, alloc_all, pass_all, free_all, look_at, sets, shr_bor-open, obor_close, yes, RattleType, owns, types_at, plain, RefOf, unhide, mut_vals, mut_Tells, shr_vals, shr_Tells, nothing, opens, closes, param, bounded, Stays, stay_dropped, stay_ref, walk_of, ends_at, Goes-dropped, Goes-ref, tells_all, knows, row, book_owns}
use Rattle.dmc_ledger.specs.contracts.token.BookToken as Book
use Rattle.dmc_ledger.proofs.Ledger.{differs}
use Rattle.dmc_ledger.proofs.Shared.{row_halves, book_shown}
use Rattle.dmc_ledger.specs.contracts.token.BookToken.differ_from.{ended, clauses}
use Rattle.dmc_ledger.specs.contracts.token.BookToken.differ_from.Key.{name as #self}
use Rattle.dmc_ledger.proofs.token.BookToken.differ_from.Statement.{statement}
use Rattle.dmc_ledger.proofs.token.BookToken.differ_from.Code as code

pub differ_from_spec : {M : Type 1} → statement M
differ_from_spec 𝓤 𝓛 𝓜 𝓡 wired S _ g d _ =
    let H = 𝓛.H in let 𝓣 = tables 𝓤 H 𝓜 𝓡 𝓡.env in let En = ended S g d in let inst = bounded (a_type ∷ []) (S, tt) (dcons d dnil) in let fn : Fn = inst_fn inst code.function in
    let c = clauses S g d 𝓛 𝓜.mem 𝓡.returns in let B : RattleType = Book.the_row (param 0 S) g in
    let shared = RefOf (1 ∷ []) tt (plain (λ _. B)) (λ _. tt) in let hs : Stays En.signature.params En.kept = (stay_ref (0 ∷ []) tt (plain (λ _. B)), (stay_dropped shared yes, tt)) in
    proved 𝓛 En hs c 𝓜 𝓡 (Goes-ref 𝓛 3 0 tt (plain (λ _. B)), (Goes-dropped 𝓛 3 shared yes (λ κs x f. refl), tt)) (#self inst) fn (code.unfolded 𝓤 H 𝓜 𝓡 wired (S, tt) d)
    (λ κs. (mut_vals, (shr_vals, tt))) (λ κs. (mut_Tells (named 0) κs.0 B, (shr_Tells (named 1) κs.1.0 B, tt))) (λ κs qs bounds a gh are.
    let r = a.0 in let s = a.1.0 in let book : B.Denot = r.now in let other : B.Denot = s.now in let u : Val = vptr r.ref_ptr.0 r.ref_ptr.1 in let v : Val = vptr s.ref_ptr.0 s.ref_ptr.1 in
    let y : (walk_of 𝓛 En hs c).Ghost = ((κs, qs, bounds, a, (u ∷ [], (v ∷ [], tt))), gh) in
    let z : ℕ × ℕ = (other.tills, other.held) in let Φ : Share → Fml = row other.rows 0 z in let Mine : Fml = book_owns g.name book.number book.rows book.tills book.held in
    qed 𝓛 (((‵ (flft κs.0 qs.0) ⊛ ‵ (flft κs.1.0 qs.1.0) ⊛ ‵ (flft κs.1.1.0 qs.1.1.0) ⊛ ‵ ftrue) ⊛ ‵ (owns (types_at En.signature.params κs) a y.0.4)) ∷ raw ((c κs a).requires gh) ∷ []) ∵
    split ! $ split ! $ move ! (1 ∷ []) $ split ! $ move ! (3 ∷ []) $ fsplit ! $ fsplit3 ! $ drop ! $ move ! (2 ∷ []) $ fsplit ! $ fsplit ! $ drop ! $ unhide ! $ fsplit ! $ drop ! $
    use1 𝓛 (‵ (knows g.name other.number other.rows) ⊛ ‵ (fshr_bor κs.1.0 Φ)) (book_shown g.name other.number other.rows other.tills other.held 𝓛 κs.1.0) $ split ! $
    keep ! (3 ∷ 4 ∷ 7 ∷ 0 ∷ 1 ∷ 5 ∷ 6 ∷ []) $ enter ! 𝓣.C 𝓣.Λ fn (u ∷ v ∷ []) _ $ alloc_all ! (λ l. pass_all ! refl ((tt, tt), ((tt, tt), tt)) $
    move ! (4 ∷ 5 ∷ []) $ shr_bor-open ! tt {Φ = Φ} (row_halves g.name other.number other.rows 0 z 𝓛) (λ q. move ! (2 ∷ 3 ∷ 4 ∷ []) $
    opens ! tt B r.ref_ptr.0 r.ref_ptr.1 (λ cs. move ! (1 ∷ []) $ fsplit ! $ move ! (1 ∷ 8 ∷ 7 ∷ []) $
    use3 𝓛 (later (given (book.number ≢ other.number) (‵ Mine ⊛ ‵ (Φ q)))) (differs 𝓛 g.name book.number other.number book.rows other.rows book.tills book.held z q) $ await ! tt $ learn ! (λ apart. split ! $
    move ! (7 ∷ 1 ∷ []) $ obor_close ! tt $ move ! (3 ∷ 2 ∷ []) $ fjoin ! $ move ! (3 ∷ 0 ∷ 4 ∷ 5 ∷ 6 ∷ []) $ closes ! tt B book cs r.ref_ptr.0 r.ref_ptr.1 $
    sets ! (of_opd ! (unit_lit !)) refl (tt, tt) $ returns ! (look_at ! 0 refl) $ free_all ! refl $ suffices ! _ (ends_at 𝓛 En hs c y vunit tt (book, (tt, tt)) (tt, (tt, tt))) $
    feq_i ! (List Val) (u ∷ []) (u ∷ []) refl $ fjoin3 ! $ keep ! (0 ∷ 1 ∷ 3 ∷ 4 ∷ []) $ nothing ! $ nothing ! $ fjoin ! $ move ! (1 ∷ 0 ∷ []) $ fjoin ! $ feq_i ! (List Val) (vunit ∷ []) (vunit ∷ []) refl $
    move ! (1 ∷ 0 ∷ []) $ join ! $ move ! (2 ∷ 3 ∷ []) $ join ! $ move ! (2 ∷ 0 ∷ []) $ join ! $ join ! $ frame ! $
    by ! (tells_all 𝓤 ((book.number ≢ other.number) ∷ (book.number ≡ book.number) ∷ (book.tills ≡ book.tills) ∷ (book.held ≡ book.held) ∷ []) (apart, (refl, (refl, refl)))))))))
