-- `audit` compares a share of the book's row with one of the till's.
use Rattle.dmc_ledger.proofs.Walks.{◌≡◌, ℕ, suc, ◌<◌, ◌≤◌, List, [], ◌∷◌, refl, sym, arith, proved, Share, Fml, ftrue, flft, fshr_bor, Fn, a_type, dcons, dnil, named, Val, vunit, vptr, inst_fn, tables, ‵, raw, ◌⊛◌, given, later, ◌$◌, ◌∵◌, !, qed, by, move, keep, drop, split, join, fsplit, fjoin, learn, suffices, frame, rewrite, use1, await, feq_i, unit_lit, of_opd, returns, enter, alloc_all, pass_all, free_all, look_at, sets, shr_bor-open, obor_close, yes, RattleType, owns, types_at, plain, RefOf, unhide, shr_vals, shr_Tells, nothing, param, bounded, Stays, stay_dropped, walk_of, ends_at, Goes-dropped, hears, hears_last, tells_all, knows, row, Seen}
use Rattle.dmc_ledger.specs.contracts.token.BookToken as Book
use Rattle.dmc_ledger.specs.contracts.token.TillToken as Till
use Rattle.dmc_ledger.proofs.Ledger.{audited}
use Rattle.dmc_ledger.proofs.Shared.{row_halves, book_shown, till_shown}
use types.Kit.{group}
use Rattle.dmc_ledger.specs.contracts.token.BookToken.audit.{ended, clauses}
use Rattle.dmc_ledger.specs.contracts.token.BookToken.audit.Key.{name as #self}
use Rattle.dmc_ledger.proofs.token.BookToken.audit.Statement.{statement}
use Rattle.dmc_ledger.proofs.token.BookToken.audit.Code as code

pub audit_spec : {M : Type 1} → statement M
audit_spec 𝓤 𝓛 𝓜 𝓡 wired S _ g d _ =
    let H = 𝓛.H in let 𝓣 = tables 𝓤 H 𝓜 𝓡 𝓡.env in let En = ended S g d in let inst = bounded (a_type ∷ []) (S, tt) (dcons d dnil) in let fn : Fn = inst_fn inst code.function in
    let c = clauses S g d 𝓛 𝓜.mem 𝓡.returns in let B : RattleType = Book.the_row (param 0 S) g in let T : RattleType = Till.the_row (param 0 S) g in
    let self = RefOf (0 ∷ []) tt (plain (λ _. B)) (λ _. tt) in let other = RefOf (1 ∷ []) tt (plain (λ _. T)) (λ _. tt) in let hs : Stays En.signature.params En.kept = (stay_dropped self yes, (stay_dropped other yes, tt)) in
    proved 𝓛 En hs c 𝓜 𝓡 (Goes-dropped 𝓛 3 self yes (λ κs x f. refl), (Goes-dropped 𝓛 3 other yes (λ κs x f. refl), tt)) (#self inst) fn (code.unfolded 𝓤 H 𝓜 𝓡 wired (S, tt) d)
    (λ κs. (shr_vals, (shr_vals, tt))) (λ κs. (shr_Tells (named 0) κs.0 B, (shr_Tells (named 1) κs.1.0 T, tt))) (λ κs qs bounds a gh are.
    let r = a.0 in let s = a.1.0 in let book : B.Denot = r.now in let till : T.Denot = s.now in let u : Val = vptr r.ref_ptr.0 r.ref_ptr.1 in let v : Val = vptr s.ref_ptr.0 s.ref_ptr.1 in
    let y : (walk_of 𝓛 En hs c).Ghost = ((κs, qs, bounds, a, (u ∷ [], (v ∷ [], tt))), gh) in
    let x : ℕ × ℕ = (book.tills, book.held) in let z : ℕ × ℕ = (1, till.amount) in let Φ : Share → Fml = row book.rows 0 x in let Ψ : Share → Fml = row till.rows (suc till.row) z in
    let K : ℕ → Fml = λ k. knows g.name k till.rows in
    qed 𝓛 (((‵ (flft κs.0 qs.0) ⊛ ‵ (flft κs.1.0 qs.1.0) ⊛ ‵ (flft κs.1.1.0 qs.1.1.0) ⊛ ‵ ftrue) ⊛ ‵ (owns (types_at En.signature.params κs) a y.0.4)) ∷ raw ((c κs a).requires gh) ∷ []) ∵
    move ! (1 ∷ []) $ hears ! (λ _. hears_last ! (λ same. split ! $ split ! $ move ! (1 ∷ []) $ split ! $ move ! (3 ∷ []) $ fsplit ! $ fsplit ! $ drop ! $ unhide ! $ fsplit ! $ drop ! $
    use1 𝓛 (‵ (knows g.name book.number book.rows) ⊛ ‵ (fshr_bor κs.0 Φ)) (book_shown g.name book.number book.rows book.tills book.held 𝓛 κs.0) $ split ! $
    move ! (2 ∷ []) $ fsplit ! $ fsplit ! $ drop ! $ unhide ! $ fsplit ! $ drop ! $
    use1 𝓛 (‵ (K till.number) ⊛ ‵ (fshr_bor κs.1.0 Ψ)) (till_shown g.name till.number till.rows till.row till.amount 𝓛 κs.1.0) $ split ! $ rewrite ! 0 (λ (k : ℕ). ‵ (K k)) same refl $
    -- [what each shares, with its token; what both know; the other tokens]
    keep ! (4 ∷ 7 ∷ 1 ∷ 5 ∷ 3 ∷ 0 ∷ 6 ∷ []) $ enter ! 𝓣.C 𝓣.Λ fn (u ∷ v ∷ []) _ $ alloc_all ! (λ l. pass_all ! refl ((tt, tt), ((tt, tt), tt)) $
    shr_bor-open ! tt {Φ = Φ} (row_halves g.name book.number book.rows 0 x 𝓛) (λ q. move ! (2 ∷ 3 ∷ []) $ shr_bor-open ! tt {Φ = Ψ} (row_halves g.name till.number till.rows (suc till.row) z 𝓛) (λ p. move ! (4 ∷ 3 ∷ 5 ∷ 1 ∷ []) $ group ! 4 $
    use1 𝓛 (later (given (Seen x z) (‵ (Φ q) ⊛ ‵ (Ψ p)))) (audited 𝓛 g.name book.number book.rows till.rows till.row book.tills book.held till.amount q p) $ await ! tt $ learn ! (λ seen. split ! $
    move ! (3 ∷ 0 ∷ []) $ obor_close ! tt $ move ! (3 ∷ 2 ∷ []) $ obor_close ! tt $
    sets ! (of_opd ! (unit_lit !)) refl (tt, tt) $ returns ! (look_at ! 0 refl) $ free_all ! refl $ suffices ! _ (ends_at 𝓛 En hs c y vunit tt (tt, (tt, tt)) (tt, (tt, tt))) $ keep ! (3 ∷ 1 ∷ 4 ∷ []) $
    nothing ! $ nothing ! $ fjoin ! $ nothing ! $ fjoin ! $ feq_i ! (List Val) (vunit ∷ []) (vunit ∷ []) refl $ move ! (1 ∷ 0 ∷ []) $ join ! $ move ! (2 ∷ 3 ∷ []) $ join ! $ move ! (2 ∷ 0 ∷ []) $ join ! $ join ! $ frame ! $
    let within = seen.0.0 in let one = seen.1 in
    by ! (tells_all 𝓤 ((0 < book.tills) ∷ (till.amount ≤ book.held) ∷ (book.tills ≡ 1 → till.amount ≡ book.held) ∷ []) (omega arith, (within, λ alone. seen.0.1 (sym alone)))))))))))
