-- `gather` sets the book's row and empties the till's, in one opening of the rule.
use Rattle.dmc_ledger.proofs.Walks.{◌≡◌, ℕ, ◌+◌, ◌-◌, List, [], ◌∷◌, refl, arith, proved, ftrue, flft, Fn, a_type, dcons, dnil, named, Val, vunit, vptr, inst_fn, tables, ‵, raw, ◌⊛◌, given, later, ◌$◌, ◌∵◌, !, qed, by, move, keep, split, join, fsplit, fsplit3, fjoin, fjoin3, learn, suffices, frame, rewrite, use2, await, feq_i, unit_lit, of_opd, returns, enter, alloc_all, pass_all, free_all, look_at, sets, no, RattleType, owns, types_at, plain, mut_vals, mut_Tells, nothing, opens, closes, param, bounded, Stays, stay_dropped, stay_ref, walk_of, ends_at, Goes-dropped, Goes-ref, token, told, hears, hears_last, tells_all, book_owns, till_owns, Seen}
use Rattle.dmc_ledger.specs.contracts.token.BookToken as Book
use Rattle.dmc_ledger.specs.contracts.token.TillToken as Till
use Rattle.dmc_ledger.proofs.Ledger.{gathers}
use Rattle.dmc_ledger.specs.contracts.token.BookToken.gather.{ended, clauses}
use Rattle.dmc_ledger.specs.contracts.token.BookToken.gather.Key.{name as #self}
use Rattle.dmc_ledger.proofs.token.BookToken.gather.Statement.{statement}
use Rattle.dmc_ledger.proofs.token.BookToken.gather.Code as code

pub gather_spec : {M : Type 1} → statement M
gather_spec 𝓤 𝓛 𝓜 𝓡 wired S _ g d _ =
    let H = 𝓛.H in let 𝓣 = tables 𝓤 H 𝓜 𝓡 𝓡.env in let En = ended S g d in let inst = bounded (a_type ∷ []) (S, tt) (dcons d dnil) in let fn : Fn = inst_fn inst code.function in
    let c = clauses S g d 𝓛 𝓜.mem 𝓡.returns in let B : RattleType = Book.the_row (param 0 S) g in let T : RattleType = Till.the_row (param 0 S) g in
    let hs : Stays En.signature.params En.kept = (stay_ref (0 ∷ []) tt (plain (λ _. B)), (stay_dropped (plain (λ _. T)) no, tt)) in
    proved 𝓛 En hs c 𝓜 𝓡 (Goes-ref 𝓛 2 0 tt (plain (λ _. B)), (Goes-dropped 𝓛 2 (plain (λ _. T)) no (λ κs x f. refl), tt)) (#self inst) fn (code.unfolded 𝓤 H 𝓜 𝓡 wired (S, tt) d)
    (λ κs. (mut_vals, ((λ x. token ∷ []), tt))) (λ κs. (mut_Tells (named 0) κs.0 B, ((λ x vs is. told (Till.the_type (param 0 S) g).name (param 0 S ∷ []) (param 0 S) vs is.0), tt))) (λ κs qs bounds a gh are.
    let r = a.0 in let book : B.Denot = r.now in let till : T.Denot = a.1.0 in let u : Val = vptr r.ref_ptr.0 r.ref_ptr.1 in
    let y : (walk_of 𝓛 En hs c).Ghost = ((κs, qs, bounds, a, (u ∷ [], (token ∷ [], tt))), gh) in let book' : B.Denot = record book { tills = book.tills - 1; held = book.held - till.amount } in
    qed 𝓛 (((‵ (flft κs.0 qs.0) ⊛ ‵ (flft κs.1.0 qs.1.0) ⊛ ‵ ftrue) ⊛ ‵ (owns (types_at En.signature.params κs) a y.0.4)) ∷ raw ((c κs a).requires gh) ∷ []) ∵
    move ! (1 ∷ []) $ hears ! (λ _. hears_last ! (λ same. split ! $ split ! $ move ! (2 ∷ []) $ fsplit ! $ fsplit3 ! $ move ! (3 ∷ []) $ fsplit ! $ fsplit ! $ keep ! (4 ∷ 5 ∷ 6 ∷ 1 ∷ 7 ∷ []) $
    enter ! 𝓣.C 𝓣.Λ fn (u ∷ token ∷ []) _ $ alloc_all ! (λ l. pass_all ! refl ((tt, tt), ((tt, (tt, tt)), tt)) $
    opens ! tt B r.ref_ptr.0 r.ref_ptr.1 (λ cs. move ! (1 ∷ []) $ fsplit ! $ move ! (1 ∷ 6 ∷ []) $ rewrite ! 1 (λ (k : ℕ). ‵ (till_owns g.name k till.rows till.row till.amount)) same refl $
    use2 𝓛 (later (given (Seen (book.tills, book.held) (1, till.amount)) (‵ (book_owns g.name book.number book.rows (book.tills - 1) (book.held - till.amount)))))
    (gathers 𝓛 g.name book.number book.rows till.rows till.row book.tills book.held till.amount) $ await ! tt $ learn ! (λ seen. move ! (1 ∷ 0 ∷ []) $ fjoin ! $ move ! (1 ∷ 0 ∷ []) $ closes ! tt B book' cs r.ref_ptr.0 r.ref_ptr.1 $
    sets ! (of_opd ! (unit_lit !)) refl (tt, tt) $ returns ! (look_at ! 0 refl) $ free_all ! refl $ suffices ! _ (ends_at 𝓛 En hs c y vunit tt (book', (tt, tt)) (tt, (tt, tt))) $
    feq_i ! (List Val) (u ∷ []) (u ∷ []) refl $ fjoin3 ! $ nothing ! $ nothing ! $ fjoin ! $ move ! (1 ∷ 0 ∷ []) $ fjoin ! $ feq_i ! (List Val) (vunit ∷ []) (vunit ∷ []) refl $ move ! (1 ∷ 0 ∷ []) $ join ! $ move ! (1 ∷ 2 ∷ []) $ join ! $ join ! $ frame ! $
    let within = seen.0.0 in let one = seen.1 in
    by ! (tells_all 𝓤 ((book.number ≡ book.number) ∷ (book.tills - 1 + 1 ≡ book.tills) ∷ (book.held - till.amount + till.amount ≡ book.held) ∷ (book.tills - 1 ≡ 0 → book.held - till.amount ≡ 0) ∷ [])
    (refl, (omega arith, (omega arith, λ last. let all = seen.0.1 (omega arith) in omega arith))))))))))
