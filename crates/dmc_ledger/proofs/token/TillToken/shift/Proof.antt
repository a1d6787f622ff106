-- `shift` sets the rows of two tills in one opening of the rule.
use Rattle.dmc_ledger.proofs.Walks.{◌≡◌, ℕ, ◌+◌, ◌-◌, ◌≤◌, ◌^◌, List, [], ◌∷◌, refl, sym, w64, arith, proved, Fml, ftrue, flft, Fn, a_type, dcons, dnil, named, Val, vunit, vint, vptr, inst_fn, tables, ‵, raw, ◌⊛◌, given, later, ◌$◌, ◌∵◌, !, qed, by, move, keep, drop, split, join, fsplit, fsplit3, fjoin, fjoin3, learn, suffices, frame, rewrite, use2, await, feq_i, unit_lit, of_opd, returns, enter, alloc_all, pass_all, free_all, look_at, sets, yes, RattleType, owns, types_at, plain, u64, uint_vals, uint_Tells, mut_vals, mut_Tells, nothing, opens, closes, param, bounded, Stays, stay_dropped, stay_ref, walk_of, ends_at, Goes-dropped, Goes-ref, hears, hears_last, tells_all, till_owns}
use Rattle.dmc_ledger.specs.contracts.token.BookToken as Book
use Rattle.dmc_ledger.specs.contracts.token.TillToken as Till
use Rattle.dmc_ledger.proofs.Ledger.{shifted}
use Rattle.dmc_ledger.specs.contracts.token.TillToken.shift.{ended, clauses}
use Rattle.dmc_ledger.specs.contracts.token.TillToken.shift.Key.{name as #self}
use Rattle.dmc_ledger.proofs.token.TillToken.shift.Statement.{statement}
use Rattle.dmc_ledger.proofs.token.TillToken.shift.Code as code

pub shift_spec : {M : Type 1} → statement M
shift_spec 𝓤 𝓛 𝓜 𝓡 wired S _ g d _ =
    let H = 𝓛.H in let 𝓣 = tables 𝓤 H 𝓜 𝓡 𝓡.env in let En = ended S g d in let inst = bounded (a_type ∷ []) (S, tt) (dcons d dnil) in let fn : Fn = inst_fn inst code.function in
    let c = clauses S g d 𝓛 𝓜.mem 𝓡.returns in let B : RattleType = Book.the_row (param 0 S) g in let T : RattleType = Till.the_row (param 0 S) g in
    let hs : Stays En.signature.params En.kept = (stay_ref (0 ∷ []) tt (plain (λ _. T)), (stay_ref (1 ∷ []) tt (plain (λ _. T)), (stay_dropped (plain (λ _. u64)) yes, tt))) in
    proved 𝓛 En hs c 𝓜 𝓡 (Goes-ref 𝓛 3 0 tt (plain (λ _. T)), (Goes-ref 𝓛 3 1 tt (plain (λ _. T)), (Goes-dropped 𝓛 3 (plain (λ _. u64)) yes (λ κs x f. refl), tt))) (#self inst) fn (code.unfolded 𝓤 H 𝓜 𝓡 wired (S, tt) d)
    (λ κs. (mut_vals, (mut_vals, (uint_vals w64, tt)))) (λ κs. (mut_Tells (named 0) κs.0 T, (mut_Tells (named 1) κs.1.0 T, (uint_Tells w64, tt)))) (λ κs qs bounds a gh are.
    let r = a.0 in let s = a.1.0 in let from : T.Denot = r.now in let to : T.Denot = s.now in let n : ℕ = a.1.1.0 in
    let u : Val = vptr r.ref_ptr.0 r.ref_ptr.1 in let v : Val = vptr s.ref_ptr.0 s.ref_ptr.1 in
    let y : (walk_of 𝓛 En hs c).Ghost = ((κs, qs, bounds, a, (u ∷ [], (v ∷ [], (vint w64 n ∷ [], tt)))), gh) in
    let from' : T.Denot = record from { amount = from.amount - n } in let to' : T.Denot = record to { amount = to.amount + n } in
    let Held : ℕ → ℕ → Fml = λ k m. till_owns g.name k to.rows to.row m in
    qed 𝓛 (((‵ (flft κs.0 qs.0) ⊛ ‵ (flft κs.1.0 qs.1.0) ⊛ ‵ (flft κs.1.1.0 qs.1.1.0) ⊛ ‵ ftrue) ⊛ ‵ (owns (types_at En.signature.params κs) a y.0.4)) ∷ raw ((c κs a).requires gh) ∷ []) ∵
    move ! (1 ∷ []) $ hears ! (λ _. hears ! (λ same. hears_last ! (λ has. split ! $ split ! $ move ! (1 ∷ []) $ split ! $ move ! (3 ∷ []) $ fsplit ! $ fsplit3 ! $ drop ! $ move ! (2 ∷ []) $ fsplit ! $ fsplit3 ! $ drop ! $
    keep ! (3 ∷ 4 ∷ 7 ∷ 0 ∷ 1 ∷ 5 ∷ 6 ∷ []) $ enter ! 𝓣.C 𝓣.Λ fn (u ∷ v ∷ vint w64 n ∷ []) _ $ alloc_all ! (λ l. pass_all ! refl ((tt, tt), ((tt, tt), ((tt, record { fits = are.1.1.0.1 }), tt))) $
    opens ! tt T r.ref_ptr.0 r.ref_ptr.1 (λ cs. move ! (5 ∷ 6 ∷ 7 ∷ []) $ opens ! tt T s.ref_ptr.0 s.ref_ptr.1 (λ ds. move ! (1 ∷ []) $ fsplit ! $ move ! (7 ∷ []) $ fsplit ! $ move ! (1 ∷ 3 ∷ []) $
    rewrite ! 1 (λ (k : ℕ). ‵ (Held k to.amount)) same refl $
    use2 𝓛 (later (given (from.amount + to.amount ≤ 2 ^ 63) (‵ (till_owns g.name from.number from.rows from.row (from.amount - n)) ⊛ ‵ (Held from.number (to.amount + n)))))
    (shifted 𝓛 g.name from.number from.rows to.rows from.row to.row from.amount to.amount n has) $ await ! tt $ learn ! (λ apart. split ! $
    rewrite ! 1 (λ (k : ℕ). ‵ (Held k (to.amount + n))) (sym same) refl $ move ! (2 ∷ 0 ∷ []) $ fjoin ! $ move ! (2 ∷ 1 ∷ []) $ fjoin ! $
    move ! (2 ∷ 0 ∷ 3 ∷ 4 ∷ 5 ∷ []) $ closes ! tt T to' ds s.ref_ptr.0 s.ref_ptr.1 $ move ! (4 ∷ 3 ∷ 5 ∷ 6 ∷ 7 ∷ []) $ closes ! tt T from' cs r.ref_ptr.0 r.ref_ptr.1 $
    sets ! (of_opd ! (unit_lit !)) refl (tt, tt) $ returns ! (look_at ! 0 refl) $ free_all ! refl $ suffices ! _ (ends_at 𝓛 En hs c y vunit tt (from', (to', (tt, tt))) (tt, (tt, (tt, tt)))) $
    feq_i ! (List Val) (u ∷ []) (u ∷ []) refl $ fjoin3 ! $ move ! (2 ∷ 3 ∷ []) $ feq_i ! (List Val) (v ∷ []) (v ∷ []) refl $ fjoin3 ! $ nothing ! $ nothing ! $ fjoin ! $ move ! (1 ∷ 0 ∷ []) $ fjoin ! $ move ! (1 ∷ 0 ∷ []) $ fjoin ! $
    feq_i ! (List Val) (vunit ∷ []) (vunit ∷ []) refl $ move ! (1 ∷ 0 ∷ []) $ join ! $ move ! (2 ∷ 3 ∷ []) $ join ! $ move ! (2 ∷ 0 ∷ []) $ join ! $ join ! $ frame ! $
    by ! (tells_all 𝓤 ((from.number ≡ from.number) ∷ (from.amount - n + n ≡ from.amount) ∷ (to.number ≡ to.number) ∷ (to.amount + n ≡ to.amount + n) ∷ (from.amount + to.amount ≤ 2 ^ 63) ∷ [])
    (refl, (omega arith, (refl, (refl, apart)))))))))))))
