-- `of` keeps the box that the pointer owns.
use Rattle.std.specs.contracts.alloc.Global as heap
use Rattle.std.proofs.alloc.Global.TheLaws as heap_laws
use Rattle.dmc_c.specs.Ownership.{boxed_at}
use Rattle.dmc_c.specs.contracts.handle.Handle.of.{ended, clauses}
use Rattle.dmc_c.specs.contracts.handle.Handle.of.Key.{name as #self}
use Rattle.dmc_c.proofs.handle.Handle.of.Statement.{statement}
use Rattle.dmc_c.proofs.handle.Handle.of.Code as code
use Rattle.dmc_c.proofs.Walks.{◌≡◌, ℕ, List, [], ◌∷◌, ◌++◌, refl, sym, subst, lit<, proved_at, leaves, Option, ghosts, Some, Goes-blank, SProp, ent, emp, id⊢, ftrue, fact, fact_i, tables, yes, RattleType, owns, block_ptr, types_at, plain, nothing, Stays, stay_dropped, walk_of, Val, vptr, WpFn, ‵, raw, ◌⊛◌, ◌$◌, ◌∵◌, !, qed, by, move, keep, split, fsplit, fjoin, fpack, suffices, use0, feq_i, stop, fld, of_opd, lit, no_more, and_then, returns, enter, alloc_all, pass_all, free_all, look_at, get, get_in, sets, agg, sub, whole}
use Rattle.dmc_c.proofs.Values.{both, Loose, loose_good, loose_out, Kept, handle_val, handle_good, handle_in}

pub of_spec : {M : Type 1} → statement M
of_spec 𝓤 𝓛 𝓜 𝓡 wired =
    let H = 𝓛.H in let 𝓣 = tables 𝓤 H 𝓜 𝓡 𝓡.env in let c = clauses 𝓛 𝓜.mem 𝓡.returns in let fn = code.function in
    let Z : RattleType = heap.the_row in let LZ = heap_laws.the_row_laws in let Given : RattleType = Loose Kept Z LZ ghosts in
    let stayed : Stays ended.signature.params ended.kept = (stay_dropped (plain (λ _. Given)) yes, tt) in
    proved_at 𝓛 ended stayed c 𝓜 𝓡 (Goes-blank 𝓛 0 (plain (λ _. Given)) yes (λ κs x f. tt), tt) #self fn (code.unfolded 𝓤 H 𝓜 𝓡 wired) (λ z are.
    let Post : Val → SProp 𝓤 = (walk_of 𝓛 ended stayed c).post z in let Run : List Val → SProp 𝓤 = λ ws. WpFn 𝓤 H 𝓣.C 𝓣.Λ fn ws Post in
    let given = z.0.3.0 in let held : Option Kept.Denot = Some given.value in
    qed 𝓛 ((‵ ftrue ⊛ ‵ (owns (types_at ended.signature.params z.0.0) z.0.3 z.0.4)) ∷ raw ((c z.0.0 z.0.3).requires z.1) ∷ []) ∵
    split ! $ move ! (1 ∷ []) $ fsplit ! $ loose_out Kept Z LZ ghosts ! given z.0.4.0 (λ b o h at is fits.
    let w : Val = both (vptr b o) h in let typed = loose_good Kept Z LZ ghosts b o h fits in
    suffices ! (Run (w ∷ [])) (subst (λ (us : List Val). ent 𝓤 (Run (w ∷ [])) (Run us)) (sym (λ i. is i ++ [])) (id⊢ 𝓤 (Run (w ∷ [])))) $
    enter ! 𝓣.C 𝓣.Λ fn (w ∷ []) Post $ alloc_all ! (λ l. pass_all ! refl (typed, tt) $
    -- the pointer of the parts, as one to bytes, and the flag
    sets ! (of_opd ! (get_in ! (fld ! refl (stop !)) (sub ! 0 refl (whole !)))) refl (tt, tt) $ sets ! (of_opd ! (get ! refl)) refl (tt, tt) $
    sets ! (agg ! (and_then ! (get ! refl) (and_then ! (lit ! tt) (no_more !)))) refl (handle_good (block_ptr b o) 1 (lit< tt)) $
    -- the box goes into the handle
    fpack ! Z.Denot (λ a. boxed_at a (block_ptr b o) given.value) given.alloc $ feq_i ! ℕ 1 1 refl $ fjoin ! $ handle_in ! (block_ptr b o) 1 (lit< tt) held $
    use0 𝓛 (raw (fact 𝓤 (held ≡ held))) (fact_i 𝓤 (held ≡ held) (emp 𝓤) refl) $ nothing ! $ nothing ! $ fjoin ! $
    returns ! (look_at ! 0 refl) $ free_all ! refl $ keep ! (5 ∷ 0 ∷ 2 ∷ 1 ∷ []) $
    by ! (leaves 𝓛 ended stayed c z (handle_val (block_ptr b o) 1) (record { at = block_ptr b o; held = 1; value = held }) (tt, tt) (tt, tt)))))
