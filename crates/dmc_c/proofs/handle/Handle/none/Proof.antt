-- `none` owns nothing.
use Rattle.dmc_c.specs.contracts.handle.Handle.none.{ended, clauses}
use Rattle.dmc_c.specs.contracts.handle.Handle.none.Key.{name as #self}
use Rattle.dmc_c.proofs.handle.Handle.none.Statement.{statement}
use Rattle.dmc_c.proofs.handle.Handle.none.Code as code
use Rattle.dmc_c.proofs.Walks.{◌≡◌, ℕ, [], ◌∷◌, refl, lit<, proved_at, leaves, Option, None, SProp, emp, ftrue, fact, fact_i, tables, null_ptr, walk_of, Val, ‵, raw, ◌⊛◌, ◌$◌, ◌∵◌, !, qed, by, keep, split, use0, feq_i, lit, no_more, and_then, returns, enter, alloc_all, pass_all, free_all, look_at, sets, agg}
use Rattle.dmc_c.proofs.Values.{Kept, handle_val, handle_good, handle_in}

pub none_spec : {M : Type 1} → statement M
none_spec 𝓤 𝓛 𝓜 𝓡 wired =
    let H = 𝓛.H in let 𝓣 = tables 𝓤 H 𝓜 𝓡 𝓡.env in let c = clauses 𝓛 𝓜.mem 𝓡.returns in
    proved_at 𝓛 ended tt c 𝓜 𝓡 tt #self code.function (code.unfolded 𝓤 H 𝓜 𝓡 wired) (λ z are.
    let Post : Val → SProp 𝓤 = (walk_of 𝓛 ended tt c).post z in
    let Told = ◌≡◌ {A = Option Kept.Denot} None None in
    qed 𝓛 ((‵ ftrue ⊛ ‵ ftrue) ∷ raw ((c z.0.0 z.0.3).requires z.1) ∷ []) ∵ split ! $
    enter ! 𝓣.C 𝓣.Λ code.function [] Post $ alloc_all ! (λ l. pass_all ! refl tt $
    sets ! (agg ! (and_then ! (lit ! tt) (and_then ! (lit ! tt) (no_more !)))) refl (handle_good null_ptr 0 (lit< tt)) $
    feq_i ! ℕ 0 0 refl $ handle_in ! null_ptr 0 (lit< tt) None $ use0 𝓛 (raw (fact 𝓤 Told)) (fact_i 𝓤 Told (emp 𝓤) refl) $
    -- [what is written; the handle; the tokens; no parameter]
    returns ! (look_at ! 0 refl) $ free_all ! refl $ keep ! (2 ∷ 3 ∷ 1 ∷ 0 ∷ []) $
    by ! (leaves 𝓛 ended tt c z (handle_val null_ptr 0) (record { at = null_ptr; held = 0; value = None }) tt tt)))
