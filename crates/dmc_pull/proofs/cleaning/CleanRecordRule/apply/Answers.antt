-- A record is marked idle if it is that stale, and was not.
use Rattle.std.proofs.Common.{◌≡◌, ℕ, Bool, true, false, not, ◌||◌, refl, sym, ap, ◌∙◌, subst}
use Rattle.dmc_client.specs.Record.{Rec, IsRecord}
use Rattle.dmc_pull.specs.internal.Cleaning.{is_stale, with_idle_mark}
use Rattle.dmc_pull.proofs.cleaning.CleanRecordRule.apply.Goals as goal
use Rattle.dmc_pull.proofs.cleaning.CleanRecordRule.apply.Goals.{then-not-is_idle+then-is_stale, else-not-is_idle}
use Rattle.dmc_pull.proofs.cleaning.CleanRecordRule.apply.Goals.{else-not-is_idle-via-then-not-is_idle+else-is_stale, else-not-is_idle-via-else-not-is_idle}

module _ {T : Type 0} (at age : ℕ) (old new : Rec T) where
  marked : (idle stale : Bool) → idle ≡ old.idle → stale ≡ is_stale at age old → new ≡ record old { idle = idle || stale } → new ≡ with_idle_mark at age old
  marked idle stale i s h = h ∙ ap (λ b. record old { idle = b || stale }) i ∙ ap (λ b. record old { idle = old.idle || b }) s

  left : (idle : Bool) → idle ≡ old.idle → new ≡ old → new ≡ record old { idle = idle }
  left idle i h = h ∙ sym (ap (λ b. record old { idle = b }) i)

pub returns-clause-keeps : goal.returns-clause-keeps
returns-clause-keeps g c = ap not c.is_stale-erased.ensures

pub returns-clause-changed : goal.returns-clause-changed
returns-clause-changed g c =
    let at = c.args.self.now.at in
    let age = c.args.self.now.idle_age in
    let old = c.args.rec.now in
    let new = c.if-not-is_idle.rec in
    let is = c.is_idle.ensures.value in
    elim c.if-not-is_idle.branch [
      | then-not-is_idle+then-is_stale w ↦
          marked at age old new false true (sym w.if-not-is_idle.true ∙ is) (sym w.if-is_stale.true ∙ w.is_stale.ensures) (w.rec-is ∙ w.mark_idle.ensures.value)
      | else-not-is_idle w ↦ elim w.else-not-is_idle.branch [
        | else-not-is_idle-via-then-not-is_idle+else-is_stale v ↦
            let idle = sym v.if-not-is_idle.true ∙ is in
            marked at age old new false false idle (sym v.if-is_stale.false ∙ v.is_stale.ensures) (left at age old new false idle w.rec-is)
        | else-not-is_idle-via-else-not-is_idle v ↦
            let idle = sym v.if-not-is_idle.false ∙ is in
            marked at age old new true (is_stale at age old) idle refl (left at age old new true idle w.rec-is)
      ]
    ]

pub returns-clause-kept : goal.returns-clause-kept
returns-clause-kept g c =
    elim c.if-not-is_idle.branch [
      | then-not-is_idle+then-is_stale w ↦ subst (IsRecord g.T.Tag.ops) (sym w.rec-is) w.mark_idle.ensures.kept
      | else-not-is_idle w ↦ subst (IsRecord g.T.Tag.ops) (sym w.rec-is) c.is_idle.ensures.kept
    ]
