-- Each bound of the range is the share if the share lies beyond it.
use Rattle.std.proofs.Common.{◌≡◌, Bool, true, false, sym, ap, ◌∙◌}
use Rattle.std.specs.Prelude.{if◌then◌else◌}
use Rattle.std.specs.Ordering.{is_gt}
use Rattle.dmc_head_index.specs.Least.{lesser}
use Rattle.dmc_tag.specs.Tag.{Tagging}
use Rattle.dmc_pull.specs.internal.Range.{with_share}
use Rattle.dmc_pull.specs.declared.range.ShareRange.{ShareRange}
use Rattle.dmc_pull.proofs.range.include.Given.{Over}
use Rattle.dmc_pull.proofs.range.include.Goals as goal
use Rattle.dmc_pull.proofs.range.include.Goals.{Joined-is_gt, then-is_gt, else-is_gt}

module _ {T : Type 0} (ops : Tagging T) (share : T) (old lowered : ShareRange T) where
  lower : (b : Bool) → b ≡ is_gt (ops.compare old.least share) → lowered ≡ record old { least = if b then share else old.least }
      → lowered ≡ record old { least = lesser ops old.least share }
  lower b is h = h ∙ ap (λ b. record old { least = if b then share else old.least }) is

  raise : (b : Bool) → b ≡ is_gt (ops.compare lowered.greatest share) → lowered ≡ record old { least = lesser ops old.least share }
      → record lowered { greatest = if b then lowered.greatest else share } ≡ with_share ops share old
  raise b is h =
      ap (λ b. record lowered { greatest = if b then lowered.greatest else share }) is
      ∙ ap (λ (r : ShareRange T). record r { greatest = if is_gt (ops.compare r.greatest share) then r.greatest else share }) h

lowered : (g : Over) (c : Joined-is_gt g) → c.if-is_gt.range ≡ record c.args.range.now { least = lesser g.T.Tag.ops c.args.range.now.least c.args.share }
lowered g c =
    let lower = lower g.T.Tag.ops c.args.share c.args.range.now c.if-is_gt.range in
    let test = c.is_gt.ensures ∙ ap is_gt (c.cmp.ensures ∙ g.met.T.Tag.compares c.args.range.now.least c.args.share) in
    elim c.if-is_gt.branch [
      | then-is_gt w ↦ lower true (sym w.if-is_gt.true ∙ test) w.range-is
      | else-is_gt w ↦ lower false (sym w.if-is_gt.false ∙ test) w.range-is
    ]

pub returns-then-not-is_gt : goal.returns-then-not-is_gt
returns-then-not-is_gt g c =
    let test = c.if-not-is_gt.ensures ∙ ap is_gt (c.cmp-2.ensures ∙ g.met.T.Tag.compares c.if-is_gt.range.greatest c.args.share) in
    raise g.T.Tag.ops c.args.share c.args.range.now c.if-is_gt.range false test (lowered g (goal.at.returns-then-not-is_gt g c).Joined-is_gt)

pub returns-else-not-is_gt : goal.returns-else-not-is_gt
returns-else-not-is_gt g c =
    let test = c.if-not-is_gt.ensures ∙ ap is_gt (c.cmp-2.ensures ∙ g.met.T.Tag.compares c.if-is_gt.range.greatest c.args.share) in
    raise g.T.Tag.ops c.args.share c.args.range.now c.if-is_gt.range true test (lowered g (goal.at.returns-else-not-is_gt g c).Joined-is_gt)
