use Rattle.std.proofs.Common.{◌≡◌, ◌<◌, not, true, false, length, get_or, rules, ap, sym, ◌∙◌, arith}
use Rattle.std.proofs.lemmas.List.{get_or_default}
use Rattle.std.proofs.lemmas.List.Filters.{FiltersInPlace-more_set, FiltersInPlace-more_here, FiltersInPlace-more_no}
use Rattle.dmc_tag.specs.Cancel.{has_token}
use Rattle.dmc_client.proofs.cancelling.remove.Goals as goal
use Rattle.dmc_client.proofs.cancelling.remove.Goals.{then-ne, then-kept-i, else-kept-i, else-ne}

pub loop-i-preserved : goal.loop-i-preserved
loop-i-preserved g c =
    let items = c.loop-i.queue.items in
    let within : c.loop-i.i < length items = omega arith in
    elim c.if-ne.branch [
      | then-ne w ↦
          let stays : not (has_token c.args.token c.index.result.now) ≡ true = search rules in
          elim w.if-kept-i.branch [
            | then-kept-i u ↦
                let same : c.index.result.now ≡ u.index-then-kept-i.result.now = c.index.ensures ∙ get_or_default items c.loop-i.i _ _ within ∙ sym u.index-then-kept-i.ensures in
                rw (w.queue-is, w.kept-is, u.queue-is) (FiltersInPlace-more_set c.loop-i.invariant within (ap (λ r. not (has_token c.args.token r)) (sym same) ∙ stays) u.index-then-kept-i.ensures)
            | else-kept-i u ↦ rw (w.queue-is, w.kept-is, u.queue-is) (FiltersInPlace-more_here c.loop-i.invariant within stays c.index.ensures (omega arith))
          ]
      | else-ne w ↦
          let leaves : not (has_token c.args.token c.index.result.now) ≡ false = search rules in
          rw (w.queue-is, w.kept-is) (FiltersInPlace-more_no c.loop-i.invariant within leaves c.index.ensures)
    ]
