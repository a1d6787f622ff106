-- A bound less the amount is no value, or both are.
use Rattle.std.proofs.Common.{◌≡◌, Option, Some, None, ap, ◌∙◌}
use Rattle.std.specs.Option.{option_map, option_and_then}
use Rattle.dmc_tag.specs.Tag.{Tagging}
use Rattle.dmc_pull.specs.internal.Range as range_of
use Rattle.dmc_pull.specs.internal.Range.{with_share}
use Rattle.dmc_pull.specs.declared.range.ShareRange.{ShareRange}
use Rattle.dmc_pull.proofs.range.with_less.Goals as goal

module _ {T : Type 0} (ops : Tagging T) (amount : T) (range : ShareRange T) where
  abbrev above : Option T → T → Option (ShareRange T)
  above greatest least = option_map (λ greatest. with_share ops greatest (with_share ops least range)) greatest

  no_least : None ≡ ops.minus range.least amount → None ≡ range_of.with_less ops amount range
  no_least e = ap (option_and_then (above (ops.minus range.greatest amount))) e

  module _ (least : T) (lower : Some least ≡ ops.minus range.least amount) where
    above_is : above (ops.minus range.greatest amount) least ≡ range_of.with_less ops amount range
    above_is = ap (option_and_then (above (ops.minus range.greatest amount))) lower

    no_greatest : None ≡ ops.minus range.greatest amount → None ≡ range_of.with_less ops amount range
    no_greatest e = ap (λ o. above o least) e ∙ above_is

    both : (greatest : T) → Some greatest ≡ ops.minus range.greatest amount → (wider widest : ShareRange T) → wider ≡ with_share ops least range
        → widest ≡ with_share ops greatest wider → Some widest ≡ range_of.with_less ops amount range
    both greatest upper wider widest first second = ap Some second ∙ ap (λ r. Some (with_share ops greatest r)) first ∙ ap (λ o. above o least) upper ∙ above_is

pub returns-in_err-least : goal.returns-in_err-least
returns-in_err-least g c = c.from_residual.ensures ∙ no_least g.T.Tag.ops c.args.amount c.args.range c.in_err-least.ensures

pub returns-in_err-greatest : goal.returns-in_err-greatest
returns-in_err-greatest g c =
    c.from_residual-in_err-greatest.ensures ∙ no_greatest g.T.Tag.ops c.args.amount c.args.range c.in_ok-least.least c.in_ok-least.ensures c.in_err-greatest.ensures

pub returns : goal.returns
returns g c =
    both g.T.Tag.ops c.args.amount c.args.range c.in_ok-least.least c.in_ok-least.ensures c.in_ok-greatest.greatest c.in_ok-greatest.ensures c.include.new.range
    c.include-2.new.range c.include.ensures c.include-2.ensures
