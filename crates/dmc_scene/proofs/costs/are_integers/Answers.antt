use Rattle.std.proofs.Common.{is_some, ◌∙◌, rules, tests}
use Rattle.std.proofs.lemmas.Iterator.{YieldsList-from_slice}
use Rattle.std.proofs.lemmas.Iterator.Search.{all_from_yields_List}
use Rattle.toml.specs.Data.{as_integer}
use Rattle.toml.specs.View.{view}
use Rattle.dmc_scene.proofs.CostLemmas.{are_integers-view}
use Rattle.dmc_scene.proofs.costs.are_integers.Goals as goal

pub returns : goal.returns
returns c =
    let values = c.args.values.now in
    all_from_yields_List (λ v. is_some (as_integer (view v))) _ _ c.all.result c.all.ensures.ran (YieldsList-from_slice values cc) (λ x b q k. search (rules, tests)) ∙ are_integers-view values
