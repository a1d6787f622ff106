use Rattle.std.proofs.Common.{is_some, sym, ◌∙◌, rules, tests}
use Rattle.std.proofs.lemmas.Iterator.{YieldsList-from_slice}
use Rattle.std.proofs.lemmas.Iterator.Search.{all_from_yields_List}
use Rattle.toml.specs.Data.{as_table}
use Rattle.toml.specs.View.{view}
use Rattle.dmc_scene.proofs.TableLemmas.{are_tables-view, length-tables_in}
use Rattle.dmc_scene.proofs.scene.are_tables.Goals as goal

pub returns-clause-value : goal.returns-clause-value
returns-clause-value c =
    let values = c.args.values.now in
    all_from_yields_List (λ v. is_some (as_table (view v))) _ _ c.all.result c.all.ensures.ran (YieldsList-from_slice values cc) (λ x b q k. search (rules, tests)) ∙ are_tables-view values

pub returns-clause-len : goal.returns-clause-len
returns-clause-len c passed = length-tables_in c.args.values.now (sym (returns-clause-value c) ∙ passed)
