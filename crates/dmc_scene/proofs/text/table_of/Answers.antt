use Rattle.std.proofs.Common.{◌≡◌, ◌∙◌, IsUtf8, arith}
use Rattle.std.proofs.lemmas.Result.{IfOk-weaker}
use Rattle.toml.specs.Parse.{parse_document}
use Rattle.dmc_scene.specs.Reading.{table_of}
use Rattle.dmc_scene.proofs.TextLemmas.{table_of-within, table_of-no_utf8}
use Rattle.dmc_scene.proofs.text.table_of.Goals as goal

pub returns-in-Ok-clause-ok : goal.returns-in-Ok-clause-ok
returns-in-Ok-clause-ok c =
    let text = c.args.text.now in
    let same : c.in-Ok.text.now ≡ text = c.in-Ok.ensures.cases.0 in
    let parsed : table_of text ≡ parse_document text = table_of-within text (omega arith) c.in-Ok.ensures.cases.1 in
    IfOk-weaker c.table_in.result _ _ (λ table found. parsed ∙ rw (← same) found) c.table_in.ensures.ok

pub returns-in-Err-clause-fault : goal.returns-in-Err-clause-fault
returns-in-Err-clause-fault c answered =
    let other : ¬ IsUtf8 c.args.text.now = c.in-Err.ensures.cases.0 in
    (cc, table_of-no_utf8 c.args.text.now other)
