-- An error of clap that is no allocation failure is returned only if it has no match.
use Rattle.std.proofs.Common.{rules, ◌≡◌, ◌∙◌, ap, subst, map, Option, Some, None, Err}
use Rattle.std.specs.Prelude.{IfOk}
use Rattle.clap.specs.Words.{App, HasKind, app_of, fault_of, is_simple, is_simple_and_free, kind_of}
use Rattle.dmc_tool.specs.Words.{Asked, asked, fault_at, match_of, program_app}
use Rattle.dmc_tool.specs.declared.words.TheConstants.{WRITTEN}
use Rattle.dmc_tool.specs.declared.words.WordsFault.TheVariants.{Usage}
use Rattle.dmc_tool.proofs.WordsLemmas.{asked_is, asks_for_none, is_simple_program, matches_simply, no_match, nothing_asked}
use Rattle.dmc_tool.proofs.words.read_words.Goals as goal

pub returns-in_err-matches-clause-usage : goal.returns-in_err-matches-clause-usage
unfolding match_of
returns-in_err-matches-clause-usage g c = λ usage.
    let words = map g.S.AsStr.text c.args.words.now in
    let error = c.in_err-matches.field-0.0 in
    let program_is : app_of c.in_ok-program.field-0 ≡ program_app = c.in_ok-program.ensures in
    let kinds = c.in_err-matches.ensures.kinds (ap is_simple_and_free program_is ∙ is_simple_program) in
    let listed = subst (λ (a : App). HasKind (fault_of a words) error) program_is kinds in
    let asks : fault_at (kind_of error) ≡ Usage = search rules in
    nothing_asked WRITTEN _ (no_match (fault_of program_app words) _ (kind_of error) listed asks)

pub returns-clause-ok : goal.returns-clause-ok
returns-clause-ok g c =
    let words = map g.S.AsStr.text c.args.words.now in
    let program_is : app_of c.in_ok-program.field-0 ≡ program_app = c.in_ok-program.ensures in
    let none = c.in_ok-matches.ensures.kinds (ap is_simple_and_free program_is ∙ is_simple_program) in
    let found = c.in_ok-matches.ensures.matches (ap is_simple program_is ∙ matches_simply) in
    let is = asked_is WRITTEN words _ _ _ program_is none found.0 found.1 in
    subst (λ (asks : Option Asked). IfOk c.named_request.result (λ request. asks ≡ Some (asked request))) is c.named_request.ensures.ok

pub returns-clause-usage : goal.returns-clause-usage
returns-clause-usage g c =
    let words = map g.S.AsStr.text c.args.words.now in
    let program_is : app_of c.in_ok-program.field-0 ≡ program_app = c.in_ok-program.ensures in
    let none = c.in_ok-matches.ensures.kinds (ap is_simple_and_free program_is ∙ is_simple_program) in
    let found = c.in_ok-matches.ensures.matches (ap is_simple program_is ∙ matches_simply) in
    let is = asked_is WRITTEN words _ _ _ program_is none found.0 found.1 in
    subst (λ (asks : Option Asked). c.named_request.result ≡ Err Usage → asks ≡ None) is (asks_for_none _ c.named_request.result c.named_request.ensures.err)
