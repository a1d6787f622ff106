-- What clap's getter reads is what the rows of the match hold.
use Rattle.std.proofs.Common.{◌≡◌, ◌∙◌, Some, None, ap, refl, sym, option_map}
use Rattle.clap.specs.Words.{first_of, found_of, rows_of}
use Rattle.clap.proofs.WalkLemmas.{first_value-rows}
use Rattle.dmc_tool.proofs.words.is_given.Goals as goal

pub returns-in-Some : goal.returns-in-Some
returns-in-Some c =
    let found = found_of c.args.options.now in
    let given : first_of c.args.name.now (rows_of found) ≡ Some c.in-Some.word.now =
    sym (first_value-rows found c.args.name.now) ∙ (sym c.get_str.ensures ∙ ap (option_map (λ s. s.now)) c.in-Some.is) in
    rw given c.eq.ensures

pub returns-in-None : goal.returns-in-None
returns-in-None c =
    let found = found_of c.args.options.now in
    let given : first_of c.args.name.now (rows_of found) ≡ None =
    sym (first_value-rows found c.args.name.now) ∙ (sym c.get_str.ensures ∙ ap (option_map (λ s. s.now)) c.in-None.is) in
    rw given refl
