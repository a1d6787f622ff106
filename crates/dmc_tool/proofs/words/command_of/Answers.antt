-- What clap's getter reads is what the rows of the match hold.
use Rattle.std.proofs.Common.{rules, ◌≡◌, ◌∙◌, Some, codes, refl, option_map}
use Rattle.clap.specs.Words.{first_of, found_of, rows_of}
use Rattle.clap.proofs.WalkLemmas.{first_value-rows}
use Rattle.dmc_tool.specs.Words.{tool_in}
use Rattle.dmc_tool.specs.declared.words.TheConstants.{WRITTEN}
use Rattle.dmc_tool.proofs.words.command_of.Goals as goal

pub returns : goal.returns
returns c =
    let found = found_of c.args.options.now in
    let tool : tool_in WRITTEN (c.args.name.now, rows_of found) ≡ Some c.in_ok-tool.tool = search rules in
    let file : option_map (λ s. s.now) c.get_str.result ≡ first_of (codes "file") (rows_of found) =
    c.get_str.ensures ∙ first_value-rows found (codes "file") in
    rw (tool, file, c.is_given.ensures, c.is_given-2.ensures) refl
