-- What clap gets, command by command.
use Rattle.std.proofs.Common.{◌∙◌, ap, codes}
use Rattle.std.proofs.lemmas.Result.{IfOk-weaker}
use Rattle.clap.specs.Words.{App, with_rule, with_subcommand}
use Rattle.dmc_tool.specs.Words.{plain_app, flag_rule, name_of, program_app, tagged_app}
use Rattle.dmc_tool.specs.declared.words.ToolCommand.TheVariants.{Script, Check, Sim, Run}
use Rattle.dmc_tool.proofs.words.program.Goals as goal

pub returns : goal.returns
unfolding program_app
returns c =
    let bare = c.in_ok-command.ensures ∙ ap (λ (a : App). with_rule a (flag_rule (codes "version"))) c.bare_program.ensures in
    let first = c.in_ok-command-2.ensures ∙ ap (λ (a : App). with_subcommand a (tagged_app (name_of Script)).top) bare in
    let second = c.in_ok-command-3.ensures ∙ ap (λ (a : App). with_subcommand a (tagged_app (name_of Check)).top) first in
    let third = c.in_ok-command-4.ensures ∙ ap (λ (a : App). with_subcommand a (plain_app (name_of Sim)).top) second in
    IfOk-weaker c.with_plain-2.result _ _ (λ command added. added ∙ ap (λ (a : App). with_subcommand a (plain_app (name_of Run)).top) third) c.with_plain-2.ensures
