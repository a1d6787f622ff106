-- What clap gets before its commands.
use Rattle.std.proofs.Common.{rules, ◌≡◌, ◌∙◌, ap, true}
use Rattle.clap.specs.Words.{app_of}
use Rattle.clap.specs.Simple.{app_of_fields}
use Rattle.clap.specs.declared.builder.command.Command.TheViews.{out-Command}
use Rattle.dmc_tool.specs.Words.{bare}
use Rattle.dmc_tool.proofs.words.bare_program.Goals as goal

pub returns : goal.returns
returns c =
    let fields : out-Command c.disable_help_subcommand.result ≡ record (out-Command c.new.result) {
      no_binary_name = true;
      disable_help_flag = true;
      disable_help_subcommand = true;
    } = search rules in
    let bare_is : app_of c.disable_help_subcommand.result ≡ bare (app_of c.new.result) = ap app_of_fields fields in
    bare_is ∙ ap bare c.new.ensures.app
