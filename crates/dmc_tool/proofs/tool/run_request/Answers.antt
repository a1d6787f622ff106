-- The version, a tool on the reader, and a tool on a file that is opened.
use Rattle.std.proofs.Common.{rules, ◌≡◌, None, Some, refl, string_bytes}
use Rattle.dmc_tool.specs.Words.{ask_tool, ask_version, asked}
use Rattle.dmc_tool.proofs.RequestLemmas.{shows}
use Rattle.dmc_tool.proofs.tool.run_request.Goals as goal

pub returns-in-Version : goal.returns-in-Version
returns-in-Version g c =
    let asks : asked c.args.request ≡ ask_version = search rules in
    rw asks (refl {a = c.args.reader.now}, refl {a = string_bytes c.args.remarks.now}, c.write_version.ensures)

pub returns-in-Tool-default-None-default-default : goal.returns-in-Tool-default-None-default-default
returns-in-Tool-default-None-default-default g c =
    let asks : asked c.args.request ≡ ask_tool c.in-Tool-default-None-default-default.tool None c.in-Tool-default-None-default-default.is_explained (shows (asked c.args.request)) = search rules in
    rw asks (c.run_command.ensures.bytes, c.run_command.ensures.notes, c.run_command.ensures.remarks)

pub returns-in-Tool-default-Some-default-default : goal.returns-in-Tool-default-Some-default-default
returns-in-Tool-default-Some-default-default g c =
    let asks : asked c.args.request ≡ ask_tool c.in-Tool-default-Some-default-default.tool (Some c.in-Tool-default-Some-default-default.name.now) c.in-Tool-default-Some-default-default.is_explained (shows (asked c.args.request)) = search rules in
    rw asks (refl {a = c.args.reader.now}, c.run_on_file.ensures)
