-- The file is the one that was opened, and no read of it failed before.
use Rattle.std.proofs.Common.{rules, inl}
use Rattle.dmc_text.specs.Watching.{stream_of}
use Rattle.dmc_tool.proofs.tool.run_on_file.Goals as goal

pub returns : goal.returns
returns g c =
    let opened : g.I.Inputs.is_opened c.args.inputs.now c.args.name.now (stream_of c.new-reader.result) = search rules in
    inl (c.new-reader.result, c.run_command.new.reader, opened, c.new-reader.ensures.note, (c.run_command.ensures.bytes, c.run_command.ensures.notes, c.run_command.ensures.remarks))
