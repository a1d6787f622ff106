-- A run that is reported, words that ask for nothing, and words that are not read.
use Rattle.std.proofs.Common.{rules, ◌≡◌, None, Some, map}
use Rattle.dmc_tool.specs.Words.{asked, asked_by_words}
use Rattle.dmc_tool.specs.declared.words.TheConstants.{WRITTEN}
use Rattle.dmc_tool.proofs.RequestLemmas.{is_run, refused_run, unread_run}
use Rattle.dmc_tool.proofs.tool.run_tool.Goals as goal

pub returns-in-Ok-clause-runs : goal.returns-in-Ok-clause-runs
returns-in-Ok-clause-runs g c =
    let words = map g.S.AsStr.text c.args.words.now in
    let asks : asked_by_words WRITTEN words ≡ Some (asked c.in-Ok.request) = search rules in
    rw asks
    (is_run g.E.Write.contents c.args.fault_writer.now c.run_reported.new.fault_writer (record { is_opened = g.I.Inputs.is_opened c.args.inputs.now; is_refused = g.I.Inputs.is_refused c.args.inputs.now })
    g.I.Input.Read.remaining g.R.Read.remaining g.W.Write.contents c.args.reader.now c.run_reported.new.reader c.args.writer.now c.run_reported.new.writer WRITTEN words (asked c.in-Ok.request) c.run_reported.result
    c.run_reported.ensures)

pub returns-in-Err-Usage-clause-runs : goal.returns-in-Err-Usage-clause-runs
returns-in-Err-Usage-clause-runs g c =
    let words = map g.S.AsStr.text c.args.words.now in
    let none : asked_by_words WRITTEN words ≡ None = search rules in
    refused_run g.E.Write.contents c.args.fault_writer.now c.refuse_words.new.fault_writer (record { is_opened = g.I.Inputs.is_opened c.args.inputs.now; is_refused = g.I.Inputs.is_refused c.args.inputs.now })
    g.I.Input.Read.remaining g.R.Read.remaining g.W.Write.contents c.args.reader.now c.args.writer.now WRITTEN words c.refuse_words.result (asked_by_words WRITTEN words) none c.refuse_words.ensures

pub returns-in-Err-Memory-clause-runs : goal.returns-in-Err-Memory-clause-runs
returns-in-Err-Memory-clause-runs g c =
    let words = map g.S.AsStr.text c.args.words.now in
    unread_run g.E.Write.contents c.args.fault_writer.now c.write_fault.new.fault_writer (record { is_opened = g.I.Inputs.is_opened c.args.inputs.now; is_refused = g.I.Inputs.is_refused c.args.inputs.now })
    g.I.Input.Read.remaining g.R.Read.remaining g.W.Write.contents c.args.reader.now c.args.writer.now WRITTEN words c.write_fault.result (asked_by_words WRITTEN words) c.write_fault.ensures.text
    c.write_fault.ensures.status
