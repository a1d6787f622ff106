-- The progress is shown, and then the end is reported.
use Rattle.std.proofs.Common.{Ok, Err, string_bytes}
use Rattle.dmc_tool.proofs.tool.run_reported.Goals as goal

pub returns-in-Ok : goal.returns-in-Ok
returns-in-Ok g c = record {
  end = Ok c.in-Ok.outcome;
  remarks = string_bytes c.run_shown-end.new.remarks;
  shown = c.run_shown-end.new.fault_writer;
  runs = rw c.new-remarks.ensures.bytes at c.in-Ok.ensures.runs;
  shows = c.in-Ok.ensures.shows;
  reports = rw c.as_str-remarks.ensures.value at c.write_remarks.ensures;
  status_is = c.status.ensures;
}

pub returns : goal.returns
returns g c = record {
  end = Err c.in-Err.fault;
  remarks = string_bytes c.run_shown-end.new.remarks;
  shown = c.run_shown-end.new.fault_writer;
  runs = rw c.new-remarks.ensures.bytes at c.in-Err.ensures.runs;
  shows = c.in-Err.ensures.shows;
  reports = rw (c.as_str-remarks.ensures.value, c.is_explained-is_explained.ensures) at c.report.ensures.text;
  status_is = c.report.ensures.status;
}
