-- What a worker that is refused reports as the cause of its stop. A lock's refusal that its callers rule out is a stray one.
use Rattle.dmc_types.specs.declared.refusal.Refusal.TheVariants.{Range}
use Rattle.dmc_tlock.specs.declared.fault.EntryFault.{EntryFault}
use Rattle.dmc_tlock.specs.declared.fault.EntryFault.TheVariants as entry
use Rattle.dmc_book.specs.declared.fault.RunFault.{RunFault}
use Rattle.dmc_book.specs.declared.fault.RunFault.TheVariants as run
use Rattle.dmc_book.specs.declared.fault.SubmitCause.{SubmitCause}
use Rattle.dmc_book.specs.declared.fault.SubmitCause.TheVariants as submit
use Rattle.dmc_qlock.specs.declared.fault.RunOrRange.{RunOrRange}
use Rattle.dmc_qlock.specs.declared.fault.RunOrRange.TheVariants as pull
use Rattle.dmc_settle.specs.declared.report.StopCause.{StopCause}
use Rattle.dmc_settle.specs.declared.report.StopCause.TheVariants.{Refused, HistoryFull, TrackFull, Memory, Stray}

abbrev pub of_entry : EntryFault → StopCause
of_entry entry.NoServer = Stray
of_entry entry.Stranger = Stray
of_entry entry.TrackFull = TrackFull
of_entry entry.HistoryFull = HistoryFull
of_entry entry.Memory = Memory

abbrev pub of_submit : SubmitCause → StopCause
of_submit submit.Stranger = Stray
of_submit submit.Closed = Stray
of_submit submit.HistoryFull = HistoryFull
of_submit submit.Memory = Memory
of_submit (submit.Refused refusal) = Refused refusal

abbrev pub of_run : RunFault → StopCause
of_run run.Stranger = Stray
of_run run.Behind = Stray
of_run run.NoDesk = Stray
of_run run.HistoryFull = HistoryFull
of_run run.Memory = Memory

abbrev pub of_pull : RunOrRange → StopCause
of_pull (pull.Run fault) = of_run fault
of_pull pull.Range = Refused Range
