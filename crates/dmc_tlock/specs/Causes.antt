-- What a refusal of a part is called by the book.
use Rattle.dmc_history.specs.declared.ReserveFault.{ReserveFault}
use Rattle.dmc_history.specs.declared.ReserveFault.TheVariants as reserve
use Rattle.dmc_tracker.specs.declared.tracker.TrackFault.{TrackFault}
use Rattle.dmc_tracker.specs.declared.tracker.TrackFault.TheVariants as track
use Rattle.dmc_tlock.specs.declared.fault.TillFault.{TillFault}
use Rattle.dmc_tlock.specs.declared.fault.TillFault.TheVariants as till
use Rattle.dmc_tlock.specs.declared.fault.EntryFault.{EntryFault}
use Rattle.dmc_tlock.specs.declared.fault.EntryFault.TheVariants.{NoServer, Stranger, TrackFull, HistoryFull, Memory}

abbrev pub of_till : TillFault → EntryFault
of_till till.NoServer = NoServer
of_till till.Stranger = Stranger

abbrev pub of_track : TrackFault → EntryFault
of_track track.NoServer = NoServer
of_track track.TrackFull = TrackFull

abbrev pub of_reserve : ReserveFault → EntryFault
of_reserve reserve.HistoryFull = HistoryFull
of_reserve reserve.Memory = Memory
