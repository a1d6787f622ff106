-- A tracker's refusal as one of the cluster.
use Rattle.dmc_tracker.specs.declared.tracker.TrackFault.{TrackFault}
use Rattle.dmc_tracker.specs.declared.tracker.TrackFault.TheVariants as tracker
use Rattle.dmc_core.specs.declared.event.CoreFault.{CoreFault}
use Rattle.dmc_core.specs.declared.event.CoreFault.TheVariants.{NoServer, TrackFull}

abbrev pub fault_of : TrackFault → CoreFault
fault_of tracker.NoServer = NoServer
fault_of tracker.TrackFull = TrackFull
