-- What a request does to a client's book when it comes in at a shard.
use Rattle.std.specs.Prelude.{◌≡◌, ℕ, ◌+◌, ◌-◌, ◌<◌, ◌≤◌, ◌^◌, ◌⊎◌, length, slice_set}
use Rattle.dmc_types.specs.Values.{Params}
use Rattle.dmc_types.specs.declared.ids.ServerId.{ServerId}
use Rattle.dmc_types.specs.declared.command.Command.{Command}
use Rattle.dmc_tag.specs.Tag.{Tagging}
use Rattle.dmc_tracker.specs.declared.tracker.TrackFault.{TrackFault}
use Rattle.dmc_tracker.specs.declared.tracker.TrackFault.TheVariants as track
use Rattle.dmc_shards.specs.ShardNumbers.{next_params, after_arrival, after_skip, IsFullAt}
use Rattle.dmc_ledger.specs.Accounts.{total_of}
use Rattle.dmc_ledger.specs.Moves.{after_issue, with_more, tills_after_submit}
use Rattle.dmc_book.specs.BookState.{PassState}
use Rattle.dmc_qlock.specs.Calls.{SubmitReplied}
use Rattle.dmc_sharded.specs.declared.fault.ArriveFault.{ArriveFault}
use Rattle.dmc_sharded.specs.declared.fault.ArriveFault.TheVariants.{NoServer, TrackFull, Queue}
use Rattle.dmc_sharded.specs.BookState.{BookState, DeskState, desk_at}

-- what a refusal of the shard tracker is called
abbrev pub of_track : TrackFault → ArriveFault
of_track track.NoServer = NoServer
of_track track.TrackFull = TrackFull

-- the tills hold a stamp with these params: what they lack is issued into them
abbrev pub covered : Params → DeskState → DeskState
covered params desk = record {
  side = record desk.side {
    books = record {
      stamps = after_issue (1 - desk.tills.stamps.amount) desk.side.books.stamps;
      delta = after_issue (params.delta - desk.tills.delta.amount) desk.side.books.delta;
      rho = after_issue (params.rho - desk.tills.rho.amount) desk.side.books.rho;
    };
  };
  tills = record {
    stamps = with_more (1 - desk.tills.stamps.amount) desk.tills.stamps;
    delta = with_more (params.delta - desk.tills.delta.amount) desk.tills.delta;
    rho = with_more (params.rho - desk.tills.rho.amount) desk.tills.rho;
  };
}

-- after a refusal: the tills hold what was made for the queue
abbrev pub IsDeskAfterRefusal : Params → DeskState → DeskState → ArriveFault → Type 0
IsDeskAfterRefusal params old new NoServer = new ≡ old
IsDeskAfterRefusal params old new TrackFull = new ≡ old
IsDeskAfterRefusal params old new (Queue cause) = new ≡ covered params old

-- no stamp more can be issued into the tills
abbrev pub IsStampFull : DeskState → Type 0
IsStampFull desk = 2 ^ 63 < total_of desk.side.books.stamps + (1 - desk.tills.stamps.amount)

-- the queue took the stamp
abbrev pub taken : Params → DeskState → DeskState
taken params desk = record {
  side = (covered params desk).side;
  tills = tills_after_submit params (covered params desk).tills;
}

-- A request came in with these params, and the queue of its shard took it with the stamp that the tracker demands.
abbrev pub book_after_arrival : ServerId → Params → BookState → BookState
book_after_arrival s params b = record b {
  tracker = after_arrival s params b.tracker;
  desks = slice_set b.desks s.0 (taken (next_params b.tracker s params) (desk_at b.desks s.0));
}

-- The queue of the shard refused it. The tracker is as it was, and the tills hold what was made for it.
abbrev pub book_after_refusal : ServerId → Params → BookState → BookState
book_after_refusal s params b = record b {
  desks = slice_set b.desks s.0 (covered (next_params b.tracker s params) (desk_at b.desks s.0));
}

-- what is pending at a shard is skipped
abbrev pub book_after_skip : ServerId → BookState → BookState
book_after_skip s b = record b { tracker = after_skip s b.tracker }

-- after a refusal
abbrev pub IsAfterRefusal : ServerId → Params → BookState → BookState → ArriveFault → Type 0
IsAfterRefusal s params old new NoServer = new ≡ old
IsAfterRefusal s params old new TrackFull = new ≡ old
IsAfterRefusal s params old new (Queue cause) = new ≡ book_after_refusal s params old

-- what came in would be too much, or the book of stamps would
abbrev pub IsArrivalFull : BookState → ServerId → Params → Type 0
IsArrivalFull b s params = IsFullAt b.tracker s params ⊎ ((s.0 < length b.desks) × IsStampFull (desk_at b.desks s.0))

-- What the worker's pass holds after a refusal: a refusal of the rules is counted, and no other.
abbrev pub PassAfter : {T : Type 0} → Tagging T → PassState → PassState → Command → ArriveFault → Type 0
PassAfter ops before later command NoServer = later ≡ before
PassAfter ops before later command TrackFull = later ≡ before
PassAfter ops before later command (Queue cause) = SubmitReplied ops before later command cause

-- a shard's stamp of what a request brought: of the same cost, and it counts at least that
pub record IsStampFor (params stamped : Params) : Type 0 where
  pub cost : stamped.cost ≡ params.cost
  pub delta : params.delta ≤ stamped.delta
  pub rho : params.rho ≤ stamped.rho
