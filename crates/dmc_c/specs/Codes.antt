-- The codes of the header.
use Rattle.std.specs.Prelude.{ℕ, Result, Ok, Err}
use Rattle.dmc_types.specs.declared.refusal.Field.TheVariants as fields
use Rattle.dmc_types.specs.declared.refusal.Refusal.{Refusal}
use Rattle.dmc_types.specs.declared.refusal.Refusal.TheVariants.{Known, Unknown, Inexact, Clients, QueueFull, Range, Busy, OverLimit}
use Rattle.dmc_types.specs.declared.refusal.ValueFault.TheVariants as values
use Rattle.dmc_tag.specs.Tag.{Fraction}
use Rattle.dmc_tag.specs.declared.reply.Reply.{Reply}
use Rattle.dmc_tag.specs.declared.reply.Reply.TheVariants as replies
use Rattle.dmc_tracker.specs.declared.tracker.MakeFault.{MakeFault}
use Rattle.dmc_tracker.specs.declared.tracker.MakeFault.TheVariants as makes
use Rattle.dmc_tracker.specs.declared.tracker.TrackFault.TheVariants as tracks
use Rattle.dmc_shards.specs.declared.tracker.GiveBackFault.{GiveBackFault}
use Rattle.dmc_shards.specs.declared.tracker.GiveBackFault.TheVariants as backs
use Rattle.dmc_c.specs.declared.fault.Fault.{Fault}
use Rattle.dmc_c.specs.declared.fault.Fault.TheVariants.{NoneHeld, Held, Value, Phase, Limit, Track, NotSent, Memory}

-- DMC_OK
abbrev pub ok : ℕ
ok = 0

abbrev pub number : Fault → ℕ
number Memory = 1
number NoneHeld = 2
number Held = 3
number (Value values.Moment) = 10
number (Value values.Params) = 11
number (Value values.Rate) = 12
number (Value values.Config) = 13
number Phase = 14
number Limit = 15
number (Value values.Cost) = 16
number (Track tracks.NoServer) = 30
number (Track tracks.TrackFull) = 31
number NotSent = 32

abbrev pub refusal_number : Refusal → ℕ
refusal_number Known = 20
refusal_number Unknown = 21
refusal_number (Inexact fields.Reservation) = 22
refusal_number (Inexact fields.Weight) = 23
refusal_number (Inexact fields.Limit) = 24
refusal_number Clients = 25
refusal_number QueueFull = 26
refusal_number Range = 27
refusal_number Busy = 28
refusal_number OverLimit = 29

-- the code of a call
abbrev pub code_of : {X : Type 0} → Result X Fault → ℕ
code_of (Ok x) = ok
code_of (Err fault) = number fault

-- the code of a command: what is refused by the rules has a code of its own
abbrev pub reply_code : Result (Reply Fraction) Fault → ℕ
reply_code (Ok (replies.Refused refusal)) = refusal_number refusal
reply_code (Ok reply) = ok
reply_code (Err fault) = number fault

-- why a tracker could not be made
abbrev pub make_fault : MakeFault → Fault
make_fault makes.Limit = Limit
make_fault makes.Memory = Memory

-- why counts could not be given back
abbrev pub give_back_fault : GiveBackFault → Fault
give_back_fault backs.NoServer = Track tracks.NoServer
give_back_fault backs.NotSent = NotSent
