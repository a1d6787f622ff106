-- Worked examples: what the rules answer, computed.
use Rattle.std.proofs.Common.{◌≡◌, ℕ, List, [], ◌∷◌, refl, Ok, Err, Some, None, pos, ℤ}
use Rattle.std.specs.Prelude.{Result}
use Rattle.dmc_types.specs.Values.{Rates, Setting}
use Rattle.dmc_types.specs.declared.ids.ClientId.{ClientId}
use Rattle.dmc_types.specs.declared.ids.ServerId.{ServerId}
use Rattle.dmc_types.specs.declared.ids.Token.{Token}
use Rattle.dmc_types.specs.declared.config.Counting.{Counting}
use Rattle.dmc_types.specs.declared.config.Counting.TheVariants as counting
use Rattle.dmc_types.specs.declared.config.PhaseType.TheVariants.{Reservation}
use Rattle.dmc_tag.specs.Examples.{waiting, tags, by_reservation, by_reservation_of_cost, by_priority}
use Rattle.dmc_tag.specs.declared.reply.Reply.TheVariants.{Later, Removed}
use Rattle.dmc_tick.specs.Tick.{tick_ops}
use Rattle.dmc_core.specs.declared.event.CoreEvent.{CoreEvent}
use Rattle.dmc_core.specs.declared.event.CoreEvent.TheVariants.{Stamp, Arrive, Pull, Respond, Cancel}
use Rattle.dmc_core.specs.declared.event.CoreReply.{CoreReply}
use Rattle.dmc_core.specs.declared.event.CoreReply.TheVariants.{Stamped, Served, Counted}
use Rattle.dmc_core.specs.declared.event.CoreFault.{CoreFault}
use Rattle.dmc_core.specs.declared.event.CoreFault.TheVariants.{NoClient, NoServer, NoFlight, NoGrant}
use Rattle.dmc_core.specs.Events.{opening_run, answers_of}

abbrev c : ℕ → ClientId
c n = record { 0 = n }

abbrev s : ℕ → ServerId
s n = record { 0 = n }

abbrev t : ℕ → Token
t n = record { 0 = n }

abbrev Answers : Type 0
Answers = List (Result (CoreReply ℤ) CoreFault)

abbrev stamped : (delta rho cost : ℕ) → Result (CoreReply ℤ) CoreFault
stamped delta rho cost = Ok (Stamped (record { delta = delta; rho = rho; cost = cost }))

-- client 1 and client 2, as in the scene of two clients
abbrev two : List (ClientId × Rates)
two = (c 1, record { reservation = Some 10; weight = 1; limit = None }) ∷ (c 2, record { reservation = None; weight = 2; limit = None }) ∷ []

-- one server, all completions counted
abbrev answers : Setting → List (ClientId × Rates) → List CoreEvent → Answers
answers config clients events = answers_of tick_ops (opening_run tick_ops config counting.All 1 clients) events

plan_and_core : answers waiting two
    (Stamp (c 1) (s 0) (t 0) 1 ∷ Arrive (c 1) (s 0) 0 ∷ Pull (s 0) 0 ∷ Respond (c 1) (s 0) Reservation 1 ∷ Arrive (c 1) (s 0) 0 ∷ Respond (c 1) (s 0) Reservation 1 ∷ [])
    ≡ (stamped 0 0 1 ∷ Ok (Served (tags (Some (pos 0)) (pos 0) (pos 0))) ∷ Ok (Served (by_reservation 1 0)) ∷ Ok Counted ∷ Err NoFlight ∷ Err NoGrant ∷ [])
plan_and_core = refl

-- a response is of the first grant of its cost
costs_of_grants : answers waiting two
    (Stamp (c 1) (s 0) (t 0) 3 ∷ Stamp (c 1) (s 0) (t 1) 5 ∷ Arrive (c 1) (s 0) 0 ∷ Arrive (c 1) (s 0) 0 ∷ Pull (s 0) 0 ∷ Pull (s 0) 0
    ∷ Respond (c 1) (s 0) Reservation 4 ∷ Respond (c 1) (s 0) Reservation 5 ∷ Respond (c 1) (s 0) Reservation 5 ∷ Respond (c 1) (s 0) Reservation 3 ∷ Stamp (c 1) (s 0) (t 2) 2 ∷ [])
    ≡ (stamped 0 0 3 ∷ stamped 0 0 5 ∷ Ok (Served (tags (Some (pos 0)) (pos 0) (pos 0))) ∷ Ok (Served (tags (Some (pos 0)) (pos 0) (pos 0)))
    ∷ Ok (Served (by_reservation_of_cost 3 1 0)) ∷ Ok (Served (by_reservation_of_cost 5 1 1))
    ∷ Err NoGrant ∷ Ok Counted ∷ Err NoGrant ∷ Ok Counted ∷ stamped 8 8 2 ∷ [])
costs_of_grants = refl

-- ---- requests that are taken back

-- client 1 has the limit 10, and its stamps count their own costs
abbrev limited : List (ClientId × Rates)
limited = (c 1, record { reservation = None; weight = 1; limit = Some 10 }) ∷ []

abbrev answers_to : Counting → List CoreEvent → Answers
answers_to form events = answers_of tick_ops (opening_run tick_ops waiting form 1 limited) events

abbrev sends : ℕ → ℕ → List CoreEvent → List CoreEvent
sends token at rest = Stamp (c 1) (s 0) (t token) 1 ∷ Arrive (c 1) (s 0) at ∷ rest

-- 12 gives back what it was charged, and 14 as much of it as its tag may fall
cancelled : answers_to counting.Others
    (sends 11 0 (sends 12 0 (sends 13 0 (sends 14 250 (Cancel (s 0) (c 1) (t 12) ∷ Pull (s 0) 100 ∷ Pull (s 0) 200 ∷ Pull (s 0) 299 ∷ Cancel (s 0) (c 1) (t 14) ∷ sends 15 299 [])))))
    ≡ (stamped 1 1 1 ∷ Ok (Served (tags None (pos 100) (pos 1000))) ∷ stamped 1 1 1 ∷ Ok (Served (tags None (pos 200) (pos 2000)))
    ∷ stamped 1 1 1 ∷ Ok (Served (tags None (pos 300) (pos 3000))) ∷ stamped 1 1 1 ∷ Ok (Served (tags None (pos 400) (pos 4000)))
    ∷ Ok (Served (Removed 1)) ∷ Ok (Served (by_priority 1 11)) ∷ Ok (Served (by_priority 1 13)) ∷ Ok (Served (Later 300))
    ∷ Ok (Served (Removed 1)) ∷ stamped 1 1 1 ∷ Ok (Served (tags None (pos 350) (pos 3000))) ∷ [])
cancelled = refl

-- a token that no queued request has, a request that is still in flight, and names that there are not
cancels_nothing : answers_to counting.Others
    (Stamp (c 1) (s 0) (t 11) 1 ∷ Cancel (s 0) (c 1) (t 11) ∷ Cancel (s 0) (c 2) (t 11) ∷ Cancel (s 1) (c 2) (t 11) ∷ Cancel (s 1) (c 1) (t 11) ∷ [])
    ≡ (stamped 1 1 1 ∷ Ok (Served (Removed 0)) ∷ Err NoClient ∷ Err NoClient ∷ Err NoServer ∷ [])
cancels_nothing = refl
