-- The definitions, computed on lists of two servers, in each form: stamp 0, response 0 reservation, stamp 1, response 1 priority,
-- stamp 0; first where each request costs 1, and then with other costs.
use Rattle.std.proofs.Common.{◌≡◌, ℕ, ◌^◌, List, [], ◌∷◌, ◌++◌, refl, arith, inl, inr}
use Rattle.dmc_types.specs.Values.{Params, Counts, with_returned}
use Rattle.dmc_types.specs.declared.ids.ServerId.{ServerId}
use Rattle.dmc_types.specs.declared.config.Counting.TheVariants.{All, Others}
use Rattle.dmc_types.specs.declared.config.PhaseType.TheVariants.{Reservation, Priority}
use Rattle.dmc_tracker.specs.declared.event.TrackerEvent.{TrackerEvent}
use Rattle.dmc_tracker.specs.declared.event.TrackerEvent.TheVariants.{Stamp, Skip, Response}
use Rattle.dmc_tracker.specs.TrackerList.{completions, completions_at, others, responses, response_costs, stamps, stamp_costs, skips, marks, sent, skipped, pending, demanded, IsResponseFull, IsStampFull, IsTooMuch}

abbrev counts : ℕ → ℕ → Counts
counts delta rho = record { delta = delta; rho = rho }

-- what a stamp of a request of cost 1 carries, and of one of another cost
abbrev params : ℕ → ℕ → Params
params delta rho = record { delta = delta; rho = rho; cost = 1 }

abbrev costly : ℕ → ℕ → ℕ → Params
costly delta rho cost = record { delta = delta; rho = rho; cost = cost }

abbrev server : ℕ → ServerId
server n = record { 0 = n }

abbrev in_all : List TrackerEvent
in_all =
    Stamp (server 0) (params 0 0) ∷ (Response (server 0) Reservation 1 ∷ (Stamp (server 1) (params 1 1)
    ∷ (Response (server 1) Priority 1 ∷ [])))

abbrev in_others : List TrackerEvent
in_others =
    Stamp (server 0) (params 1 1) ∷ (Response (server 0) Reservation 1 ∷ (Stamp (server 1) (params 2 2)
    ∷ (Response (server 1) Priority 1 ∷ [])))

completions-all : completions in_all ≡ counts 2 1
completions-all = refl

demanded-all : demanded All (server 0) 1 in_all ≡ params 2 1
demanded-all = refl

sent-all : sent (server 1) in_all ≡ counts 1 1
sent-all = refl

pending-all : pending All (server 1) in_all ≡ counts 1 0
pending-all = refl

demanded-others : demanded Others (server 0) 1 in_others ≡ params 2 1
demanded-others = refl

sent-others : sent (server 1) in_others ≡ counts 2 2
sent-others = refl

pending-others : pending Others (server 1) in_others ≡ counts 0 0
pending-others = refl

others-others : others (server 1) in_others ≡ counts 1 1
others-others = refl

stamps-others : stamps (server 0) in_others ≡ 1
stamps-others = refl

responses-others : responses (server 0) Reservation in_others ≡ 1
responses-others = refl

responses-priority : responses (server 0) Priority in_others ≡ 0
responses-priority = refl

completions_at-all : completions_at (server 0) in_all ≡ counts 1 1
completions_at-all = refl

completions_at-weight : completions_at (server 1) in_all ≡ counts 1 0
completions_at-weight = refl

-- they are 2: the next response takes them to 3
response_full : IsResponseFull 2 1 in_all
response_full = omega arith

response_fits : IsResponseFull 3 1 in_all → ⊥
response_fits past = omega arith

-- in `Others` the next stamp to server 0 takes what is sent to it from 1 to 3
stamp_full : IsStampFull Others 2 (server 0) 1 in_others
stamp_full = inr (omega arith)

stamp_fits : IsStampFull Others 3 (server 0) 1 in_others → ⊥
stamp_fits (inl wide) = omega arith
stamp_fits (inr past) = omega arith

-- a stamp carries up to 2^32-1, in each form
wide_in_all : IsTooMuch All (2 ^ 62) 0 (2 ^ 32)
wide_in_all = omega arith

narrow_in_all : IsTooMuch All (2 ^ 62) 0 4294967295 → ⊥
narrow_in_all wide = omega arith

wide_in_others : IsTooMuch Others (2 ^ 62) 0 (2 ^ 32)
wide_in_others = inl (omega arith)

-- server 0 is skipped after these: what was pending there, (2, 1), is skipped, and the next stamp to it counts later responses
abbrev skipped_in_all : List TrackerEvent
skipped_in_all = in_all ++ (Skip (server 0) ∷ (Response (server 0) Priority 1 ∷ []))

skips-all : skips (server 0) skipped_in_all ≡ 1
skips-all = refl

skipped-all : skipped All (server 0) skipped_in_all ≡ counts 2 1
skipped-all = refl

skipped-elsewhere : skipped All (server 1) skipped_in_all ≡ counts 0 0
skipped-elsewhere = refl

sent-after_skip : sent (server 0) skipped_in_all ≡ counts 0 0
sent-after_skip = refl

pending-after_skip : pending All (server 0) skipped_in_all ≡ counts 1 0
pending-after_skip = refl

completions-after_skip : completions skipped_in_all ≡ counts 3 1
completions-after_skip = refl

-- in `Others` a skip has no share of its own, since it goes with no request
abbrev skipped_in_others : List TrackerEvent
skipped_in_others = in_others ++ (Skip (server 0) ∷ (Response (server 1) Priority 1 ∷ []))

skipped-others : skipped Others (server 0) skipped_in_others ≡ counts 1 0
skipped-others = refl

demanded-after_skip : demanded Others (server 0) 1 skipped_in_others ≡ params 2 1
demanded-after_skip = refl

stamps-after_skip : stamps (server 0) skipped_in_others ≡ 1
stamps-after_skip = refl

-- ---- requests of other costs

-- in `All` a response counts what it cost, and a stamp nothing of its own request
abbrev costs_in_all : List TrackerEvent
costs_in_all =
    Stamp (server 0) (costly 0 0 8) ∷ (Response (server 0) Reservation 8 ∷ (Stamp (server 1) (costly 8 8 2)
    ∷ (Response (server 1) Priority 2 ∷ [])))

costs_in_all-first : demanded All (server 0) 8 [] ≡ costly 0 0 8
costs_in_all-first = refl

costs_in_all-second : demanded All (server 1) 2 (Stamp (server 0) (costly 0 0 8) ∷ (Response (server 0) Reservation 8 ∷ [])) ≡ costly 8 8 2
costs_in_all-second = refl

costs_in_all-third : demanded All (server 0) 5 costs_in_all ≡ costly 10 8 5
costs_in_all-third = refl

costs_in_all-completions : completions costs_in_all ≡ counts 10 8
costs_in_all-completions = refl

costs_in_all-completions_at : completions_at (server 0) costs_in_all ≡ counts 8 8
costs_in_all-completions_at = refl

costs_in_all-sent : sent (server 1) costs_in_all ≡ counts 8 8
costs_in_all-sent = refl

-- how many there are, and what they cost
costs_in_all-responses : responses (server 0) Reservation costs_in_all ≡ 1
costs_in_all-responses = refl

costs_in_all-response_costs : response_costs (server 0) Reservation costs_in_all ≡ 8
costs_in_all-response_costs = refl

costs_in_all-response_costs_priority : response_costs (server 0) Priority costs_in_all ≡ 0
costs_in_all-response_costs_priority = refl

costs_in_all-stamps : stamps (server 1) costs_in_all ≡ 1
costs_in_all-stamps = refl

costs_in_all-stamp_costs : stamp_costs (server 1) costs_in_all ≡ 2
costs_in_all-stamp_costs = refl

costs_in_all-marks : marks (server 0) costs_in_all ≡ 1
costs_in_all-marks = refl

-- the completions are 10: a response of cost 3 takes them to 13
costs_in_all-full : IsResponseFull 12 3 costs_in_all
costs_in_all-full = omega arith

costs_in_all-fits : IsResponseFull 13 3 costs_in_all → ⊥
costs_in_all-fits past = omega arith

-- in `Others` a stamp counts the cost of its own request
abbrev costs_in_others : List TrackerEvent
costs_in_others =
    Stamp (server 0) (costly 8 8 8) ∷ (Response (server 0) Reservation 8 ∷ (Stamp (server 1) (costly 11 11 3)
    ∷ (Response (server 1) Priority 3 ∷ [])))

costs_in_others-first : demanded Others (server 0) 8 [] ≡ costly 8 8 8
costs_in_others-first = refl

costs_in_others-second : demanded Others (server 1) 3 (Stamp (server 0) (costly 8 8 8) ∷ (Response (server 0) Reservation 8 ∷ [])) ≡ costly 11 11 3
costs_in_others-second = refl

costs_in_others-third : demanded Others (server 0) 1 costs_in_others ≡ costly 4 1 1
costs_in_others-third = refl

costs_in_others-others : others (server 1) costs_in_others ≡ counts 8 8
costs_in_others-others = refl

costs_in_others-stamp_costs : stamp_costs (server 1) costs_in_others ≡ 3
costs_in_others-stamp_costs = refl

-- the next stamp to server 0 takes what is sent to it from 8 by what is pending, 3, and by the cost of its request
costs_in_others-full : IsStampFull Others 15 (server 0) 5 costs_in_others
costs_in_others-full = inr (omega arith)

costs_in_others-fits : IsStampFull Others 16 (server 0) 5 costs_in_others → ⊥
costs_in_others-fits (inl wide) = omega arith
costs_in_others-fits (inr past) = omega arith

-- ---- a stamp whose request no server took

-- the stamp of cost 3 to server 1 is given up: the next one, of cost 2, carries what it counted without its own cost
returned_in_others : with_returned Others (costly 11 11 3) (demanded Others (server 1) 2 costs_in_others) ≡ costly 10 10 2
returned_in_others = refl

-- and that is what the next one would carry if the other had not been stamped
demanded_without : demanded Others (server 1) 2 (Stamp (server 0) (costly 8 8 8) ∷ (Response (server 0) Reservation 8 ∷ (Response (server 1) Priority 3 ∷ []))) ≡ costly 10 10 2
demanded_without = refl

returned_in_all : with_returned All (costly 8 8 2) (demanded All (server 1) 5 costs_in_all) ≡ costly 10 8 5
returned_in_all = refl
