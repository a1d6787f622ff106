use Rattle.std.proofs.Common.{◌≡◌, ◌<◌, ◌≤◌, ℕ, Result, Ok, Err, refl, sym, ◌∙◌, arith}
use Rattle.dmc_types.specs.Limits.{max_completions, max_events}
use Rattle.dmc_tracker.specs.Numbers.{AreLimits}
use Rattle.dmc_tlock.specs.Opening.{AreBookLimits}
use Rattle.dmc_lemmas.proofs.Options.{err_is}
use Rattle.dmc_tlock.proofs.parts.make_parts.Goals as goal

-- what is not refused is within the limits
taken_events : {A E : Type 0} (events : ℕ) (a : A) (e : E)
    → (((0 < events) × (events ≤ max_events) → ⊥) → ◌≡◌ {A = Result A E} (Ok a) (Err e)) → (0 < events) × (events ≤ max_events)
taken_events events a e refused =
    let within : ((0 < events) × (events ≤ max_events) → ⊥) → ⊥ = λ past. let is = refused past in cc in
    (grind (arith, within), grind (arith, within))

taken_servers : {A E : Type 0} (servers most : ℕ) (a : A) (e : E) → ((AreLimits servers most → ⊥) → ◌≡◌ {A = Result A E} (Ok a) (Err e)) → AreLimits servers most
taken_servers servers most a e refused =
    let within : ((0 < servers) × (servers ≤ 64) × (0 < most) × (most ≤ max_completions) → ⊥) → ⊥ =
    λ past. let is = refused (λ l. past (l.some_servers, l.servers_limit, l.some_most, l.max_limit)) in cc in
    record {
      some_servers = grind (arith, within);
      servers_limit = grind (arith, within);
      some_most = grind (arith, within);
      max_limit = grind (arith, within);
    }

-- equal successes have equal values
ok_value : {A E : Type 0} (a b : A) → ◌≡◌ {A = Result A E} (Ok a) (Ok b) → a ≡ b
ok_value a b is = cc

taken : {servers most events : ℕ} → AreLimits servers most → (0 < events) × (events ≤ max_events) → AreBookLimits servers most events
taken tracker events = record { tracker = tracker; some_events = events.0; events_limit = events.1 }

pub returns-then-servers-clause-limit : goal.returns-then-servers-clause-limit
returns-then-servers-clause-limit g c = λ _. refl

pub returns-then-servers-clause-memory : goal.returns-then-servers-clause-memory
returns-then-servers-clause-memory g c = λ limits. absurd (omega (arith, limits.tracker.servers_limit))

pub returns-in_default-clause-limit : goal.returns-in_default-clause-limit
returns-in_default-clause-limit g c = λ _. refl

pub returns-in_default-clause-memory : goal.returns-in_default-clause-memory
returns-in_default-clause-memory g c = λ limits. let made = c.in_default.ensures.ok (limits.some_events, limits.events_limit) in cc

pub returns-in_err-tracker-clause-limit : goal.returns-in_err-tracker-clause-limit
returns-in_err-tracker-clause-limit g c = λ past.
    let back = err_is _ _ c.from_residual.ensures.1 in
    let is = c.in_err-tracker.ensures.limit (λ tracker. past (taken tracker (taken_events _ _ _ c.in-Ok.ensures.refused))) in
    cc

pub returns-in_err-tracker-clause-memory : goal.returns-in_err-tracker-clause-memory
returns-in_err-tracker-clause-memory g c = λ limits. rw (err_is _ _ c.from_residual.ensures.1) (c.in_err-tracker.ensures.memory limits.tracker)

pub returns-in_err-tills-clause-limit : goal.returns-in_err-tills-clause-limit
returns-in_err-tills-clause-limit g c = λ past.
    absurd (past (taken (taken_servers _ _ _ _ c.in_ok-tracker.ensures.limit) (taken_events _ _ _ c.in-Ok.ensures.refused)))

pub returns-in_err-tills-clause-memory : goal.returns-in_err-tills-clause-memory
returns-in_err-tills-clause-memory g c = λ _. rw (err_is _ _ c.from_residual-in_err-tills.ensures.1) refl

pub returns-in_err-held-clause-limit : goal.returns-in_err-held-clause-limit
returns-in_err-held-clause-limit g c = λ past.
    absurd (past (taken (taken_servers _ _ _ _ c.in_ok-tracker.ensures.limit) (taken_events _ _ _ c.in-Ok.ensures.refused)))

pub returns-in_err-held-clause-memory : goal.returns-in_err-held-clause-memory
returns-in_err-held-clause-memory g c = λ _. rw (err_is _ _ c.from_residual-in_err-held.ensures.1) refl

pub returns-clause-tracker : goal.returns-clause-tracker
returns-clause-tracker g c = (c.in_ok-tracker.ensures.ok, c.in_ok-tracker.ensures.represents)

pub returns-clause-history : goal.returns-clause-history
returns-clause-history g c = rw (ok_value _ _ (c.in-Ok.ensures.ok (taken_events _ _ _ c.in-Ok.ensures.refused))) (refl, refl)

pub returns-clause-held : goal.returns-clause-held
returns-clause-held g c = sym c.in_ok-held.held.ok.0 ∙ c.in_ok-held.ensures.len

pub returns-clause-limits : goal.returns-clause-limits
returns-clause-limits g c =
    taken (taken_servers _ _ _ _ c.in_ok-tracker.ensures.limit) (taken_events _ _ _ c.in-Ok.ensures.refused)

pub returns-clause-limit : goal.returns-clause-limit
returns-clause-limit g c = λ past. absurd (past (returns-clause-limits g c))
