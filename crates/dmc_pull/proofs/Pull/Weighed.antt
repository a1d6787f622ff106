-- The result of a pull, from the client that the call in it named: by R, by P, or none.
use Rattle.std.proofs.Common.{◌≡◌, ℕ, Bool, true, false, List, [], ◌∷◌, Option, Some, None, refl, inl, inr, sym, ap, ◌∙◌, subst}
use Rattle.std.specs.Prelude.{IfSome, ◌⊎◌, Result, Ok}
use Rattle.std.specs.Option.{option_map}
use Rattle.dmc_types.specs.declared.ids.ClientId.{ClientId}
use Rattle.dmc_types.specs.declared.config.AtLimit.{AtLimit}
use Rattle.dmc_types.specs.declared.config.AtLimit.TheVariants.{Wait, Allow, Reject}
use Rattle.dmc_types.specs.declared.config.PhaseType.{PhaseType}
use Rattle.dmc_types.specs.declared.config.PhaseType.TheVariants.{Reservation}
use Rattle.dmc_types.specs.declared.command.Command.TheVariants.{Pull}
use Rattle.dmc_tag.specs.Tag.{Tagging}
use Rattle.dmc_tag.specs.State.{State, PlainClient, effective, queued_requests}
use Rattle.dmc_tag.specs.Step.{answer_of, step}
use Rattle.dmc_tag.specs.Best.{Found, best_of_all, by_reservation, by_weight, is_early, is_free, is_any, HasNone}
use Rattle.dmc_tag.specs.Rules.{pulled, pulled_early, pulled_free, nothing_due, at_limit, grant_found, grant_priority, least_due, taken_out, granted}
use Rattle.dmc_tag.specs.declared.plain.QueuedRequest.{QueuedRequest}
use Rattle.dmc_tag.specs.declared.reply.Pulled.{Pulled}
use Rattle.dmc_tag.specs.declared.reply.Reply.{Reply}
use Rattle.dmc_tag.specs.declared.reply.Reply.TheVariants.{Registered, Updated, Tagged, Granted, Later, Nothing, Removed, Cleaned, Refused}
use Rattle.dmc_roster.specs.Entries.{Entry}
use Rattle.dmc_pull.specs.Allowed.{is_allowed}
use Rattle.dmc_pull.specs.internal.Allowed.{SettlesIf}
use Rattle.dmc_pull.specs.internal.Choice.{first_at, IsFirstOf, ByWeight, Settles}
use Rattle.dmc_pull.specs.Represented.{clients_in}
use Rattle.dmc_pull.specs.declared.granting.PullFault.{PullFault}
use Rattle.dmc_tag.proofs.ForCallers.{none_of_all}

-- ---- the client that is named

-- the two settings with which a pull waits at the limit
pub is_not_allowing : (l : AtLimit) → (l ≡ Wait) ⊎ ((threshold : ℕ) × (l ≡ Reject threshold)) → l ≡ Allow → ⊥
is_not_allowing l (inl wait) allow = let same : Wait ≡ Allow = sym wait ∙ allow in cc (same)
is_not_allowing l (inr reject) allow = let same : Reject reject.0 ≡ Allow = sym reject.1 ∙ allow in cc (same)

module _ {T : Type 0} (ops : Tagging T) (t : ℕ) (entries : List (Entry T)) (key : ℕ) (client : ClientId) where
  pub has_first : (free : Bool) → ByWeight ops t entries (Some (key, client, free)) → IsFirstOf entries key client
  has_first true h = h.1
  has_first false h = h.2

  pub free_is : (free : Bool) → ByWeight ops t entries (Some (key, client, free)) → free ≡ true → best_of_all ops by_weight (is_free ops t) (clients_in entries) ≡ first_at key entries
  free_is true h e = h.0
  free_is false h e = cc

  pub none_is_free : (free : Bool) → ByWeight ops t entries (Some (key, client, free)) → free ≡ false → best_of_all ops by_weight (is_free ops t) (clients_in entries) ≡ None
  none_is_free true h e = cc
  none_is_free false h e = h.0

  pub any_is : (free : Bool) → ByWeight ops t entries (Some (key, client, free)) → free ≡ false → best_of_all ops by_weight is_any (clients_in entries) ≡ first_at key entries
  any_is true h e = cc
  any_is false h e = h.1

-- ---- by P

module _ {T : Type 0} (ops : Tagging T) (s : State T) where
  abbrev t : ℕ
  t = s.last_moment

  abbrev free : Option (Found T)
  free = best_of_all ops by_weight (is_free ops t) s.clients

  pub nothing_answers : queued_requests s.clients ≡ [] → let answer : State T × Reply T = (s, Nothing) in answer ≡ answer_of s (pulled_free ops s t free)
  nothing_answers e =
      let none = none_of_all ops by_weight (is_free ops t) s.clients (subst (HasNone (is_free ops t)) (sym e) tt) in
      sym (ap (λ o. answer_of s (pulled_free ops s t o)) none ∙ ap (λ xs. answer_of s (nothing_due ops s t xs)) e)

  -- where one is found something is queued
  some_queued : (clients : List (PlainClient T)) (found : Found T) → best_of_all ops by_weight is_any clients ≡ Some found → queued_requests clients ≡ [] → ⊥
  some_queued clients found e none = let nothing = none_of_all ops by_weight is_any clients (subst (HasNone is_any) (sym none) tt) in let no : Some found ≡ None = sym e ∙ nothing in cc (no)

  module _ (first : Option (Found T)) (client : ClientId) (named : option_map (λ found. found.client.id) first ≡ Some client) where
    module _ (allows : ClientId → PhaseType → Bool) (new : State T) (answer : Result Pulled PullFault) where
      pub free_answers : free ≡ first → IfSome first (λ found. SettlesIf allows s new (grant_priority ops s t found false) answer)
          → SettlesIf allows s new (pulled_free ops s t free) answer
      free_answers e h = subst (λ o. SettlesIf allows s new (pulled_free ops s t o) answer) (sym e) (at first named h) where
        at : (o : Option (Found T)) → option_map (λ found. found.client.id) o ≡ Some client
            → IfSome o (λ found. SettlesIf allows s new (grant_priority ops s t found false) answer) → SettlesIf allows s new (pulled_free ops s t o) answer
        at None n h = cc
        at (Some found) n h = h

      any_at : (xs : List (QueuedRequest T)) → queued_requests s.clients ≡ xs → (o : Option (Found T)) → best_of_all ops by_weight is_any s.clients ≡ o → option_map (λ found. found.client.id) o ≡ Some client
          → s.config.at_limit ≡ Allow
          → IfSome o (λ found. SettlesIf allows s new (grant_priority ops s t found true) answer) → SettlesIf allows s new (nothing_due ops s t xs) answer
      any_at xs q None e n limit h = cc
      any_at [] q (Some found) e n limit h = absurd (some_queued s.clients found e q)
      any_at (x ∷ xs) q (Some found) e n limit h =
          subst (λ l. SettlesIf allows s new (at_limit ops s t l x xs) answer) (sym limit) (subst (λ o. SettlesIf allows s new (grant_found ops s t true o) answer) (sym e) h)

      -- none is free, and the best of all is granted
      pub any_answers : free ≡ None → best_of_all ops by_weight is_any s.clients ≡ first → s.config.at_limit ≡ Allow
          → IfSome first (λ found. SettlesIf allows s new (grant_priority ops s t found true) answer) → SettlesIf allows s new (pulled_free ops s t free) answer
      any_answers none e limit h = subst (λ o. SettlesIf allows s new (pulled_free ops s t o) answer) (sym none) (any_at (queued_requests s.clients) refl first e named limit h)

    later_at : {m : ℕ} (xs : List (QueuedRequest T)) → queued_requests s.clients ≡ xs → (o : Option (Found T)) → best_of_all ops by_weight is_any s.clients ≡ o → option_map (λ found. found.client.id) o ≡ Some client
        → (s.config.at_limit ≡ Allow → ⊥) → ((x : QueuedRequest T) (rest : List (QueuedRequest T)) → xs ≡ x ∷ rest → m ≡ least_due ops x rest)
        → let answer : State T × Reply T = (s, Later m) in answer ≡ answer_of s (nothing_due ops s t xs)
    later_at xs q None e n limit due = cc
    later_at [] q (Some found) e n limit due = absurd (some_queued s.clients found e q)
    later_at (x ∷ xs) q (Some found) e n limit due = ap (λ (m : ℕ). (s, Later m)) (due x xs refl) ∙ waits s.config.at_limit limit where
      waits : (l : AtLimit) → (l ≡ Allow → ⊥) → let answer : State T × Reply T = (s, Later (least_due ops x xs)) in answer ≡ answer_of s (at_limit ops s t l x xs)
      waits Wait never = refl
      waits (Reject threshold) never = refl
      waits Allow never = absurd (never refl)

    -- none is free, and the moment is returned at which one is due
    pub later_answers : {m : ℕ} → free ≡ None → best_of_all ops by_weight is_any s.clients ≡ first → (s.config.at_limit ≡ Allow → ⊥)
        → ((x : QueuedRequest T) (rest : List (QueuedRequest T)) → queued_requests s.clients ≡ x ∷ rest → m ≡ least_due ops x rest)
        → let answer : State T × Reply T = (s, Later m) in answer ≡ answer_of s (pulled_free ops s t free)
    later_answers none e limit due = later_at (queued_requests s.clients) refl first e named limit due ∙ ap (λ o. answer_of s (pulled_free ops s t o)) (sym none)

-- ---- by R

module _ {T : Type 0} (ops : Tagging T) (s : State T) (at t : ℕ) (moment : t ≡ effective s at) (allows : ClientId → PhaseType → Bool) (client : ClientId) where
  early_step : (o : Option (Found T)) → best_of_all ops by_reservation (is_early ops t) s.clients ≡ o → answer_of s (pulled_early ops s t o) ≡ step ops s (Pull at)
  early_step o e = ap (λ o. answer_of s (pulled_early ops s t o)) (sym e) ∙ ap (λ n. answer_of s (pulled ops s n)) moment

  allowed_as : (b : Bool) (found : Found T) → ◌≡◌ {A = Option ClientId} (Some found.client.id) (Some client) → allows client Reservation ≡ b
      → is_allowed {T = T} allows (granted found Reservation false) ≡ b
  allowed_as b found n e = let same : found.client.id ≡ client = cc (n) in ap (λ id. allows id Reservation) same ∙ e

  -- the grant that the test allows
  pub early_answers : (new : State T) (reply : Reply T) (o : Option (Found T)) → best_of_all ops by_reservation (is_early ops t) s.clients ≡ o
      → option_map (λ found. found.client.id) o ≡ Some client → allows client Reservation ≡ true
      → IfSome o (λ found. Settles s new (Ok (taken_out ops s t found Reservation None, granted found Reservation false)) (Some reply))
      → let answer : State T × Reply T = (new, reply) in (answer ≡ step ops s (Pull at)) × (is_allowed allows reply ≡ true)
  early_answers new reply None e n allowed h = cc
  early_answers new reply (Some found) e n allowed h = (h ∙ early_step (Some found) e, ap (λ p. is_allowed allows p.1) h ∙ allowed_as true found n allowed)

  -- the grant that it does not allow
  pub early_declined : (o : Option (Found T)) → best_of_all ops by_reservation (is_early ops t) s.clients ≡ o → option_map (λ found. found.client.id) o ≡ Some client
      → allows client Reservation ≡ false → is_allowed allows ((step ops s (Pull at)).1) ≡ false
  early_declined None e n denied = cc
  early_declined (Some found) e n denied = ap (λ p. is_allowed allows p.1) (sym (early_step (Some found) e)) ∙ allowed_as false found n denied

-- ---- the test that every grant passes

passes_all : {T : Type 0} (reply : Reply T) → is_allowed (λ client phase. true) reply ≡ true
passes_all Registered = refl
passes_all Updated = refl
passes_all (Tagged tags) = refl
passes_all (Granted client token phase beyond cost) = refl
passes_all (Later m) = refl
passes_all Nothing = refl
passes_all (Removed count) = refl
passes_all (Cleaned idled erased) = refl
passes_all (Refused refusal) = refl

pub never_declined : {T : Type 0} (reply : Reply T) → is_allowed (λ client phase. true) reply ≡ false → ⊥
never_declined reply e = let both : true ≡ false = sym (passes_all reply) ∙ e in cc (both)
