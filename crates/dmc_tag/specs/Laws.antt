-- What follows from the rules, in the words of the subject.
use Rattle.std.specs.Prelude.{◌≡◌, ℕ, ◌<◌, ◌⊎◌, Bool, true, false, List, [], ◌∷◌, ◌++◌, Option, None, Ok}
use Rattle.dmc_types.specs.declared.ids.ClientId.{ClientId}
use Rattle.dmc_types.specs.declared.ids.Token.{Token}
use Rattle.dmc_types.specs.declared.config.AtLimit.TheVariants.{Allow}
use Rattle.dmc_types.specs.declared.config.PhaseType.{PhaseType}
use Rattle.dmc_types.specs.declared.config.PhaseType.TheVariants as phases
use Rattle.dmc_types.specs.declared.refusal.Refusal.TheVariants.{Range}
use Rattle.dmc_tag.specs.Tag.{Tagging}
use Rattle.dmc_tag.specs.State.{State, PlainClient, queued_requests}
use Rattle.dmc_tag.specs.Best.{Found, IsBestOfAll, HasNone, is_early, is_free, is_any, by_reservation, by_weight}
use Rattle.dmc_tag.specs.Rules.{reduction_at, taken_out}
use Rattle.dmc_tag.specs.declared.plain.QueuedRequest.{QueuedRequest}
use Rattle.dmc_tag.specs.declared.reply.Reply.{Reply}
use Rattle.dmc_tag.specs.declared.reply.Reply.TheVariants.{Registered, Updated, Tagged, Granted, Later, Nothing, Removed, Cleaned, Refused}

-- what a grant takes off the R tags of its client: in the weight phase hz/r for each unit of its cost, or nothing without a
-- reservation; in the constraint phase nothing
abbrev pub IsReduction : {T : Type 0} → Tagging T → ℕ → PlainClient T → ℕ → PhaseType → Option T → Type 0
IsReduction ops hz client cost phases.Reservation reduction = reduction ≡ None
IsReduction ops hz client cost phases.Priority reduction = reduction_at ops hz client.info.reservation cost ≡ Ok reduction

-- The best of a set is granted at t, and taken out of its client's requests. The client's R tags are reduced, under Shares::Virtual
-- a grant by weight takes the virtual time to its P, and all else stays.
pub record Grants {T : Type 0} (ops : Tagging T) (t : ℕ) (phase : PhaseType) (tag : QueuedRequest T → Option T) (member : QueuedRequest T → Bool) (old new : State T) (client : ClientId) (token : Token) (cost : ℕ) : Type 0 where
  pub found : Found T
  pub reduction : Option T
  pub best : IsBestOfAll ops tag member old.clients found
  pub client_is : client ≡ found.client.id
  pub token_is : token ≡ found.request.token
  pub cost_is : cost ≡ found.request.cost
  pub reduction_is : IsReduction ops old.config.hz found.client found.request.cost phase reduction
  pub state_is : new ≡ taken_out ops old t found phase reduction

-- some request of the list is early or free at m
pub record HasDue {T : Type 0} (ops : Tagging T) (m : ℕ) (requests : List (QueuedRequest T)) : Type 0 where
  pub request : QueuedRequest T
  pub front : List (QueuedRequest T)
  pub back : List (QueuedRequest T)
  pub whole : requests ≡ front ++ request ∷ back
  pub due : (is_early ops m request ≡ true) ⊎ (is_free ops m request ≡ true)

-- Before m no request is early or free, and at m one is.
pub record IsNextDue {T : Type 0} (ops : Tagging T) (m : ℕ) (requests : List (QueuedRequest T)) : Type 0 where
  pub none_early : (n : ℕ) → n < m → HasNone (is_early ops n) requests
  pub none_free : (n : ℕ) → n < m → HasNone (is_free ops n) requests
  pub some : HasDue ops m requests

-- what the reply to a pull at t means, and the state after it
abbrev pub Pulls : {T : Type 0} → Tagging T → ℕ → State T → State T → Reply T → Type 0
Pulls ops t old new (Granted client token phases.Reservation beyond cost) = (beyond ≡ false) × Grants ops t phases.Reservation by_reservation (is_early ops t) old new client token cost
Pulls ops t old new (Granted client token phases.Priority false cost) = HasNone (is_early ops t) (queued_requests old.clients) × Grants ops t phases.Priority by_weight (is_free ops t) old new client token cost
Pulls ops t old new (Granted client token phases.Priority true cost) = HasNone (is_early ops t) (queued_requests old.clients) × HasNone (is_free ops t) (queued_requests old.clients) × (old.config.at_limit ≡ Allow) × Grants ops t phases.Priority by_weight is_any old new client token cost
Pulls ops t old new (Later m) = HasNone (is_early ops t) (queued_requests old.clients) × HasNone (is_free ops t) (queued_requests old.clients) × (old.config.at_limit ≡ Allow → ⊥) × IsNextDue ops m (queued_requests old.clients) × (new ≡ record old { last_moment = t })
Pulls ops t old new Nothing = (queued_requests old.clients ≡ []) × (new ≡ record old { last_moment = t })
Pulls ops t old new (Refused refusal) = (refusal ≡ Range) × (new ≡ old)
-- there is no other reply
Pulls ops t old new Registered = ⊥
Pulls ops t old new Updated = ⊥
Pulls ops t old new (Tagged tags) = ⊥
Pulls ops t old new (Removed count) = ⊥
Pulls ops t old new (Cleaned idled erased) = ⊥
