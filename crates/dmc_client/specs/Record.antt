-- What contracts see of a client's record, what it represents in a plain state, and its invariant.
use Rattle.std.specs.Prelude.{◌≡◌, ℕ, Bool, true, false, ◌&&◌, ◌||◌, List, [], ◌∷◌, ◌++◌, map, is_some, filter_map}
use Rattle.std.specs.Option.{option_map_or}
use Rattle.std.specs.List.{list_all, AllByRecursion}
use Rattle.dmc_types.specs.Values.{Rates}
use Rattle.dmc_types.specs.declared.ids.ClientId.{ClientId}
use Rattle.dmc_types.specs.declared.ids.Token.{Token}
use Rattle.dmc_tag.specs.Tag.{Tagging}
use Rattle.dmc_tag.specs.Order.{AreSpacings, NotBelow}
use Rattle.dmc_tag.specs.State.{PlainClient}
use Rattle.dmc_tag.specs.Cancel.{staying, befores_after, no_befores, last_has_token, fallen_previous}
use Rattle.dmc_tag.specs.Rules.{no_previous, previous_after, less, has_less, less_share, less_reservation}
use Rattle.dmc_tag.specs.declared.plain.Previous.{Previous}
use Rattle.dmc_tag.specs.declared.plain.Slack.{Slack}
use Rattle.dmc_tag.specs.declared.spacing.Spacings.{Spacings}
use Rattle.dmc_tag.specs.declared.plain.QueuedRequest.{QueuedRequest}
use Rattle.dmc_client.specs.Order.{InOrder}

pub record Rec (T : Type 0) : Type 0 where
  pub info : Rates
  pub spacings : Spacings T
  pub previous : Previous T
  pub idle : Bool
  -- the effective moment of its last accepted request, or of its registration if there is none
  pub last_arrival : ℕ
  -- in order of arrival
  pub requests : List (QueuedRequest T)

-- ---- what a record represents, under a client's id

abbrev pub client_of : {T : Type 0} → ClientId → Rec T → PlainClient T
client_of id rec = record { id = id; info = rec.info; previous = rec.previous; idle = rec.idle; last_arrival = rec.last_arrival; requests = rec.requests }

-- ---- the invariant of every record

-- the tags of one kind, front first, and the previous one last
abbrev pub reservation_tags : {T : Type 0} → Rec T → List T
reservation_tags rec = filter_map (λ r. r.tags.r) rec.requests ++ rec.previous.r ∷ []

abbrev pub limit_tags : {T : Type 0} → Rec T → List T
limit_tags rec = map (λ r. r.tags.l) rec.requests ++ rec.previous.l ∷ []

abbrev pub share_tags : {T : Type 0} → Rec T → List T
share_tags rec = map (λ r. r.tags.p) rec.requests ++ rec.previous.p ∷ []

-- No tag decreases from front to back, and the previous tags are not below the last queued ones. A request has an R
-- exactly if the client has a reservation. An idle client has nothing queued.
pub record IsRecord {T : Type 0} (ops : Tagging T) (rec : Rec T) : Type 0 where
  pub spacings : AreSpacings ops rec.info rec.spacings
  pub reserved : AllByRecursion (λ r. is_some r.tags.r ≡ is_some rec.info.reservation) rec.requests
  pub reservations : InOrder ops (reservation_tags rec)
  pub limits : InOrder ops (limit_tags rec)
  pub shares : InOrder ops (share_tags rec)
  pub idle : rec.idle ≡ true → rec.requests ≡ []
  -- no slack is below 0
  pub slacks : AllByRecursion (λ r. NotBelow ops r.slack) rec.requests
  pub slack : NotBelow ops rec.previous.slack

-- ---- what a record becomes by a call

-- a client that is registered at a moment
abbrev pub registered_at : {T : Type 0} → Tagging T → Rates → Spacings T → ℕ → Rec T
registered_at ops info spacings at =
    record { info = info; spacings = spacings; previous = no_previous ops; idle = true; last_arrival = at; requests = [] }

-- a request arrives at a moment
abbrev pub pushed : {T : Type 0} → QueuedRequest T → ℕ → Rec T → Rec T
pushed request at rec = record rec {
  previous = previous_after request.tags request.slack rec.previous;
  idle = false;
  last_arrival = at;
  requests = rec.requests ++ request ∷ [];
}

-- the requests with a token are taken back
abbrev pub without_token : {T : Type 0} → Tagging T → Token → (ℕ → Slack T) → Rec T → Rec T
without_token ops token charged rec = record rec {
  previous = fallen_previous ops (befores_after ops token charged no_befores rec.requests) (rec.previous.cancelled || last_has_token token rec.requests) rec.previous;
  requests = staying ops token charged no_befores rec.requests;
}

-- each P less an amount
abbrev pub less_shares : {T : Type 0} → Tagging T → T → Rec T → Rec T
less_shares ops amount rec = record rec {
  previous = record (rec.previous) { p = less ops amount rec.previous.p };
  requests = map (less_share ops amount) rec.requests;
}

-- each R less an amount
abbrev pub less_reservations : {T : Type 0} → Tagging T → T → Rec T → Rec T
less_reservations ops amount rec = record rec {
  previous = record (rec.previous) { r = less ops amount rec.previous.r };
  requests = map (less_reservation ops amount) rec.requests;
}

-- each of these is a value
abbrev pub has_less_shares : {T : Type 0} → Tagging T → T → Rec T → Bool
has_less_shares ops amount rec = list_all (λ r. has_less ops amount r.tags.p) rec.requests && has_less ops amount rec.previous.p

abbrev pub has_less_reservations : {T : Type 0} → Tagging T → T → Rec T → Bool
has_less_reservations ops amount rec = list_all (λ r. option_map_or (has_less ops amount) r.tags.r true) rec.requests && has_less ops amount rec.previous.r
