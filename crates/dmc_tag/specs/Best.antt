-- Sets of requests, and the best of a set over all clients: the member with the least (tag, client, order of arrival).
use Rattle.std.specs.List.{AllByRecursion}
use Rattle.std.specs.Prelude.{◌≡◌, ◌++◌, ℕ, Bool, true, false, not, ◌&&◌, List, [], ◌∷◌, Option, Some, None, if◌then◌else◌}
use Rattle.std.specs.Option.{option_map}
use Rattle.std.specs.Ordering.{is_lt, is_gt, ordering_then}
use Rattle.dmc_types.specs.declared.ids.ClientId.{ClientId}
use Rattle.dmc_tag.specs.Rank.{last_if_absent, client_cmp}
use Rattle.dmc_tag.specs.State.{PlainClient}
use Rattle.dmc_tag.specs.Tag.{Tagging}
use Rattle.dmc_tag.specs.declared.plain.QueuedRequest.{QueuedRequest}

-- the tag is at or before the moment
abbrev pub is_due : {T : Type 0} → Tagging T → ℕ → Option T → Bool
is_due ops t None = false
is_due ops t (Some tag) = not (is_gt (ops.compare tag (ops.of_moment t)))

-- ---- sets

-- R <= t
abbrev pub is_early : {T : Type 0} → Tagging T → ℕ → QueuedRequest T → Bool
is_early ops t r = is_due ops t r.tags.r

-- L <= t
abbrev pub is_free : {T : Type 0} → Tagging T → ℕ → QueuedRequest T → Bool
is_free ops t r = is_due ops t (Some r.tags.l)

abbrev pub is_any : {T : Type 0} → QueuedRequest T → Bool
is_any r = true

-- ---- the tag by which the best is chosen

abbrev pub by_reservation : {T : Type 0} → QueuedRequest T → Option T
by_reservation r = r.tags.r

abbrev pub by_weight : {T : Type 0} → QueuedRequest T → Option T
by_weight r = Some r.tags.p

-- ---- the best of one client's requests

-- x and the requests after it; or the best of those, if x is no member or one of them is before it
abbrev pub better : {R : Type 0} → (R → R → Bool) → Bool → R → List R → Option (R × List R) → Option (R × List R)
better before member x xs None = if member then Some (x, xs) else None
better before member x xs (Some (y, others)) = if member && not (before y x) then Some (x, xs) else Some (y, x ∷ others)

-- the best of the members, and the list without it
abbrev pub best : {R : Type 0} → (R → R → Bool) → (R → Bool) → List R → Option (R × List R)
best before member [] = None
best before member (x ∷ xs) = better before (member x) x xs (best before member xs)

-- the tag of one request is below the other's
abbrev pub is_below : {T : Type 0} → Tagging T → (QueuedRequest T → Option T) → QueuedRequest T → QueuedRequest T → Bool
is_below ops tag a b = is_lt (last_if_absent ops.compare (tag a) (tag b))

-- ---- the best of all clients' requests

-- a request, its client, and the client's other requests
pub record Found (T : Type 0) : Type 0 where
  pub client : PlainClient T
  pub request : QueuedRequest T
  pub others : List (QueuedRequest T)

abbrev pub found_in : {T : Type 0} → PlainClient T → QueuedRequest T × List (QueuedRequest T) → Found T
found_in c (request, others) = record { client = c; request = request; others = others }

-- the best of one client's requests
abbrev pub best_of_one : {T : Type 0} → Tagging T → (QueuedRequest T → Option T) → (QueuedRequest T → Bool) → PlainClient T → Option (Found T)
best_of_one ops tag member c = option_map (found_in c) (best (is_below ops tag) member c.requests)

-- a client's request is before another client's in (tag, client)
abbrev pub is_before : {T : Type 0} → Tagging T → (QueuedRequest T → Option T) → ClientId → QueuedRequest T → ClientId → QueuedRequest T → Bool
is_before ops tag a r b s = is_lt (ordering_then (last_if_absent ops.compare (tag r) (tag s)) (client_cmp a b))

-- of two that were found, the one that is before the other; the first, if neither is
abbrev pub better_found : {T : Type 0} → Tagging T → (QueuedRequest T → Option T) → Option (Found T) → Option (Found T) → Option (Found T)
better_found ops tag None y = y
better_found ops tag (Some x) None = Some x
better_found ops tag (Some x) (Some y) = if is_before ops tag y.client.id y.request x.client.id x.request then Some y else Some x

abbrev pub best_of_all : {T : Type 0} → Tagging T → (QueuedRequest T → Option T) → (QueuedRequest T → Bool) → List (PlainClient T) → Option (Found T)
best_of_all ops tag member [] = None
best_of_all ops tag member (c ∷ cs) = better_found ops tag (best_of_one ops tag member c) (best_of_all ops tag member cs)

-- ---- what that means

-- r is a member, no member of the list is before it, nor is any that came earlier as good, and the others are the list without it
pub record IsBest {R : Type 0} (before : R → R → Bool) (member : R → Bool) (xs : List R) (r : R) (others : List R) : Type 0 where
  pub front : List R
  pub back : List R
  pub whole : xs ≡ front ++ r ∷ back
  pub rest : others ≡ front ++ back
  pub is_member : member r ≡ true
  -- it is before each member that came earlier, and no member that came later is before it
  pub ahead : AllByRecursion (λ x. member x ≡ true → before r x ≡ true) front
  pub behind : AllByRecursion (λ x. member x ≡ true → before x r ≡ false) back

-- The request is the best of its client's. It is before each member of the clients that registered earlier, and no member of
-- those that registered later is before it.
pub record IsBestOfAll {T : Type 0} (ops : Tagging T) (tag : QueuedRequest T → Option T) (member : QueuedRequest T → Bool) (clients : List (PlainClient T)) (found : Found T) : Type 0 where
  pub front : List (PlainClient T)
  pub back : List (PlainClient T)
  pub whole : clients ≡ front ++ found.client ∷ back
  pub own : IsBest (is_below ops tag) member found.client.requests found.request found.others
  pub ahead : AllByRecursion (λ c. AllByRecursion (λ x. member x ≡ true → is_before ops tag found.client.id found.request c.id x ≡ true) c.requests) front
  pub behind : AllByRecursion (λ c. AllByRecursion (λ x. member x ≡ true → is_before ops tag c.id x found.client.id found.request ≡ false) c.requests) back

-- the list has no member
abbrev pub HasNone : {R : Type 0} → (R → Bool) → List R → Type 0
HasNone member xs = AllByRecursion (λ x. member x ≡ false) xs
