-- What the scan of all clients finds is the best of the set.
use Rattle.std.proofs.Common.{◌≡◌, Bool, true, false, cond, List, [], ◌∷◌, ◌++◌, Option, Some, None, refl, sym, ap, ◌∙◌, subst}
use Rattle.std.specs.Cmp.{IsTotalOrder}
use Rattle.std.specs.List.{AllByRecursion}
use Rattle.std.specs.Option.{option_map}
use Rattle.std.specs.Ordering.{is_lt, ordering_then}
use Rattle.std.specs.declared.cmp.Ordering.{Ordering}
use Rattle.std.specs.declared.cmp.Ordering.TheVariants.{Less, Equal, Greater}
use Rattle.std.proofs.lemmas.Bool.{false_from_ne_true}
use Rattle.dmc_types.specs.declared.ids.ClientId.{ClientId}
use Rattle.dmc_tag.specs.Tag.{Tagging}
use Rattle.dmc_tag.specs.State.{PlainClient, queued_requests}
use Rattle.dmc_tag.specs.Best.{best, Found, found_in, best_of_one, best_of_all, better_found, is_below, is_before, IsBest, IsBestOfAll, HasNone}
use Rattle.dmc_tag.specs.Rank.{last_if_absent, client_cmp, client_total}
use Rattle.dmc_tag.specs.declared.plain.QueuedRequest.{QueuedRequest}
use Rattle.dmc_tag.proofs.Before.{IsOrder, below_order, before_order, pair_before}
use Rattle.dmc_tag.proofs.BestIs as scans
use Rattle.dmc_tag.proofs.Scans.{not_found}
use Rattle.dmc_lemmas.proofs.Lists.{all_as, all_joined, all_at, all_append, all_first, all_second}
use Rattle.std.proofs.lemmas.Cmp.{tied_itself}

-- of two requests of one client, the tags decide
tags_decide : (r s : Ordering) → s ≡ Equal → is_lt (ordering_then r s) ≡ is_lt r
tags_decide Less s e = refl
tags_decide Equal s e = ap is_lt e
tags_decide Greater s e = refl

module _ {T : Type 0} (ops : Tagging T) (o : IsTotalOrder ops.compare) (tag : QueuedRequest T → Option T) (member : QueuedRequest T → Bool) where
  pairs : IsOrder (pair_before ops o tag)
  pairs = before_order ops o tag

  -- what is below within one client is before
  own_is : (id : ClientId) (x y : QueuedRequest T) → is_before ops tag id x id y ≡ is_below ops tag x y
  own_is id x y = tags_decide (last_if_absent ops.compare (tag x) (tag y)) (client_cmp id id) (tied_itself client_total id)

  -- no member of the list is before a request
  abbrev Unbeaten : ClientId → QueuedRequest T → PlainClient T → Type 0
  Unbeaten id r c = AllByRecursion (λ x. member x ≡ true → is_before ops tag c.id x id r ≡ false) c.requests

  -- a request is before each member of the list
  abbrev Ahead : ClientId → QueuedRequest T → PlainClient T → Type 0
  Ahead id r c = AllByRecursion (λ x. member x ≡ true → is_before ops tag id r c.id x ≡ true) c.requests

  -- ---- one client

  none_of_one : (c : PlainClient T) (b : Option (QueuedRequest T × List (QueuedRequest T))) → best (is_below ops tag) member c.requests ≡ b → option_map (found_in c) b ≡ None → HasNone member c.requests
  none_of_one c None q e = not_found (is_below ops tag) member c.requests q
  none_of_one c (Some p) q e = cc

  -- what is found at one client
  record IsBestOfOne (c : PlainClient T) (found : Found T) : Type 0 where
    client_is : found.client ≡ c
    own : IsBest (is_below ops tag) member found.client.requests found.request found.others

  found_at_one : (c : PlainClient T) (found : Found T) (b : Option (QueuedRequest T × List (QueuedRequest T))) → best (is_below ops tag) member c.requests ≡ b → option_map (found_in c) b ≡ Some found → IsBestOfOne c found
  found_at_one c found None q e = cc
  found_at_one c found (Some p) q e =
      let is : found_in c p ≡ found = cc in
      subst (IsBestOfOne c) is (record { client_is = refl; own = scans.found_is (is_below ops tag) (below_order ops o tag) member c.requests p q })

  -- no member of its own client is before it
  own_unbeaten : (id : ClientId) (xs : List (QueuedRequest T)) (r : QueuedRequest T) (others : List (QueuedRequest T)) → IsBest (is_below ops tag) member xs r others → AllByRecursion (λ x. member x ≡ true → is_before ops tag id x id r ≡ false) xs
  own_unbeaten id xs r others b =
      let Behind : QueuedRequest T → Type 0 = λ x. member x ≡ true → is_before ops tag id x id r ≡ false in
      let order = below_order ops o tag in
      subst (AllByRecursion Behind) (sym b.whole) (all_joined Behind b.front r b.back
      (all_as _ Behind (λ x h m. own_is id x r ∙ false_from_ne_true (is_below ops tag x r) (λ t. let round = order.trans x r x t (h m) in let not = order.irrefl x in cc)) b.front b.ahead)
      (λ m. own_is id r r ∙ order.irrefl r)
      (all_as _ Behind (λ x h m. own_is id x r ∙ h m) b.back b.behind))

  -- ---- a client and those behind it

  -- y is before x, and no member of the list is before x
  leads : (y x : ClientId × QueuedRequest T) (c : PlainClient T) → is_before ops tag y.0 y.1 x.0 x.1 ≡ true → Unbeaten x.0 x.1 c → Ahead y.0 y.1 c
  leads y x c e u = all_as _ _ (λ m h p. pairs.link y x (c.id, m) e (h p)) c.requests u

  -- y is not before x, and before each member of the list
  follows_ahead : (y x : ClientId × QueuedRequest T) (c : PlainClient T) → is_before ops tag y.0 y.1 x.0 x.1 ≡ false → Ahead y.0 y.1 c → Unbeaten x.0 x.1 c
  follows_ahead y x c e a = all_as _ _ (λ m h p. false_from_ne_true _ (λ t. let round = pairs.trans y (c.id, m) x (h p) t in cc)) c.requests a

  -- y is not before x, and no member of the list is before y
  follows_unbeaten : (y x : ClientId × QueuedRequest T) (c : PlainClient T) → is_before ops tag y.0 y.1 x.0 x.1 ≡ false → Unbeaten y.0 y.1 c → Unbeaten x.0 x.1 c
  follows_unbeaten y x c e u = all_as _ _ (λ m h p. false_from_ne_true _ (λ t. let round = pairs.chain y x (c.id, m) (h p) t in cc)) c.requests u

  -- nobody is before x who is not before y, the best of these clients, if y is not before x
  all_follow : (cs : List (PlainClient T)) (x y : Found T) → IsBestOfAll ops tag member cs y → is_before ops tag y.client.id y.request x.client.id x.request ≡ false → AllByRecursion (Unbeaten x.client.id x.request) cs
  all_follow cs x y b e =
      let of_x : ClientId × QueuedRequest T = (x.client.id, x.request) in
      let of_y : ClientId × QueuedRequest T = (y.client.id, y.request) in
      subst (AllByRecursion (Unbeaten x.client.id x.request)) (sym b.whole) (all_joined (Unbeaten x.client.id x.request) b.front y.client b.back
      (all_as (Ahead y.client.id y.request) (Unbeaten x.client.id x.request) (λ c. follows_ahead of_y of_x c e) b.front b.ahead)
      (follows_unbeaten of_y of_x y.client e (own_unbeaten y.client.id y.client.requests y.request y.others b.own))
      (all_as (Unbeaten y.client.id y.request) (Unbeaten x.client.id x.request) (λ c. follows_unbeaten of_y of_x c e) b.back b.behind))

  -- the one found at the first client is the best of all
  first_is : (c : PlainClient T) (cs : List (PlainClient T)) (x : Found T) → IsBestOfOne c x → AllByRecursion (Unbeaten x.client.id x.request) cs → IsBestOfAll ops tag member (c ∷ cs) x
  first_is c cs x is behind = record { front = []; back = cs; whole = ap (λ d. d ∷ cs) (sym is.client_is); own = is.own; ahead = tt; behind = behind }

  none_unbeaten : (id : ClientId) (r : QueuedRequest T) (cs : List (PlainClient T)) → HasNone member (queued_requests cs) → AllByRecursion (Unbeaten id r) cs
  none_unbeaten id r [] h = tt
  none_unbeaten id r (c ∷ cs) h =
      (all_as (λ x. member x ≡ false) (λ x. member x ≡ true → is_before ops tag c.id x id r ≡ false) (λ x f t. cc) c.requests (all_first _ c.requests (queued_requests cs) h), none_unbeaten id r cs (all_second _ c.requests (queued_requests cs) h))

  none_ahead : (id : ClientId) (r : QueuedRequest T) (c : PlainClient T) → HasNone member c.requests → Ahead id r c
  none_ahead id r c h = all_as (λ x. member x ≡ false) (λ x. member x ≡ true → is_before ops tag id r c.id x ≡ true) (λ x f t. cc) c.requests h

  -- the best of the others is the best of all
  later_is : (c : PlainClient T) (cs : List (PlainClient T)) (y : Found T) → IsBestOfAll ops tag member cs y → Ahead y.client.id y.request c → IsBestOfAll ops tag member (c ∷ cs) y
  later_is c cs y b ahead = record { front = c ∷ b.front; back = b.back; whole = ap (λ ds. c ∷ ds) b.whole; own = b.own; ahead = (ahead, b.ahead); behind = b.behind }

  -- ---- what the scan finds

  -- what the scan finds means, for each of its results
  abbrev Means : List (PlainClient T) → Option (Found T) → Type 0
  Means cs None = HasNone member (queued_requests cs)
  Means cs (Some found) = IsBestOfAll ops tag member cs found

  either_is : (c : PlainClient T) (cs : List (PlainClient T)) (x y : Found T) → IsBestOfOne c x → IsBestOfAll ops tag member cs y → (b : Bool) → is_before ops tag y.client.id y.request x.client.id x.request ≡ b → Means (c ∷ cs) (cond b (Some y) (Some x))
  either_is c cs x y one rest true e =
      later_is c cs y rest (leads (y.client.id, y.request) (x.client.id, x.request) c e
      (subst (Unbeaten x.client.id x.request) one.client_is (own_unbeaten x.client.id x.client.requests x.request x.others one.own)))
  either_is c cs x y one rest false e = first_is c cs x one (all_follow cs x y rest e)

  joined : (c : PlainClient T) (cs : List (PlainClient T)) (one rest : Option (Found T)) → best_of_one ops tag member c ≡ one → Means cs rest → Means (c ∷ cs) (better_found ops tag one rest)
  joined c cs None None q h = all_append _ c.requests (queued_requests cs) (none_of_one c _ refl q) h
  joined c cs None (Some y) q h = later_is c cs y h (none_ahead y.client.id y.request c (none_of_one c _ refl q))
  joined c cs (Some x) None q h = first_is c cs x (found_at_one c x _ refl q) (none_unbeaten x.client.id x.request cs h)
  joined c cs (Some x) (Some y) q h = either_is c cs x y (found_at_one c x _ refl q) h _ refl

  pub scan_means : (cs : List (PlainClient T)) → Means cs (best_of_all ops tag member cs)
  scan_means [] = tt
  scan_means (c ∷ cs) = joined c cs (best_of_one ops tag member c) (best_of_all ops tag member cs) refl (scan_means cs)

  -- what the scan finds is the best
  pub found_is : (cs : List (PlainClient T)) (found : Found T) → best_of_all ops tag member cs ≡ Some found → IsBestOfAll ops tag member cs found
  found_is cs found e = subst (Means cs) e (scan_means cs)
