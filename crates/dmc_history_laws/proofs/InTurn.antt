-- The requests of a client are in order of their tags, so that its first is granted first; and the result of a pull.
use Rattle.std.proofs.Common.{◌≡◌, ℕ, Bool, true, false, not, List, [], ◌∷◌, ◌++◌, Option, Some, None, refl, sym, ap, ◌∙◌, subst, Ok, Err}
use Rattle.std.specs.Prelude.{is_some, IfSome, ⊤}
use Rattle.std.specs.List.{AllByRecursion}
use Rattle.std.specs.declared.cmp.Ordering.{Ordering}
use Rattle.std.specs.declared.cmp.Ordering.TheVariants.{Less, Equal, Greater}
use Rattle.std.specs.Ordering.{is_gt, is_lt, ordering_reverse, ordering_then}
use Rattle.std.specs.Cmp.{IsTotalOrder}
use Rattle.std.proofs.lemmas.Bool.{not-false}
use Rattle.dmc_types.specs.Values.{Rates}
use Rattle.dmc_types.specs.declared.config.AtLimit.{AtLimit}
use Rattle.dmc_types.specs.declared.config.AtLimit.TheVariants.{Wait, Allow, Reject}
use Rattle.dmc_types.specs.declared.config.PhaseType.{PhaseType}
use Rattle.dmc_types.specs.declared.config.PhaseType.TheVariants.{Reservation, Priority}
use Rattle.dmc_types.specs.declared.refusal.Refusal.{Refusal}
use Rattle.dmc_types.specs.declared.refusal.Refusal.TheVariants.{Range}
use Rattle.dmc_tag.specs.Tag.{Tagging}
use Rattle.dmc_tag.specs.Order.{AtMost}
use Rattle.dmc_tag.specs.Outcome.{refuse_if}
use Rattle.dmc_tag.specs.Rank.{last_if_absent, absent_total}
use Rattle.dmc_tag.specs.State.{State, PlainClient, queued_requests}
use Rattle.dmc_tag.specs.Best.{Found, by_reservation, by_weight, is_below, is_early, is_free, is_any, IsBest, IsBestOfAll, best_of_all}
use Rattle.dmc_tag.specs.Laws.{IsReduction}
use Rattle.dmc_tag.specs.Rules as rules_of
use Rattle.dmc_tag.specs.Rules.{Outcome}
use Rattle.dmc_tag.specs.declared.plain.Previous.{Previous}
use Rattle.dmc_tag.specs.declared.plain.QueuedRequest.{QueuedRequest}
use Rattle.dmc_tag.specs.declared.reply.Tags.{Tags}
use Rattle.dmc_tag.specs.declared.reply.Reply.TheVariants.{Later, Nothing}
use Rattle.dmc_tag.proofs.ForCallers.{found_is_best_of_all}
use Rattle.dmc_lemmas.proofs.Lists.{all_as, all_at, all_joined}
use Rattle.dmc_lemmas.proofs.Orderings.{less_if_lt}
use Rattle.dmc_tag.proofs.Upto.{IsUpto, at_most_itself, due_before}
use Rattle.dmc_tag.proofs.TagOrder.{bound}
use Rattle.dmc_history_laws.proofs.Basics.{bind_goes, allowed}
use Rattle.dmc_history_laws.proofs.Falling.{IsSlack}
use Rattle.dmc_history_laws.proofs.Pairs.{Pairwise, AreDistinct, pairs_at}

-- what is not above is not behind
not_ahead : (r s : Ordering) → s ≡ ordering_reverse r → is_gt r ≡ false → is_lt s ≡ true → ⊥
not_ahead Less s e h t = cc
not_ahead Equal s e h t = cc
not_ahead Greater s e h t = cc

module _ {T : Type 0} (ops : Tagging T) (order : IsTotalOrder ops.compare) where
  -- no tag of the one is above that of the other
  pub record NotAbove (a b : Tags T) : Type 0 where
    pub r : IsUpto ops a.r b.r
    pub l : AtMost ops a.l b.l
    pub p : AtMost ops a.p b.p

  abbrev pub InOrder : QueuedRequest T → QueuedRequest T → Type 0
  InOrder x z = NotAbove x.tags z.tags

  -- a client with a queued request is not idle, has a reservation if there is an R, and its previous tags are not below
  pub record Follows (idle : Bool) (info : Rates) (previous : Previous T) (tags : Tags T) : Type 0 where
    pub busy : idle ≡ false
    pub reserved : is_some tags.r ≡ is_some info.reservation
    pub r : IfSome tags.r (λ a. AtMost ops a previous.r)
    pub l : AtMost ops tags.l previous.l
    pub p : AtMost ops tags.p previous.p

  -- nor is a slack below 0
  pub record IsInTurn (c : PlainClient T) : Type 0 where
    pub pairs : Pairwise InOrder c.requests
    pub follows : AllByRecursion (λ x. Follows c.idle c.info c.previous x.tags) c.requests
    pub slacks : AllByRecursion (λ x. IsSlack ops x.slack) c.requests
    pub left : IsSlack ops c.previous.slack

  pub record AreInTurn (s : State T) : Type 0 where
    pub clients : AllByRecursion IsInTurn s.clients
    pub distinct : AreDistinct s.clients

  -- ---- who is granted first

  module _ (tag : QueuedRequest T → Option T) (member : QueuedRequest T → Bool) (upto : (x z : QueuedRequest T) → InOrder x z → IsUpto ops (tag x) (tag z)) (too : (x z : QueuedRequest T) → InOrder x z → member z ≡ true → member x ≡ true) where
    none_ahead : (r : QueuedRequest T) → member r ≡ true → (front : List (QueuedRequest T)) → AllByRecursion (λ x. InOrder x r) front → AllByRecursion (λ x. member x ≡ true → is_below ops tag r x ≡ true) front → front ≡ []
    none_ahead r m [] h k = refl
    none_ahead r m (x ∷ front) h k = absurd (not_ahead (last_if_absent ops.compare (tag x) (tag r)) _ ((absent_total order).antisymm (tag r) (tag x)) (upto x r h.0) (k.0 (too x r h.0 m)))

    -- the best of a client's requests is its first
    first_of_client : (xs : List (QueuedRequest T)) → Pairwise InOrder xs → (r : QueuedRequest T) (others : List (QueuedRequest T)) → IsBest (is_below ops tag) member xs r others → xs ≡ r ∷ others
    first_of_client xs h r others is =
        let none = none_ahead r is.is_member is.front (pairs_at InOrder is.front r is.back (subst (Pairwise InOrder) is.whole h)) is.ahead in
        is.whole ∙ ap (λ front. front ++ r ∷ is.back) none ∙ ap (λ rest. r ∷ rest) (sym (is.rest ∙ ap (λ front. front ++ is.back) none))

    pub first_of_found : (clients : List (PlainClient T)) → AllByRecursion IsInTurn clients → (found : Found T) → IsBestOfAll ops tag member clients found → found.client.requests ≡ found.request ∷ found.others
    first_of_found clients turn found is =
        let of_client : IsInTurn found.client = all_at IsInTurn is.front found.client is.back (subst (AllByRecursion IsInTurn) is.whole turn) in
        first_of_client found.client.requests of_client.pairs found.request found.others is.own

-- what is before in (tag, client) is not above by tag, and what is not before is not below
not_above : (r q : Ordering) → is_lt (ordering_then r q) ≡ true → is_gt r ≡ false
not_above Less q e = refl
not_above Equal q e = refl
not_above Greater q e = cc

not_below : (r q : Ordering) → is_lt (ordering_then r q) ≡ false → is_lt r ≡ false
not_below Less q e = cc
not_below Equal q e = refl
not_below Greater q e = refl

pub turned_round : (r s : Ordering) → s ≡ ordering_reverse r → is_lt r ≡ false → is_gt s ≡ false
turned_round Less s e h = cc
turned_round Equal s e h = ap is_gt e
turned_round Greater s e h = ap is_gt e

-- the best by weight has the least P of its set
module _ {T : Type 0} (ops : Tagging T) (order : IsTotalOrder ops.compare) (member : QueuedRequest T → Bool) (Set : QueuedRequest T → Type 0) (within : (x : QueuedRequest T) → Set x → member x ≡ true) where
  abbrev HasLeast : QueuedRequest T → PlainClient T → Type 0
  HasLeast r c = AllByRecursion (λ x. Set x → AtMost ops r.tags.p x.tags.p) c.requests

  least_of_one : (c : PlainClient T) (r : QueuedRequest T) (others : List (QueuedRequest T)) → IsBest (is_below ops by_weight) member c.requests r others → HasLeast r c
  least_of_one c r others is = subst (AllByRecursion (λ x. Set x → AtMost ops r.tags.p x.tags.p)) (sym is.whole) (all_joined _ is.front r is.back
      (all_as _ _ (λ x h d. ap is_gt (less_if_lt _ (h (within x d)))) is.front is.ahead)
      (λ d. at_most_itself ops order r.tags.p)
      (all_as _ _ (λ x h d. turned_round _ _ (order.antisymm r.tags.p x.tags.p) (h (within x d))) is.back is.behind))

  least_of_all : (clients : List (PlainClient T)) (found : Found T) → IsBestOfAll ops by_weight member clients found → AllByRecursion (HasLeast found.request) clients
  least_of_all clients found is = subst (AllByRecursion (HasLeast found.request)) (sym is.whole) (all_joined _ is.front found.client is.back
      (all_as _ _ (λ c h. all_as _ _ (λ x k d. not_above (ops.compare found.request.tags.p x.tags.p) _ (k (within x d))) c.requests h) is.front is.ahead)
      (least_of_one found.client found.request found.others is.own)
      (all_as _ _ (λ c h. all_as _ _ (λ x k d. turned_round _ _ (order.antisymm found.request.tags.p x.tags.p) (not_below _ _ (k (within x d)))) c.requests h) is.back is.behind))

-- the set that the granted request is taken from
abbrev pub IsDueIn : {T : Type 0} → Tagging T → ℕ → PhaseType → Bool → QueuedRequest T → Type 0
IsDueIn ops t Reservation beyond r = is_early ops t r ≡ true
IsDueIn ops t Priority false r = is_free ops t r ≡ true
IsDueIn ops t Priority true r = ⊤

-- the first queued request of a client leaves, and so much can be taken off the R tags of the client
pub record IsGrant {T : Type 0} (ops : Tagging T) (s : State T) (t : ℕ) (found : Found T) (amount : Option T) (phase : PhaseType) (beyond : Bool) : Type 0 where
  pub front : List (PlainClient T)
  pub back : List (PlainClient T)
  pub whole : s.clients ≡ front ++ found.client ∷ back
  pub first : found.client.requests ≡ found.request ∷ found.others
  pub due : IsDueIn ops t phase beyond found.request
  -- a grant by weight is of the least P in its set
  pub least : phase ≡ Priority → AllByRecursion (λ c. AllByRecursion (λ x. IsDueIn ops t Priority beyond x → AtMost ops found.request.tags.p x.tags.p) c.requests) s.clients
  pub reduction : IsReduction ops s.config.hz found.client found.request.cost phase amount
  pub can : rules_of.can_reduce_by ops amount (rules_of.with_requests found.others found.client) ≡ true

-- What holds of each of these holds of every pull.
module _ {T : Type 0} (ops : Tagging T) (order : IsTotalOrder ops.compare) (s : State T) (t : ℕ) (turn : AllByRecursion (IsInTurn ops order) s.clients) (P : Outcome T → Type 0) (refused : (e : Refusal) → P (Err e)) (waits : (m : ℕ) → P (Ok (record s { last_moment = t }, Later m))) (idles : P (Ok (record s { last_moment = t }, Nothing))) (grants : (found : Found T) (amount : Option T) (phase : PhaseType) (beyond : Bool) → IsGrant ops s t found amount phase beyond → P (Ok (rules_of.taken_out ops s t found phase amount, rules_of.granted found phase beyond))) where
  priority : (member : QueuedRequest T → Bool) (beyond : Bool) (found : Found T) → ((x : QueuedRequest T) → IsDueIn ops t Priority beyond x → member x ≡ true) → IsBestOfAll ops by_weight member s.clients found → found.client.requests ≡ found.request ∷ found.others → IsDueIn ops t Priority beyond found.request → P (rules_of.grant_priority ops s t found beyond)
  priority member beyond found set is first due = bind_goes P (rules_of.can_grant ops s.config.hz found) _ refused (λ amount e.
      let given = bound (rules_of.reduction_at ops s.config.hz found.client.info.reservation found.request.cost) _ amount e in
      let range = bound (refuse_if (not (rules_of.can_reduce_by ops given.0 (rules_of.with_requests found.others found.client))) Range) _ amount given.2 in
      let same : given.0 ≡ amount = cc (range.2) in
      grants found amount Priority beyond (record {
        front = is.front;
        back = is.back;
        whole = is.whole;
        first = first;
        due = due;
        least = λ _. least_of_all ops order member (IsDueIn ops t Priority beyond) set s.clients found is;
        reduction = given.1 ∙ ap Ok same;
        can = subst (λ o. rules_of.can_reduce_by ops o (rules_of.with_requests found.others found.client) ≡ true) same (not-false _ (allowed _ Range range.0 range.1));
      }))

  any : (b : Option (Found T)) → best_of_all ops by_weight is_any s.clients ≡ b → P (rules_of.grant_found ops s t true b)
  any None q = idles
  any (Some found) q =
      let is = found_is_best_of_all ops order by_weight is_any s.clients found q in
      priority is_any true found (λ x _. refl) is (first_of_found ops order by_weight is_any (λ x z n. n.p) (λ x z n m. m) s.clients turn found is) tt

  limit : (x : QueuedRequest T) (xs : List (QueuedRequest T)) → (mode : AtLimit) → P (rules_of.at_limit ops s t mode x xs)
  limit x xs Wait = waits (rules_of.least_due ops x xs)
  limit x xs (Reject threshold) = waits (rules_of.least_due ops x xs)
  limit x xs Allow = any _ refl

  nothing : (xs : List (QueuedRequest T)) → P (rules_of.nothing_due ops s t xs)
  nothing [] = idles
  nothing (x ∷ xs) = limit x xs s.config.at_limit

  free : (b : Option (Found T)) → best_of_all ops by_weight (is_free ops t) s.clients ≡ b → P (rules_of.pulled_free ops s t b)
  free None q = nothing (queued_requests s.clients)
  free (Some found) q =
      let is = found_is_best_of_all ops order by_weight (is_free ops t) s.clients found q in
      priority (is_free ops t) false found (λ x d. d) is (first_of_found ops order by_weight (is_free ops t) (λ x z n. n.p) (λ x z n. due_before ops order t (Some x.tags.l) (Some z.tags.l) n.l) s.clients turn found is) is.own.is_member

  early : (b : Option (Found T)) → best_of_all ops by_reservation (is_early ops t) s.clients ≡ b → P (rules_of.pulled_early ops s t b)
  early None q = free _ refl
  early (Some found) q =
      let is = found_is_best_of_all ops order by_reservation (is_early ops t) s.clients found q in
      grants found None Reservation false (record {
        front = is.front;
        back = is.back;
        whole = is.whole;
        first = first_of_found ops order by_reservation (is_early ops t) (λ x z n. n.r) (λ x z n. due_before ops order t x.tags.r z.tags.r n.r) s.clients turn found is;
        due = is.own.is_member;
        least = λ e. cc;
        reduction = refl;
        can = refl;
      })

  pub pull_is : P (rules_of.pulled ops s t)
  pull_is = early _ refl
