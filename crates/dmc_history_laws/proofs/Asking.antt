-- A client that asks all the time, within its limit: no grant by weight is of a P above that of its first queued request.
use Rattle.std.proofs.Common.{◌≡◌, ℕ, ◌<◌, ◌≤◌, Bool, true, false, List, [], ◌∷◌, Option, Some, None, refl, subst}
use Rattle.std.specs.Prelude.{slice_get}
use Rattle.std.specs.List.{AllByRecursion}
use Rattle.std.specs.Option.{option_map_or}
use Rattle.std.specs.Cmp.{IsTotalOrder}
use Rattle.dmc_types.specs.Values.{Setting}
use Rattle.dmc_types.specs.declared.ids.ClientId.{ClientId}
use Rattle.dmc_types.specs.declared.config.PhaseType.TheVariants.{Priority}
use Rattle.dmc_types.specs.declared.config.Shares.TheVariants.{Virtual}
use Rattle.dmc_tag.specs.Tag.{Fraction, Tagging, IsExact}
use Rattle.dmc_tag.specs.Order.{AtMost}
use Rattle.dmc_tag.specs.Best.{is_free}
use Rattle.dmc_tag.specs.State.{State, PlainClient, is_client, client_named, requests_of, has_queued, effective}
use Rattle.dmc_tag.specs.Replay.{replays}
use Rattle.dmc_tag.specs.declared.event.Event.{Event}
use Rattle.dmc_tag.specs.declared.plain.QueuedRequest.{QueuedRequest}
use Rattle.dmc_tag.specs.declared.reply.Tags.{Tags}
use Rattle.dmc_lemmas.proofs.Lists.{found_holds}
use Rattle.dmc_history_laws.specs.Shares.{before, IsFirst, IsArrival, IsWeightGrant}
use Rattle.dmc_history_laws.proofs.Credit.{Sound, sound_before, weighed_at}
use Rattle.dmc_history_laws.proofs.Fronts.{first_of_busy}
use Rattle.dmc_history_laws.proofs.InTurn.{IsDueIn}

-- what holds of all requests holds of the client's first
first_holds : {T : Type 0} (id : ClientId) (Q : QueuedRequest T → Type 0) (clients : List (PlainClient T)) (r : QueuedRequest T) → AllByRecursion (λ c. AllByRecursion Q c.requests) clients → slice_get (requests_of id clients) 0 ≡ Some r → Q r
first_holds {T} id Q clients r all first = at (client_named id clients) refl first where
  front : (xs : List (QueuedRequest T)) → AllByRecursion Q xs → slice_get xs 0 ≡ Some r → Q r
  front [] h e = cc
  front (x ∷ xs) h e = let same : x ≡ r = cc in subst Q same h.0

  at : (o : Option (PlainClient T)) → client_named id clients ≡ o → slice_get (option_map_or (λ (c : PlainClient T). c.requests) o []) 0 ≡ Some r → Q r
  at None named e = cc
  at (Some c) named e = front c.requests (found_holds (λ c. AllByRecursion Q c.requests) (λ c. is_client id c.id) clients c all named) e

module _ {T : Type 0} (ops : Tagging T) (fraction : T → Fraction) (is_value : Fraction → Type 0) (exact : IsExact ops fraction is_value) (order : IsTotalOrder ops.compare) (config : Setting) (some : 0 < config.hz) (virtual : config.shares ≡ Virtual) (history : List (Event T)) (replay : replays ops config history) (b : ClientId) (joined last : ℕ) (final : Event T) (final_is : slice_get history last ≡ Some final) (h : Tags T) (add : IsArrival history joined b h) (asks : (number : ℕ) → joined < number → number ≤ last → has_queued b (before ops config history number).clients ≡ true) (within : (number : ℕ) (client : ClientId) (request front : QueuedRequest T) (grant : IsWeightGrant ops config history number client request) → joined < number → number ≤ last → grant.beyond ≡ false → IsFirst ops config history number b front → is_free ops (effective (before ops config history number) grant.moment) front ≡ true) where
  abbrev state : ℕ → State T
  state n = before ops config history n

  sound : (n : ℕ) → Sound ops fraction is_value exact order config some (state n)
  sound n = sound_before ops fraction is_value exact order config some history n

  -- its first queued request
  pub front : (n : ℕ) → joined < n → n ≤ last → (r : QueuedRequest T) × IsFirst ops config history n b r
  front n g k = first_of_busy b (state n).clients (sound n).turn.distinct (asks n g k)

  -- a grant by weight is of a P that is at most that of the first
  pub grants_under : (n : ℕ) (client : ClientId) (request r : QueuedRequest T) → IsWeightGrant ops config history n client request → joined < n → n ≤ last → IsFirst ops config history n b r → AtMost ops request.tags.p r.tags.p
  grants_under n client request r w g k first =
      let is = weighed_at ops fraction is_value exact order config some virtual history n client request replay w in
      let t = effective (state n) w.moment in
      let least = first_holds b (λ x. IsDueIn ops t Priority w.beyond x → AtMost ops is.found.request.tags.p x.tags.p) (state n).clients r (is.grant.least refl) first in
      subst (λ (x : QueuedRequest T). AtMost ops x.tags.p r.tags.p) is.request_is (least (due t w.beyond (λ not_so. within n client request r w g k not_so first)))
    where
      due : (t : ℕ) (beyond : Bool) → (beyond ≡ false → is_free ops t r ≡ true) → IsDueIn ops t Priority beyond r
      due t true free = tt
      due t false free = free refl
