-- The first queued request of a client, and the record of a client that queues a request.
use Rattle.std.proofs.Common.{◌≡◌, ℕ, ◌<◌, Bool, true, false, not, ◌&&◌, ◌||◌, cond, List, [], ◌∷◌, length, Some, refl, ap, ◌∙◌, arith}
use Rattle.std.specs.Prelude.{◌==◌, slice_get, sum_by}
use Rattle.std.specs.List.{AllByRecursion}
use Rattle.std.specs.Option.{option_map_or}
use Rattle.std.specs.Cmp.{IsTotalOrder}
use Rattle.std.proofs.lemmas.Bool.{eqb-true, false_from_ne_true}
use Rattle.std.proofs.lemmas.List.Concat.{length-flat_map}
use Rattle.std.proofs.lemmas.List.Sums.{sum_by-cons}
use Rattle.std.proofs.lemmas.Option.{slice_get_within}
use Rattle.dmc_types.specs.declared.ids.ClientId.{ClientId}
use Rattle.dmc_types.specs.declared.config.Shares.TheVariants.{Virtual}
use Rattle.dmc_types.specs.declared.command.Command.{Command}
use Rattle.dmc_tag.specs.Tag.{Tagging}
use Rattle.dmc_tag.specs.State.{State, PlainClient, is_client, client_named, requests_of, has_queued, is_nothing_queued}
use Rattle.dmc_tag.specs.Step.{step}
use Rattle.dmc_tag.specs.declared.plain.QueuedRequest.{QueuedRequest}
use Rattle.dmc_tag.specs.declared.reply.Reply.{Reply}
use Rattle.dmc_tag.specs.declared.reply.Reply.TheVariants.{Tagged}
use Rattle.dmc_tag.specs.declared.reply.Tags.{Tags}
use Rattle.dmc_history_laws.specs.Bounds.{Arrival, arrival_of}
use Rattle.dmc_history_laws.proofs.Basics.{both_id}
use Rattle.dmc_history_laws.proofs.Becomes.{step_becomes}
use Rattle.dmc_history_laws.proofs.InTurn.{AreInTurn}
use Rattle.dmc_history_laws.proofs.Pairs.{AreDistinct, Differ}
use Rattle.dmc_history_laws.proofs.VirtualTime.{steps_by_weight}

-- ---- whether there is one

module _ {T : Type 0} (id : ClientId) where
  -- nobody else has the id
  none_else : (c : PlainClient T) (clients : List (PlainClient T)) → is_client id c.id ≡ true → AllByRecursion (Differ c) clients → has_queued id clients ≡ false
  none_else c [] own h = refl
  none_else c (d ∷ clients) own h = at (is_client id d.id) refl (none_else c clients own h.1) where
    at : (b : Bool) → is_client id d.id ≡ b → has_queued id clients ≡ false → ((b && not (length d.requests == 0)) || has_queued id clients) ≡ false
    at true e more = let same = both_id id c.id d.id own e in let apart = h.0 in cc
    at false e more = more

  pub first_of_busy : (clients : List (PlainClient T)) → AreDistinct clients → has_queued id clients ≡ true → (r : QueuedRequest T) × (slice_get (requests_of id clients) 0 ≡ Some r)
  first_of_busy [] h e = cc
  first_of_busy (c ∷ clients) h e = at (is_client id c.id) refl c.requests refl e (first_of_busy clients h.1) where
    at : (b : Bool) → is_client id c.id ≡ b → (xs : List (QueuedRequest T)) → c.requests ≡ xs → ((b && not (length xs == 0)) || has_queued id clients) ≡ true → (has_queued id clients ≡ true → (r : QueuedRequest T) × (slice_get (requests_of id clients) 0 ≡ Some r)) → (r : QueuedRequest T) × (slice_get (option_map_or (λ (d : PlainClient T). d.requests) (cond b (Some c) (client_named id clients)) []) 0 ≡ Some r)
    at true own [] q k more = let none = none_else c clients own h.0 in cc
    at true own (x ∷ xs) q k more = (x, ap (λ ys. slice_get ys 0) q)
    at false own xs q k more = more k

  -- then something is queued
  some_queued : (clients : List (PlainClient T)) (r : QueuedRequest T) → slice_get (requests_of id clients) 0 ≡ Some r → 0 < sum_by (λ (c : PlainClient T). length c.requests) clients
  some_queued [] r e = cc
  some_queued (c ∷ clients) r e = at (is_client id c.id) e (some_queued clients r) where
    at : (b : Bool) → slice_get (option_map_or (λ (d : PlainClient T). d.requests) (cond b (Some c) (client_named id clients)) []) 0 ≡ Some r → (slice_get (requests_of id clients) 0 ≡ Some r → 0 < sum_by (λ (d : PlainClient T). length d.requests) clients) → 0 < sum_by (λ (d : PlainClient T). length d.requests) (c ∷ clients)
    at true k more = omega (arith, slice_get_within c.requests 0 r k, sum_by-cons (λ (d : PlainClient T). length d.requests) c clients)
    at false k more = omega (arith, more k, sum_by-cons (λ (d : PlainClient T). length d.requests) c clients)

  pub not_nothing : (clients : List (PlainClient T)) (r : QueuedRequest T) → slice_get (requests_of id clients) 0 ≡ Some r → is_nothing_queued clients ≡ false
  not_nothing clients r e = above _ (omega (arith, some_queued clients r e, length-flat_map (λ (c : PlainClient T). c.requests) clients)) where
    above : (n : ℕ) → 0 < n → (n == 0) ≡ false
    above n h = false_from_ne_true (n == 0) (λ t. let none : n ≡ 0 = eqb-true n 0 t in omega (arith, h))

-- ---- under Shares::Virtual

module _ {T : Type 0} (ops : Tagging T) (order : IsTotalOrder ops.compare) (id : ClientId) (s : State T) (virtual : s.config.shares ≡ Virtual) (is : AreInTurn ops order s) where
  -- the client's record after it queued a request
  pub record HasJoined (new : State T) (tags : Tags T) : Type 0 where
    pub client : PlainClient T
    pub named : client_named id new.clients ≡ Some client
    pub previous : client.previous.p ≡ tags.p
    pub spacing : T
    pub spaced : ops.spacing s.config.hz client.info.weight ≡ Some spacing

  abbrev Joins : Command → Reply T → State T → Type 0
  Joins c reply new = (a : Arrival) (tags : Tags T) → arrival_of id c reply ≡ a ∷ [] → reply ≡ Tagged tags → HasJoined new tags

  none_came : {Q : Type 0} {a : Arrival} (qs : List Arrival) → qs ≡ [] → qs ≡ a ∷ [] → Q
  none_came qs e f = cc

  pub joins : (c : Command) → Joins c ((step ops s c).1) ((step ops s c).0)
  joins = step_becomes ops order id s is Joins
      (λ c reply new o says stay like next a tags e f. none_came _ says.came_is e)
      (λ client info at new own none next a tags e f. none_came [] refl e)
      (λ client info at new c own named next a tags e f. none_came [] refl e)
      (λ client token params at new c d given slack says named like assigned next last slack_is a tags e f.
      let by = steps_by_weight ops s.config.hz c params _ _ given assigned in
      let same : given ≡ tags = cc in
      record {
        client = _;
        named = next.named;
        previous = ap (λ (x : Tags T). x.p) same;
        spacing = by.spacing;
        spaced = ap (λ i. ops.spacing s.config.hz i.weight) like.info ∙ by.spaced;
      })
      (λ at new found amount phase beyond says g named next a tags e f. none_came [] refl e)
      (λ client new c own says named next a tags e f. none_came [] refl e)
      (λ client token counting new c own named next a tags e f. none_came [] refl e)
