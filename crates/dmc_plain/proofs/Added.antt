-- An add: the tests, the shift of the others, and the state that it leaves.
use Rattle.std.proofs.Common.{◌≡◌, ℕ, ◌<◌, ◌≤◌, Bool, true, false, ◌&&◌, List, [], ◌∷◌, length, map, set, get_or, Option, Some, None, is_some, Result, Ok, not, refl, sym, ap, ◌∙◌, subst, arith, length-append}
use Rattle.std.specs.Prelude.{slice_get, if◌then◌else◌, nat_le}
use Rattle.std.specs.Option.{option_map, ok_or}
use Rattle.std.proofs.lemmas.List.{length-map, map-set, set-set, get_or-set_same}
use Rattle.std.proofs.lemmas.Option.{slice_get-map, slice_get_read, slice_get_within, get_or_from_slice_get}
use Rattle.dmc_types.specs.Limits.{max_requests}
use Rattle.dmc_types.specs.Values.{Params}
use Rattle.dmc_types.specs.declared.ids.ClientId.{ClientId}
use Rattle.dmc_types.specs.declared.refusal.Refusal.{Refusal}
use Rattle.dmc_types.specs.declared.refusal.Refusal.TheVariants.{Unknown, QueueFull, Range}
use Rattle.dmc_tag.specs.Best.{best_of_all, by_weight, is_any}
use Rattle.dmc_tag.specs.Outcome.{◌>>=◌, refuse_if}
use Rattle.dmc_tag.specs.declared.reply.Tags.{Tags}
use Rattle.dmc_tag.proofs.Outcomes.{goes_on}
use Rattle.dmc_tag.specs.Tag.{Tagging}
use Rattle.dmc_tag.specs.State.{State, PlainClient, client_named, queued_requests, is_nothing_queued}
use Rattle.dmc_tag.specs.Rules.{shifted_by, shifted_client, less_shares, less_share, after_arrival, queued, change_client, progress_added, shift_from, shift_of, share_floor, adjusts, can_shift_by, assigned, addition_with, add_tags}
use Rattle.dmc_tag.specs.declared.plain.Progress.{Progress}
use Rattle.dmc_tag.specs.declared.plain.QueuedRequest.{QueuedRequest}
use Rattle.dmc_tag.specs.declared.plain.Slack.{Slack}
use Rattle.dmc_plain.specs.declared.queue.adding.Arrival.{Arrival}
use Rattle.dmc_plain.specs.internal.Arrivals.{IsArrival, appended, arrived}
use Rattle.dmc_plain.specs.internal.Kept.{IsKept}
use Rattle.dmc_plain.proofs.Kept.{change_at, kept_mapped, kept_set, count_mapped, named_id}

module _ {T : Type 0} (ops : Tagging T) where
  -- ---- a shift

  shifted_id : (amount : T) (c : PlainClient T) → (shifted_client ops amount c).id ≡ c.id
  shifted_id amount c = by c.idle where
    by : (idle : Bool) → (if idle then c else less_shares ops amount c).id ≡ c.id
    by true = refl
    by false = refl

  shifted_count : (amount : T) (c : PlainClient T) → length (shifted_client ops amount c).requests ≤ length c.requests
  shifted_count amount c = by c.idle where
    by : (idle : Bool) → length (if idle then c else less_shares ops amount c).requests ≤ length c.requests
    by true = omega arith
    by false = omega (arith, length-map c.requests (less_share ops amount))

  shift_count : (shift : Option T) (clients : List (PlainClient T)) → length (queued_requests (shifted_by ops shift clients)) ≤ length (queued_requests clients)
  shift_count None clients = omega arith
  shift_count (Some amount) clients = count_mapped (shifted_client ops amount) (shifted_count amount) clients

  shift_kept : (a b : ℕ) (shift : Option T) (clients : List (PlainClient T)) → IsKept a b clients → IsKept a b (shifted_by ops shift clients)
  shift_kept a b None clients h = h
  shift_kept a b (Some amount) clients h = kept_mapped a b clients h (shifted_client ops amount) (shifted_id amount) (shifted_count amount)

  -- an idle client is not shifted
  unshifted : (amount : T) (c : PlainClient T) → c.idle ≡ true → shifted_client ops amount c ≡ c
  unshifted amount c idle = ap (λ b. if b then c else less_shares ops amount c) idle

  shift_set : (shift : Option T) (clients : List (PlainClient T)) (i : ℕ) (d : PlainClient T) → (is_some shift ≡ true → d.idle ≡ true) → shifted_by ops shift (set clients i d) ≡ set (shifted_by ops shift clients) i d
  shift_set None clients i d idle = refl
  shift_set (Some amount) clients i d idle =
      map-set (shifted_client ops amount) clients i d ∙ ap (set (map (shifted_client ops amount) clients) i) (unshifted amount d (idle refl))

  shift_get : (shift : Option T) (clients : List (PlainClient T)) (i : ℕ) (c : PlainClient T) → (is_some shift ≡ true → c.idle ≡ true) → slice_get clients i ≡ Some c → slice_get (shifted_by ops shift clients) i ≡ Some c
  shift_get None clients i c idle at = at
  shift_get (Some amount) clients i c idle at =
      slice_get-map (shifted_client ops amount) clients i ∙ ap (option_map (shifted_client ops amount)) at ∙ ap Some (unshifted amount c (idle refl))

  -- ---- what an add leaves

  module _ (a b : ℕ) (q old : State T) (view : q ≡ old) (kept : IsKept a b q.clients) (arrival : Arrival T) (h : IsArrival old.clients arrival) (request : QueuedRequest T) (t : ℕ)
      (c d : PlainClient T) (at : c ≡ get_or q.clients arrival.index c) (d_is : d ≡ appended request c)
      (shifted : List (PlainClient T)) (shifted_is : shifted ≡ shifted_by ops arrival.shift (set q.clients arrival.index d))
      (e f : PlainClient T) (e_at : e ≡ get_or shifted arrival.index e) (f_is : f ≡ arrived request.tags request.slack t e)
      (progress : Progress T) (counted : progress ≡ progress_added ops q.config.shares (is_nothing_queued q.clients) request.tags.p q.progress) where
    own : IsArrival q.clients arrival
    own = subst (λ (s : State T). IsArrival s.clients arrival) (sym view) h

    is_own : c ≡ own.client
    is_own = at ∙ get_or_from_slice_get q.clients arrival.index own.client c own.client_at

    idle : is_some arrival.shift ≡ true → d.idle ≡ true
    idle some = ap (λ (x : PlainClient T). x.idle) (d_is ∙ ap (appended request) is_own) ∙ own.idle some

    there : slice_get (shifted_by ops arrival.shift q.clients) arrival.index ≡ Some own.client
    there = shift_get arrival.shift q.clients arrival.index own.client own.idle own.client_at

    beside : shifted ≡ set (shifted_by ops arrival.shift q.clients) arrival.index d
    beside = shifted_is ∙ shift_set arrival.shift q.clients arrival.index d idle

    -- the client once its request is queued, and then once the rest is recorded
    was : e ≡ d
    was =
        e_at ∙ ap (λ (cs : List (PlainClient T)). get_or cs arrival.index e) beside
        ∙ get_or-set_same (shifted_by ops arrival.shift q.clients) arrival.index d e (slice_get_within (shifted_by ops arrival.shift q.clients) arrival.index own.client there)

    now : f ≡ after_arrival request t own.client
    now = f_is ∙ ap (arrived request.tags request.slack t) (was ∙ d_is ∙ ap (appended request) is_own)

    all : set shifted arrival.index f ≡ set (shifted_by ops arrival.shift q.clients) arrival.index (after_arrival request t own.client)
    all = ap (λ (cs : List (PlainClient T)). set cs arrival.index f) beside ∙ set-set (shifted_by ops arrival.shift q.clients) arrival.index d f ∙ ap (set (shifted_by ops arrival.shift q.clients) arrival.index) now

    pub queued_as : record q { clients = set shifted arrival.index f; last_moment = t; progress = progress } ≡ queued ops old arrival.shift arrival.client request t
    queued_as =
        let changes = change_at (after_arrival request t) own.client (shifted_by ops arrival.shift q.clients) arrival.index there (shift_kept a b arrival.shift q.clients kept).apart in
        ap (λ (cs : List (PlainClient T)). record q { clients = cs; last_moment = t; progress = progress }) (all ∙ changes)
        ∙ ap (λ (p : Progress T). record q { clients = change_client own.client.id (after_arrival request t) (shifted_by ops arrival.shift q.clients); last_moment = t; progress = p }) counted
        ∙ ap (λ id. queued ops q arrival.shift id request t) own.id
        ∙ ap (λ s. queued ops s arrival.shift arrival.client request t) view

    pub queued_kept : length (queued_requests old.clients) < b → IsKept a b (set shifted arrival.index f)
    queued_kept room =
        let space = subst (λ (s : State T). length (queued_requests s.clients) < b) (sym view) room in
        rw all (kept_set a b (shifted_by ops arrival.shift q.clients) (shift_kept a b arrival.shift q.clients kept) own.client (after_arrival request t own.client) arrival.index there refl
        (omega (arith, space, shift_count arrival.shift q.clients, length-append own.client.requests (request ∷ []))))

  -- ---- the tests

  -- the client at an index is that of an id
  module _ (q old : State T) (view : q ≡ old) (id : ClientId) (params : Params) (t : T) (clients : List (PlainClient T)) (same : clients ≡ q.clients) (i : ℕ) (within : i < length clients)
      (named : slice_get clients i ≡ client_named id clients) (c : PlainClient T) (is : c ≡ get_or q.clients i c) where
    is_at : slice_get old.clients i ≡ Some c
    is_at =
        let all : clients ≡ old.clients = same ∙ ap (λ (s : State T). s.clients) view in
        ap (λ (cs : List (PlainClient T)). slice_get cs i) (sym all)
        ∙ slice_get_read clients (length clients) i c refl within (is ∙ ap (λ (cs : List (PlainClient T)). get_or cs i c) (sym same))

    is_named : client_named id old.clients ≡ Some c
    is_named = sym (subst (λ cs. slice_get cs i ≡ client_named id cs) (same ∙ ap (λ (s : State T). s.clients) view) named) ∙ is_at

    pub is_arrival : (shift : Option T) (tags : Tags T) (slack : Slack T) → shift_of ops old.config.shares old.clients c t ≡ Ok shift → IsArrival old.clients (record { client = id; index = i; shift = shift; tags = tags; slack = slack })
    is_arrival shift tags slack e = record { client = c; client_at = is_at; id = named_id id c old.clients is_named; idle = by (adjusts old.config.shares) c.idle e } where
      by : (adjusts idle : Bool) → (if adjusts && idle then shift_from ops t (best_of_all ops by_weight is_any old.clients) else Ok None) ≡ Ok shift → is_some shift ≡ true → idle ≡ true
      by adjusts true e some = refl
      by true false e some = cc
      by false false e some = cc

    -- the new tags, or their refusal, are the last of the tests
    pub assigns : (shift : Option T) → nat_le max_requests (length (queued_requests old.clients)) ≡ false → shift_of ops old.config.shares old.clients c t ≡ Ok shift → can_shift_by ops shift old.clients ≡ true →
        (result : Result (Tags T) Refusal) → assigned ops old.config.hz c params t (share_floor ops old t) ≡ result → (result >>= λ tags. Ok (addition_with ops shift c.previous t (share_floor ops old t) tags)) ≡ add_tags ops old id params t
    assigns shift room e can result tags =
        goes_on _ (ap (λ o. ok_or o Unknown) is_named) (goes_on _ (ap (λ b. refuse_if b QueueFull) room) (goes_on _ e (goes_on _ (ap (λ b. refuse_if (not b) Range) can) (ap (λ r. r >>= λ tags. Ok (addition_with ops shift c.previous t (share_floor ops old t) tags)) (sym tags)))))
