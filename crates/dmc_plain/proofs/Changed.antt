-- The state that a call leaves, once its tests have passed.
use Rattle.std.proofs.Common.{◌≡◌, ℕ, ◌<◌, ◌≤◌, [], length, set, get_or, Option, Some, None, Ok, refl, sym, ap, ◌∙◌, subst, arith}
use Rattle.std.specs.Prelude.{filter, slice_get, remove}
use Rattle.std.specs.Option.{option_map, ok_or}
use Rattle.std.proofs.lemmas.List.{length-map}
use Rattle.std.proofs.lemmas.List.Edits.{length-remove}
use Rattle.std.proofs.lemmas.Option.{slice_get_read}
use Rattle.dmc_types.specs.Values.{Rates}
use Rattle.dmc_types.specs.declared.config.Counting.{Counting}
use Rattle.dmc_types.specs.declared.ids.ClientId.{ClientId}
use Rattle.dmc_types.specs.declared.ids.Token.{Token}
use Rattle.dmc_types.specs.declared.command.Command.TheVariants.{Update, Remove, Cancel}
use Rattle.dmc_types.specs.declared.config.PhaseType.TheVariants.{Reservation}
use Rattle.dmc_types.specs.declared.refusal.Refusal.TheVariants.{Unknown}
use Rattle.dmc_tag.specs.Tag.{Tagging}
use Rattle.dmc_tag.specs.State.{State, PlainClient, client_named, effective}
use Rattle.dmc_tag.specs.Outcome.{◌>>=◌}
use Rattle.dmc_tag.specs.Rules.{can_update, change_client, with_info, with_requests, reduced_by, after_grant, taken_out, less_reservation}
use Rattle.dmc_tag.specs.Cancel.{has_token, without_token, charged_to}
use Rattle.dmc_tag.specs.Step.{step, answer_of}
use Rattle.dmc_tag.specs.declared.reply.Reply.TheVariants.{Updated, Removed}
use Rattle.dmc_plain.specs.declared.best.Place.{Place}
use Rattle.dmc_plain.specs.internal.Kept.{IsKept}
use Rattle.dmc_plain.specs.internal.Places.{found_at, IsPlace}
use Rattle.dmc_plain.proofs.Kept.{change_at, named_id, kept_set, count_own}
use Rattle.dmc_plain.proofs.Places.{the_found, found_there, client_read, client_within, request_within}

module _ {T : Type 0} (a b : ℕ) (q old : State T) (view : q ≡ old) (kept : IsKept a b q.clients) (i : ℕ) (c : PlainClient T) (within : i < length q.clients) (is : c ≡ get_or q.clients i c) where
  there : slice_get q.clients i ≡ Some c
  there = slice_get_read q.clients (length q.clients) i c refl within is

  -- the client is that of an id
  id_is : (id : ClientId) → slice_get old.clients i ≡ client_named id old.clients → c.id ≡ id
  id_is id named = named_id id c q.clients (sym (subst (λ (s : State T). slice_get s.clients i ≡ client_named id s.clients) (sym view) named) ∙ there)

  changed : (f : PlainClient T → PlainClient T) (d : PlainClient T) → d ≡ f c → set q.clients i d ≡ change_client c.id f q.clients
  changed f d e = ap (set q.clients i) e ∙ change_at f c q.clients i there kept.apart

  -- the id stays, and no more is queued
  pub stays_kept : (d : PlainClient T) → d.id ≡ c.id → length d.requests ≤ length c.requests → IsKept a b (set q.clients i d)
  stays_kept d same fewer = kept_set a b q.clients kept c d i there same (omega (arith, fewer, kept.room))

  pub own_bound : length c.requests ≤ b
  own_bound = omega (arith, count_own c q.clients i there, kept.room)

  -- ---- a client's rates are replaced

  pub updated_as : (ops : Tagging T) (id : ClientId) (info : Rates) (at t : ℕ) (d : PlainClient T) → slice_get old.clients i ≡ client_named id old.clients →
      Ok tt ≡ can_update ops old id info → t ≡ effective old at → d ≡ with_info info c →
      (record q { clients = set q.clients i d; last_moment = t }, Updated) ≡ step ops old (Update id info at)
  updated_as ops id info at t d named can moment e =
      rw (changed (with_info info) d e, id_is id named, moment, view)
      (ap (λ outcome. answer_of old (outcome >>= (λ _. Ok (record old { clients = change_client id (with_info info) old.clients; last_moment = effective old at }, Updated)))) can)

  -- ---- a client's requests are removed

  pub removed_as : (ops : Tagging T) (id : ClientId) (d : PlainClient T) → slice_get old.clients i ≡ client_named id old.clients → d ≡ with_requests [] c →
      (record q { clients = set q.clients i d }, Removed (length c.requests)) ≡ step ops old (Remove id)
  removed_as ops id d named e =
      let found : client_named id old.clients ≡ Some c = sym named ∙ ap (λ (s : State T). slice_get s.clients i) (sym view) ∙ there in
      rw (changed (with_requests []) d e, id_is id named, view)
      (sym (ap (λ o. answer_of old (ok_or o Unknown >>= (λ client. Ok (record old { clients = change_client id (with_requests []) old.clients }, Removed (length client.requests))))) found))

  -- ---- a client's requests with a token are taken back

  pub cancelled_as : (ops : Tagging T) (id : ClientId) (token : Token) (counting : Counting) (hz : ℕ) (d : PlainClient T) → slice_get old.clients i ≡ client_named id old.clients → hz ≡ q.config.hz →
      d ≡ without_token ops token (charged_to ops hz counting c) c →
      (record q { clients = set q.clients i d }, Removed (length (filter (has_token token) c.requests))) ≡ step ops old (Cancel id token counting)
  cancelled_as ops id token counting hz d named rate e =
      let found : client_named id old.clients ≡ Some c = sym named ∙ ap (λ (s : State T). slice_get s.clients i) (sym view) ∙ there in
      rw (changed (λ c. without_token ops token (charged_to ops hz counting c) c) d e, id_is id named, rate, view)
      (sym (ap (λ o. answer_of old (ok_or o Unknown >>= (λ client. Ok (record old { clients = change_client id (λ c. without_token ops token (charged_to ops old.config.hz counting c) c) old.clients }, Removed (length (filter (has_token token) client.requests)))))) found))

-- ---- a request is taken out

module _ {T : Type 0} (ops : Tagging T) (a b : ℕ) (q old : State T) (view : q ≡ old) (kept : IsKept a b q.clients) (place : Place) (p : IsPlace old.clients place) (c : PlainClient T) (is : c ≡ get_or q.clients place.client c) where
  own_place : IsPlace q.clients place
  own_place = subst (λ (s : State T). IsPlace s.clients place) (sym view) p

  pub taken_as : (t : ℕ) (amount : Option T) (d : PlainClient T) → d ≡ reduced_by ops amount (with_requests (remove c.requests place.request) c) →
      option_map (λ found. taken_out ops old t found Reservation amount) (found_at old.clients place) ≡ Some (record q { clients = set q.clients place.client d; last_moment = t })
  taken_as t amount d e =
      let read = client_read q.clients place own_place c is in
      let found = the_found q.clients place own_place in
      let changes = change_at (λ c. after_grant ops found amount) found.client q.clients place.client own_place.client_at kept.apart in
      let new : d ≡ after_grant ops found amount = e ∙ ap (λ (x : PlainClient T). reduced_by ops amount (with_requests (remove x.requests place.request) x)) read in
      ap (λ (s : State T). option_map (λ found. taken_out ops s t found Reservation amount) (found_at s.clients place)) (sym view)
      ∙ ap (option_map (λ found. taken_out ops q t found Reservation amount)) (found_there q.clients place own_place)
      ∙ ap (λ cs. Some (record q { clients = cs; last_moment = t })) (sym (ap (set q.clients place.client) new ∙ changes))

  reduced_id : (amount : Option T) (x : PlainClient T) → (reduced_by ops amount x).id ≡ x.id
  reduced_id None x = refl
  reduced_id (Some amount) x = refl

  reduced_count : (amount : Option T) (x : PlainClient T) → length (reduced_by ops amount x).requests ≡ length x.requests
  reduced_count None x = refl
  reduced_count (Some amount) x = length-map x.requests (less_reservation ops amount)

  pub taken_kept : (amount : Option T) (d : PlainClient T) → d ≡ reduced_by ops amount (with_requests (remove c.requests place.request) c) → IsKept a b (set q.clients place.client d)
  taken_kept amount d e =
      let rest = with_requests (remove c.requests place.request) c in
      let count : length d.requests ≡ length rest.requests = ap (λ (x : PlainClient T). length x.requests) e ∙ reduced_count amount rest in
      stays_kept a b q q refl kept place.client c (client_within q.clients place own_place) is d
      (ap (λ (x : PlainClient T). x.id) e ∙ reduced_id amount rest)
      (omega (arith, count, length-remove c.requests place.request (request_within q.clients place own_place c is c.requests refl)))
