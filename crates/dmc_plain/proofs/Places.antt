-- What is at a place, and the best of one client more.
use Rattle.std.proofs.Common.{◌≡◌, ℕ, suc, ◌<◌, List, length, drop, get_or, Option, Some, None, refl, sym, ap, subst, ◌∙◌}
use Rattle.std.specs.Prelude.{slice_get}
use Rattle.std.specs.Option.{option_map, option_and_then}
use Rattle.std.specs.List.{remove}
use Rattle.std.proofs.lemmas.Option.{slice_get_read, slice_get_within, get_or_from_slice_get}
use Rattle.dmc_tag.specs.Tag.{Tagging}
use Rattle.dmc_tag.specs.State.{PlainClient}
use Rattle.dmc_tag.specs.Best.{Found, found_in, best, best_of_one, best_of_all, better_found, is_below}
use Rattle.dmc_tag.specs.declared.plain.QueuedRequest.{QueuedRequest}
use Rattle.dmc_plain.specs.declared.best.Place.{Place}
use Rattle.dmc_plain.specs.declared.best.Set.{Set}
use Rattle.dmc_plain.specs.internal.Sets.{members, tag_of, one_found}
use Rattle.dmc_plain.specs.internal.Places.{found_at, found_among, place_found, IsPlace}
use Rattle.dmc_plain.proofs.Elements.{element_at}

module _ {T : Type 0} (clients : List (PlainClient T)) (place : Place) (p : IsPlace clients place) where
  -- the request there, its client, and the client's other requests
  abbrev pub the_found : Found T
  the_found = found_in p.client (p.request, remove p.client.requests place.request)

  pub found_there : found_at clients place ≡ Some the_found
  found_there =
      ap (option_and_then (found_among place.request)) p.client_at
      ∙ ap (λ o. option_map (found_in p.client) (option_map (λ (r : QueuedRequest T). (r, remove p.client.requests place.request)) o)) p.request_at

  pub client_within : place.client < length clients
  client_within = slice_get_within clients place.client p.client p.client_at

  pub client_read : (c : PlainClient T) → c ≡ get_or clients place.client c → c ≡ p.client
  client_read c e = e ∙ get_or_from_slice_get clients place.client p.client c p.client_at

  -- what is read there
  module _ (c : PlainClient T) (is : c ≡ get_or clients place.client c) (requests : List (QueuedRequest T)) (own : requests ≡ c.requests) where
    pub request_within : place.request < length requests
    request_within = rw (own, client_read c is) (slice_get_within p.client.requests place.request p.request p.request_at)

    pub found_read : (r : QueuedRequest T) → r ≡ get_or requests place.request r → found_at clients place ≡ Some (found_in c (r, remove requests place.request))
    found_read r at =
        ap (option_and_then (found_among place.request)) (slice_get_read clients (length clients) place.client c refl client_within is)
        ∙ ap (λ rs. option_map (found_in c) (one_found rs (Some place.request))) (sym own)
        ∙ ap (λ o. option_map (found_in c) (option_map (λ (r : QueuedRequest T). (r, remove requests place.request)) o))
        (slice_get_read requests (length requests) place.request r refl request_within at)

module _ {T : Type 0} (ops : Tagging T) (set : Set) (clients : List (PlainClient T)) where
  pub better_none : (x : Option (Found T)) → better_found ops (tag_of set) x None ≡ x
  better_none None = refl
  better_none (Some x) = refl

  -- one client more, at the front
  pub places_more : (i : ℕ) (found better : Option Place) → i < length clients →
      place_found clients found ≡ best_of_all ops (tag_of set) (members ops set) (drop (suc i) clients) →
      place_found clients better ≡ better_found ops (tag_of set) (option_and_then (best_of_one ops (tag_of set) (members ops set)) (slice_get clients i)) (place_found clients found) →
      place_found clients better ≡ best_of_all ops (tag_of set) (members ops set) (drop i clients)
  places_more i found better within so_far is =
      let at = element_at clients i within in
      rw (at.2) (rw (at.1, so_far) at is)

  module _ (i j : ℕ) (c : PlainClient T) (within : i < length clients) (is : c ≡ get_or clients i c) (requests : List (QueuedRequest T)) (own : requests ≡ c.requests) where
    here : slice_get clients i ≡ Some c
    here = slice_get_read clients (length clients) i c refl within is

    pub is_place : j < length requests → IsPlace clients (record { client = i; request = j })
    is_place bound =
        let at = element_at c.requests j (subst (λ rs. j < length rs) own bound) in
        record { client = c; request = at.0; client_at = here; request_at = at.1 }

    -- the best of one client's requests is that of the client
    pub best_there : one_found requests (Some j) ≡ best (is_below ops (tag_of set)) (members ops set) requests →
        found_at clients (record { client = i; request = j }) ≡ option_and_then (best_of_one ops (tag_of set) (members ops set)) (slice_get clients i)
    best_there found =
        ap (option_and_then (found_among j)) here
        ∙ ap (option_map (found_in c)) (subst (λ rs. one_found rs (Some j) ≡ best (is_below ops (tag_of set)) (members ops set) rs) own found)
        ∙ sym (ap (option_and_then (best_of_one ops (tag_of set) (members ops set))) here)
