-- What a queue keeps to still holds after each change.
use Rattle.std.proofs.Common.{◌≡◌, ℕ, zero, suc, ◌+◌, ◌<◌, ◌≤◌, Bool, true, false, cond, List, [], ◌∷◌, ◌++◌, length, map, set, Option, Some, None, refl, sym, ap, ◌∙◌, subst, arith, length-append, append-nil}
use Rattle.std.specs.Prelude.{filter, slice_get, if◌then◌else◌}
use Rattle.std.specs.List.{AllByRecursion, IsDistinct}
use Rattle.std.proofs.lemmas.List.{length-map, length-set}
use Rattle.std.proofs.lemmas.List.Concat.{flat_map-append}
use Rattle.std.proofs.lemmas.Bool.{eqb-true}
use Rattle.std.proofs.lemmas.Map.Keys.{IsDistinct-head, IsDistinct-tail, IsDistinct-cons}
use Rattle.std.proofs.lemmas.Option.{same_Some, none-some}
use Rattle.dmc_types.specs.declared.ids.ClientId.{ClientId}
use Rattle.dmc_tag.specs.State.{PlainClient, is_client, client_named, queued_requests}
use Rattle.dmc_tag.specs.Rules.{change_client}
use Rattle.dmc_tag.proofs.Ids.{itself_id, client_turned, all_there}
use Rattle.dmc_lemmas.proofs.Lists.{all_filtered, all_mapped, all_next, length_filtered, found_passes}
use Rattle.dmc_plain.specs.internal.Kept.{IsKept}

all_set : {X : Type 0} (P : X → Type 0) (xs : List X) (i : ℕ) (y : X) → AllByRecursion P xs → P y → AllByRecursion P (set xs i y)
all_set P [] i y h k = tt
all_set P (x ∷ xs) zero y h k = (k, h.1)
all_set P (x ∷ xs) (suc i) y h k = (h.0, all_set P xs i y h.1 k)

none_later : {X : Type 0} (x : X) (rest : Option X) (b : Bool) → cond b (Some x) rest ≡ None → (b ≡ false) × (rest ≡ None)
none_later x rest true e = absurd (none-some x (sym e))
none_later x rest false e = (refl, e)

module _ {T : Type 0} where
  abbrev same_id : PlainClient T → PlainClient T → Bool
  same_id c d = is_client c.id d.id

  -- ---- no two clients have one id

  apart_mapped : (f : PlainClient T → PlainClient T) → ((c : PlainClient T) → (f c).id ≡ c.id) → (clients : List (PlainClient T)) → IsDistinct same_id clients → IsDistinct same_id (map f clients)
  apart_mapped f same [] h = h
  apart_mapped f same (c ∷ cs) h =
      let others = all_mapped (λ (d : PlainClient T). same_id c d ≡ false) (λ (d : PlainClient T). same_id (f c) d ≡ false) f
      (λ d e. ap (λ id. is_client id (f d).id) (same c) ∙ ap (is_client c.id) (same d) ∙ e) cs (IsDistinct-head same_id c cs h) in
      IsDistinct-cons same_id (f c) (map f cs) others (apart_mapped f same cs (IsDistinct-tail same_id c cs h))

  apart_filtered : (test : PlainClient T → Bool) (clients : List (PlainClient T)) → IsDistinct same_id clients → IsDistinct same_id (filter test clients)
  apart_filtered test [] h = h
  apart_filtered test (c ∷ cs) h = at (test c) (apart_filtered test cs (IsDistinct-tail same_id c cs h)) where
    at : (b : Bool) → IsDistinct same_id (filter test cs) → IsDistinct same_id (cond b (c ∷ filter test cs) (filter test cs))
    at true rest = IsDistinct-cons same_id c (filter test cs) (all_filtered (λ d. same_id c d ≡ false) test cs (IsDistinct-head same_id c cs h)) rest
    at false rest = rest

  apart_pushed : (clients : List (PlainClient T)) (new : PlainClient T) → IsDistinct same_id clients → client_named new.id clients ≡ None → IsDistinct same_id (clients ++ new ∷ [])
  apart_pushed [] new h none = IsDistinct-cons same_id new [] tt h
  apart_pushed (c ∷ cs) new h none =
      let parts = none_later c (client_named new.id cs) (is_client new.id c.id) none in
      IsDistinct-cons same_id c (cs ++ new ∷ []) (all_next (λ d. same_id c d ≡ false) cs new (IsDistinct-head same_id c cs h) (client_turned c.id new.id false parts.0))
      (apart_pushed cs new (IsDistinct-tail same_id c cs h) parts.1)

  module _ (c d : PlainClient T) (same : d.id ≡ c.id) where
    apart_set : (clients : List (PlainClient T)) (i : ℕ) → slice_get clients i ≡ Some c → IsDistinct same_id clients → IsDistinct same_id (set clients i d)
    apart_set [] i at h = h
    apart_set (x ∷ xs) zero at h =
        let id : x.id ≡ d.id = ap (λ (y : PlainClient T). y.id) (same_Some x c at) ∙ sym same in
        IsDistinct-cons same_id d xs (subst (λ id. AllByRecursion (λ (e : PlainClient T). is_client id e.id ≡ false) xs) id (IsDistinct-head same_id x xs h)) (IsDistinct-tail same_id x xs h)
    apart_set (x ∷ xs) (suc i) at h =
        let other = all_there (λ (e : PlainClient T). same_id x e ≡ false) xs i c (IsDistinct-head same_id x xs h) at in
        IsDistinct-cons same_id x (set xs i d) (all_set (λ e. same_id x e ≡ false) xs i d (IsDistinct-head same_id x xs h) (ap (is_client x.id) same ∙ other))
        (apart_set xs i at (IsDistinct-tail same_id x xs h))

  -- ---- a change of the client at an index is a change of the client of its id

  unchanged : (id : ClientId) (f : PlainClient T → PlainClient T) (clients : List (PlainClient T)) → AllByRecursion (λ d. is_client id d.id ≡ false) clients → change_client id f clients ≡ clients
  unchanged id f [] h = refl
  unchanged id f (c ∷ cs) h = ap (λ b. (if b then f c else c) ∷ change_client id f cs) h.0 ∙ ap (λ ds. c ∷ ds) (unchanged id f cs h.1)

  pub change_at : (f : PlainClient T → PlainClient T) (c : PlainClient T) (clients : List (PlainClient T)) (i : ℕ) → slice_get clients i ≡ Some c → IsDistinct same_id clients → set clients i (f c) ≡ change_client c.id f clients
  change_at f c [] i at h = absurd (none-some c at)
  change_at f c (x ∷ xs) zero at h =
      let is : x ≡ c = same_Some x c at in
      let rest : change_client c.id f xs ≡ xs = unchanged c.id f xs (subst (λ (y : PlainClient T). AllByRecursion (λ (e : PlainClient T). is_client y.id e.id ≡ false) xs) is (IsDistinct-head same_id x xs h)) in
      ap (λ ds. f c ∷ ds) (sym rest)
      ∙ sym (ap (λ (y : PlainClient T). (if is_client c.id y.id then f y else y) ∷ change_client c.id f xs) is ∙ ap (λ b. (if b then f c else c) ∷ change_client c.id f xs) (itself_id c.id))
  change_at f c (x ∷ xs) (suc i) at h =
      let other = client_turned c.id x.id false (all_there (λ (e : PlainClient T). same_id x e ≡ false) xs i c (IsDistinct-head same_id x xs h) at) in
      ap (λ ds. x ∷ ds) (change_at f c xs i at (IsDistinct-tail same_id x xs h)) ∙ sym (ap (λ b. (if b then f x else x) ∷ change_client c.id f xs) other)

  -- a client that is found by an id has it
  pub named_id : (id : ClientId) (c : PlainClient T) (clients : List (PlainClient T)) → client_named id clients ≡ Some c → c.id ≡ id
  named_id id c clients e =
      let is : c.id.0 ≡ id.0 = eqb-true c.id.0 id.0 (found_passes (λ (d : PlainClient T). is_client id d.id) clients c e) in
      ap (λ (n : ℕ). let k : ClientId = record { 0 = n } in k) is

  -- ---- how much is queued

  pub count_mapped : (f : PlainClient T → PlainClient T) → ((c : PlainClient T) → length (f c).requests ≤ length c.requests) → (clients : List (PlainClient T)) → length (queued_requests (map f clients)) ≤ length (queued_requests clients)
  count_mapped f fewer [] = omega arith
  count_mapped f fewer (c ∷ cs) =
      omega (arith, fewer c, count_mapped f fewer cs, length-append (f c).requests (queued_requests (map f cs)), length-append c.requests (queued_requests cs))

  count_filtered : (test : PlainClient T → Bool) (clients : List (PlainClient T)) → length (queued_requests (filter test clients)) ≤ length (queued_requests clients)
  count_filtered test [] = omega arith
  count_filtered test (c ∷ cs) = at (test c) (count_filtered test cs) where
    at : (b : Bool) → length (queued_requests (filter test cs)) ≤ length (queued_requests cs) → length (queued_requests (cond b (c ∷ filter test cs) (filter test cs))) ≤ length (c.requests ++ queued_requests cs)
    at true more = omega (arith, more, length-append c.requests (queued_requests (filter test cs)), length-append c.requests (queued_requests cs))
    at false more = omega (arith, more, length-append c.requests (queued_requests cs))

  pub count_set : (c d : PlainClient T) (clients : List (PlainClient T)) (i : ℕ) → slice_get clients i ≡ Some c → length (queued_requests (set clients i d)) + length c.requests ≡ length (queued_requests clients) + length d.requests
  count_set c d [] i at = absurd (none-some c at)
  count_set c d (x ∷ xs) zero at =
      omega (arith, length-append d.requests (queued_requests xs), length-append x.requests (queued_requests xs), ap (λ (y : PlainClient T). length y.requests) (same_Some x c at))
  count_set c d (x ∷ xs) (suc i) at =
      omega (arith, count_set c d xs i at, length-append x.requests (queued_requests (set xs i d)), length-append x.requests (queued_requests xs))

  -- a client's requests are among all
  pub count_own : (c : PlainClient T) (clients : List (PlainClient T)) (i : ℕ) → slice_get clients i ≡ Some c → length c.requests ≤ length (queued_requests clients)
  count_own c [] i at = absurd (none-some c at)
  count_own c (x ∷ xs) zero at = omega (arith, length-append x.requests (queued_requests xs), ap (λ (y : PlainClient T). length y.requests) (same_Some x c at))
  count_own c (x ∷ xs) (suc i) at = omega (arith, count_own c xs i at, length-append x.requests (queued_requests xs))

  -- ---- all of it

  module _ (a b : ℕ) where
    pub kept_none : IsKept {T = T} a b []
    unfolding IsDistinct
    kept_none = record { few = omega arith; room = omega arith; apart = tt }

    module _ (clients : List (PlainClient T)) (h : IsKept a b clients) where
      pub kept_mapped : (f : PlainClient T → PlainClient T) → ((c : PlainClient T) → (f c).id ≡ c.id) → ((c : PlainClient T) → length (f c).requests ≤ length c.requests) → IsKept a b (map f clients)
      kept_mapped f same fewer = record {
        few = omega (arith, length-map clients f, h.few);
        room = omega (arith, count_mapped f fewer clients, h.room);
        apart = apart_mapped f same clients h.apart;
      }

      pub kept_filtered : (test : PlainClient T → Bool) → IsKept a b (filter test clients)
      kept_filtered test = record {
        few = omega (arith, length_filtered test clients, h.few);
        room = omega (arith, count_filtered test clients, h.room);
        apart = apart_filtered test clients h.apart;
      }

      pub kept_pushed : (new : PlainClient T) → new.requests ≡ [] → client_named new.id clients ≡ None → length clients < a → IsKept a b (clients ++ new ∷ [])
      kept_pushed new empty none room = record {
        few = omega (arith, length-append clients (new ∷ []), room);
        room = omega (arith, ap length (flat_map-append (λ (c : PlainClient T). c.requests) clients (new ∷ [])), length-append (queued_requests clients) (new.requests ++ []), ap length (append-nil new.requests), ap length empty, h.room);
        apart = apart_pushed clients new h.apart none;
      }

      pub kept_set : (c d : PlainClient T) (i : ℕ) → slice_get clients i ≡ Some c → d.id ≡ c.id → length (queued_requests clients) + length d.requests ≤ b + length c.requests → IsKept a b (set clients i d)
      kept_set c d i at same room = record {
        few = omega (arith, length-set clients i d, h.few);
        room = omega (arith, count_set c d clients i at, room);
        apart = apart_set c d same clients i at h.apart;
      }
