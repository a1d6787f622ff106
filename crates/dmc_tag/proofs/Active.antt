-- Which clients have a queued request, and which are idle: what changes of the clients keep of that.
use Rattle.std.proofs.Common.{◌≡◌, ℕ, Bool, true, false, not, ◌&&◌, ◌||◌, cond, List, [], ◌∷◌, ◌++◌, map, length, Option, Some, None, refl, sym, ap, ◌∙◌, subst, inl, inr, ⊎_elim, arith}
use Rattle.std.specs.Prelude.{◌==◌, ◌⊎◌, filter, if◌then◌else◌}
use Rattle.std.specs.List.{AllByRecursion}
use Rattle.std.proofs.lemmas.Bool.{eqb-true, eq-eqb, ne_eqb, or_left, or_right}
use Rattle.std.proofs.lemmas.List.{length-map}
use Rattle.dmc_types.specs.declared.ids.ClientId.{ClientId}
use Rattle.dmc_tag.specs.Tag.{Tagging}
use Rattle.dmc_tag.specs.State.{PlainClient, is_client, is_busy, has_queued, is_active}
use Rattle.dmc_tag.specs.Queued.{AreActive}
use Rattle.dmc_tag.specs.Best.{Found}
use Rattle.dmc_tag.specs.Rules.{shifted_client, less_shares, less_share, less_reservation, reduced_by, after_grant, with_requests}
use Rattle.dmc_tag.specs.declared.plain.QueuedRequest.{QueuedRequest}

pub either : {X : Type 0} (P : X → Type 0) (b : Bool) (x y : X) → P x → P y → P (if b then x else y)
either P true x y p q = p
either P false x y p q = q

pub same_client : (id other : ClientId) → is_client id other ≡ true → other ≡ id
same_client id other e = let same : other.0 ≡ id.0 = eqb-true other.0 id.0 e in ap (λ n. record { 0 = n }) same

pub both : (a b : Bool) → (a && b) ≡ true → (a ≡ true) × (b ≡ true)
both true b h = (refl, h)
both false b h = cc

module _ {T : Type 0} where
  -- a request of the client with this id is queued
  abbrev pub IsBusyAs : ClientId → PlainClient T → Type 0
  IsBusyAs id c = (is_client id c.id && is_busy c) ≡ true

  -- ---- a list of requests with one in it is not empty

  pub filled : (front : List (QueuedRequest T)) (r : QueuedRequest T) (back : List (QueuedRequest T)) → not (length (front ++ r ∷ back) == 0) ≡ true
  filled [] r back = ap not (ne_eqb (length (r ∷ back)) 0 (λ e. omega arith))
  filled (x ∷ front) r back = ap not (ne_eqb (length (x ∷ front ++ r ∷ back)) 0 (λ e. omega arith))

  pub is_busy_with : (c : PlainClient T) (front : List (QueuedRequest T)) (r : QueuedRequest T) (back : List (QueuedRequest T)) → c.requests ≡ front ++ r ∷ back → is_busy c ≡ true
  is_busy_with c front r back e = ap (λ xs. not (length xs == 0)) e ∙ filled front r back

  pub empty_if_not_busy : (xs : List (QueuedRequest T)) → not (length xs == 0) ≡ false → xs ≡ []
  empty_if_not_busy [] e = refl
  empty_if_not_busy (x ∷ xs) e = let some : not (length (x ∷ xs) == 0) ≡ true = filled [] x xs in let clash : true ≡ false = sym some ∙ e in cc

  -- ---- who has a queued request

  -- who has one after a change of each client had one before it, or something else holds
  pub queued_mapped : (Q : Type 0) (id : ClientId) (f : PlainClient T → PlainClient T) → ((c : PlainClient T) → IsBusyAs id (f c) → IsBusyAs id c ⊎ Q) → (clients : List (PlainClient T)) → has_queued id (map f clients) ≡ true → (has_queued id clients ≡ true) ⊎ Q
  queued_mapped Q id f keeps [] h = cc
  queued_mapped Q id f keeps (c ∷ clients) h = at (queued_mapped Q id f keeps clients) (is_client id (f c).id && is_busy (f c)) refl h where
    here : Bool
    here = is_client id c.id && is_busy c

    at : (has_queued id (map f clients) ≡ true → (has_queued id clients ≡ true) ⊎ Q) → (b : Bool) → (is_client id (f c).id && is_busy (f c)) ≡ b → (b || has_queued id (map f clients)) ≡ true → ((here || has_queued id clients) ≡ true) ⊎ Q
    at rest true e p = ⊎_elim (λ k. inl (or_left here (has_queued id clients) k)) (λ q. inr q) (keeps c e)
    at rest false e p = ⊎_elim (λ k. inl (or_right here (has_queued id clients) k)) (λ q. inr q) (rest p)

  pub queued_filtered : (id : ClientId) (keep : PlainClient T → Bool) (clients : List (PlainClient T)) → has_queued id (filter keep clients) ≡ true → has_queued id clients ≡ true
  queued_filtered id keep [] h = h
  queued_filtered id keep (c ∷ clients) h = at (queued_filtered id keep clients) (keep c) h where
    here : Bool
    here = is_client id c.id && is_busy c

    more : (a : Bool) → (has_queued id (filter keep clients) ≡ true → has_queued id clients ≡ true) → (a || has_queued id (filter keep clients)) ≡ true → (a || has_queued id clients) ≡ true
    more true rest p = refl
    more false rest p = rest p

    at : (has_queued id (filter keep clients) ≡ true → has_queued id clients ≡ true) → (b : Bool) → has_queued id (cond b (c ∷ filter keep clients) (filter keep clients)) ≡ true → (here || has_queued id clients) ≡ true
    at rest true p = more here rest p
    at rest false p = or_right here (has_queued id clients) (rest p)

  pub queued_with_idle : (id : ClientId) (clients : List (PlainClient T)) (c : PlainClient T) → c.requests ≡ [] → has_queued id (clients ++ c ∷ []) ≡ true → has_queued id clients ≡ true
  queued_with_idle id [] c e h = let none : is_busy c ≡ false = ap (λ xs. not (length xs == 0)) e in let busy = both (is_client id c.id) (is_busy c) (alone _ h) in cc where
    alone : (a : Bool) → (a || false) ≡ true → a ≡ true
    alone true p = refl
    alone false p = cc
  queued_with_idle id (d ∷ clients) c e h = at (is_client id d.id && is_busy d) (queued_with_idle id clients c e) h where
    at : (a : Bool) → (has_queued id (clients ++ c ∷ []) ≡ true → has_queued id clients ≡ true) → (a || has_queued id (clients ++ c ∷ [])) ≡ true → (a || has_queued id clients) ≡ true
    at true rest p = refl
    at false rest p = rest p

  -- a client that is there has one, if it is busy
  pub queued_at : (front : List (PlainClient T)) (c : PlainClient T) (back : List (PlainClient T)) → is_busy c ≡ true → has_queued c.id (front ++ c ∷ back) ≡ true
  queued_at [] c back e = or_left (is_client c.id c.id && is_busy c) (has_queued c.id back) (own c.id.0 (is_busy c) e) where
    own : (n : ℕ) (b : Bool) → b ≡ true → ((n == n) && b) ≡ true
    own n b e = rw (eq-eqb n n refl, e) refl
  queued_at (d ∷ front) c back e = or_right (is_client c.id d.id && is_busy d) (has_queued c.id (front ++ c ∷ back)) (queued_at front c back e)

  -- ---- who is idle

  -- an idle client has nothing queued
  abbrev pub IsActive : PlainClient T → Type 0
  IsActive c = c.idle ≡ true → c.requests ≡ []

  -- who has a queued request is registered, and not idle
  pub queued_are_active : (id : ClientId) (clients : List (PlainClient T)) → AreActive clients → has_queued id clients ≡ true → is_active id clients ≡ true
  queued_are_active id [] h q = q
  queued_are_active id (c ∷ clients) h q = at (queued_are_active id clients h.1) (is_client id c.id) c.idle refl q where
    at : (has_queued id clients ≡ true → is_active id clients ≡ true) → (a i : Bool) → c.idle ≡ i → (a && is_busy c || has_queued id clients) ≡ true → (a && not i || is_active id clients) ≡ true
    at rest false i e p = rest p
    at rest true false e p = refl
    at rest true true e p = let none : is_busy c ≡ false = ap (λ xs. not (length xs == 0)) (h.0 e) in rest (sym (ap (λ b. b || has_queued id clients) none) ∙ p)

module _ {T : Type 0} (ops : Tagging T) where
  -- ---- a shift and a reduction keep who is idle, and how many requests are queued

  mapped_none : (f : QueuedRequest T → QueuedRequest T) (xs : List (QueuedRequest T)) → xs ≡ [] → map f xs ≡ []
  mapped_none f xs e = ap (map f) e

  pub shifted_active : (amount : T) (c : PlainClient T) → IsActive c → IsActive (shifted_client ops amount c)
  shifted_active amount c h = either IsActive c.idle c (less_shares ops amount c) h (λ e. mapped_none (less_share ops amount) c.requests (h e))

  same_busy : (f : QueuedRequest T → QueuedRequest T) (c : PlainClient T) → not (length (map f c.requests) == 0) ≡ is_busy c
  same_busy f c = ap (λ n. not (n == 0)) (length-map c.requests f)

  pub shifted_busy : (id : ClientId) (amount : T) (c : PlainClient T) → IsBusyAs id (shifted_client ops amount c) → IsBusyAs id c
  shifted_busy id amount c = either (λ d. IsBusyAs id d → IsBusyAs id c) c.idle c (less_shares ops amount c) (λ h. h) (λ h. ap (λ b. is_client id c.id && b) (sym (same_busy (less_share ops amount) c)) ∙ h)

  pub granted_id : (found : Found T) (amount : Option T) → (after_grant ops found amount).id ≡ found.client.id
  granted_id found None = refl
  granted_id found (Some amount) = refl

  pub granted_idle : (found : Found T) (amount : Option T) → (after_grant ops found amount).idle ≡ found.client.idle
  granted_idle found None = refl
  granted_idle found (Some amount) = refl
