-- What an adjustment and an arrival make of the entries.
use Rattle.std.proofs.Common.{◌≡◌, ℕ, suc, Bool, true, false, not, ◌&&◌, List, [], ◌∷◌, ◌++◌, map, length, Option, Some, None, refl, ap, ◌∙◌, arith}
use Rattle.std.specs.Prelude.{◌==◌, if◌then◌else◌}
use Rattle.std.specs.List.{list_all, AllByRecursion}
use Rattle.std.proofs.lemmas.List.{length-append, length-map}
use Rattle.std.proofs.lemmas.List.Folds.{list_all-map}
use Rattle.dmc_types.specs.declared.ids.ClientId.{ClientId}
use Rattle.dmc_tag.specs.Tag.{Tagging}
use Rattle.dmc_tag.specs.State.{PlainClient, queued_requests}
use Rattle.dmc_tag.specs.Rules.{change_client, less, has_less, less_share, shifted_client, shifted_by, client_can_shift, after_arrival}
use Rattle.dmc_tag.specs.declared.plain.QueuedRequest.{QueuedRequest}
use Rattle.dmc_client.specs.Record.{Rec, client_of, pushed, less_shares}
use Rattle.dmc_adjust.specs.Changes.{shifted, is_shiftable}
use Rattle.dmc_roster.specs.Entries.{Entry, with_rec, with_record}
use Rattle.dmc_pull.specs.Represented.{clients_in}
use Rattle.dmc_pull.specs.internal.Adding.{shifted_but}
use Rattle.dmc_pull.proofs.Common.Entries.{Split, changed_client, count_changed}

module _ {T : Type 0} where
  -- ---- an arrival

  module _ {key : ℕ} {a : Entry T} {es : List (Entry T)} (s : Split key a es) (request : QueuedRequest T) (at : ℕ) where
    pub pushed_clients : clients_in (with_record key (pushed request at a.rec) es) ≡ change_client a.id (after_arrival request at) (clients_in es)
    pushed_clients = changed_client s (after_arrival request at) (pushed request at a.rec) refl

    pub count_pushed : length (queued_requests (clients_in (with_record key (pushed request at a.rec) es))) ≡ suc (length (queued_requests (clients_in es)))
    count_pushed =
        let more = length-append a.rec.requests (request ∷ []) in
        omega (arith, count_changed s (pushed request at a.rec))

  -- ---- an adjustment

  module _ (ops : Tagging T) (amount : T) where
    -- whether all can be shifted is tested record by record
    pub shiftable : (es : List (Entry T)) → list_all (client_can_shift ops amount) (clients_in es) ≡ list_all (λ e. is_shiftable ops amount e.rec) es
    shiftable es = list_all-map (client_can_shift ops amount) (λ e. client_of e.id e.rec) es

    -- so it is if each P has so much to lose
    pub shares_have_less : (P : T → Type 0) → ((tag : T) → P tag → has_less ops amount tag ≡ true) → (qs : List (QueuedRequest T)) (last : T) → AllByRecursion P (map (λ r. r.tags.p) qs ++ last ∷ [])
        → (list_all (λ r. has_less ops amount r.tags.p) qs && has_less ops amount last) ≡ true
    shares_have_less P has [] last h = has last h.0
    shares_have_less P has (q ∷ qs) last h =
        ap (λ b. (b && list_all (λ r. has_less ops amount r.tags.p) qs) && has_less ops amount last) (has q.tags.p h.0) ∙ shares_have_less P has qs last h.1

    client_by : (id : ClientId) (rec : Rec T) (idle : Bool) → client_of id (if idle then rec else less_shares ops amount rec) ≡ (if idle then client_of id rec else client_of id (less_shares ops amount rec))
    client_by id rec true = refl
    client_by id rec false = refl

    -- each record is shifted
    pub shifted_clients_in : (es : List (Entry T)) → clients_in (map (λ e. with_rec (shifted ops amount) e) es) ≡ map (shifted_client ops amount) (clients_in es)
    shifted_clients_in [] = refl
    shifted_clients_in (e ∷ es) =
        ap (λ c. c ∷ clients_in (map (λ e. with_rec (shifted ops amount) e) es)) (client_by e.id e.rec e.rec.idle)
        ∙ ap (λ cs. shifted_client ops amount (client_of e.id e.rec) ∷ cs) (shifted_clients_in es)

    -- ---- each record but one is shifted, if each can be

    module _ (key : ℕ) (rec : Rec T) where
      pub arrived_others : (es : List (Entry T)) → AllByRecursion (λ e. is_shiftable ops amount e.rec ≡ true) es
          → map (λ e. with_rec (shifted_but ops amount key e.key) e) (with_record key rec es) ≡ with_record key rec (map (λ e. with_rec (shifted ops amount) e) es)
      arrived_others [] can = refl
      arrived_others (e ∷ es) can =
          ap (λ x. x ∷ map (λ e. with_rec (shifted_but ops amount key e.key) e) (with_record key rec es)) (at (e.key == key) refl)
          ∙ ap (λ xs. (if e.key == key then with_rec (λ old. rec) (with_rec (shifted ops amount) e) else with_rec (shifted ops amount) e) ∷ xs) (arrived_others es can.1) where
            at : (b : Bool) → (e.key == key) ≡ b → with_rec (shifted_but ops amount key (if b then with_rec (λ old. rec) e else e).key) (if b then with_rec (λ old. rec) e else e) ≡ (if b then with_rec (λ old. rec) (with_rec (shifted ops amount) e) else with_rec (shifted ops amount) e)
            at true k = ap (λ b. record e { rec = if not b && is_shiftable ops amount rec then shifted ops amount rec else rec }) k
            at false k =
                ap (λ b. record e { rec = if not b && is_shiftable ops amount e.rec then shifted ops amount e.rec else e.rec }) k
                ∙ ap (λ b. record e { rec = if b then shifted ops amount e.rec else e.rec }) can.0

  -- as many are queued
  pub count_shifted : (ops : Tagging T) (shift : Option T) (clients : List (PlainClient T)) → length (queued_requests (shifted_by ops shift clients)) ≡ length (queued_requests clients)
  count_shifted ops None clients = refl
  count_shifted ops (Some amount) [] = refl
  count_shifted ops (Some amount) (c ∷ clients) =
      let more = count_shifted ops (Some amount) clients in
      let own : length (shifted_client ops amount c).requests ≡ length c.requests = at c.idle in
      let left = length-append (shifted_client ops amount c).requests (queued_requests (map (shifted_client ops amount) clients)) in
      let right = length-append c.requests (queued_requests clients) in
      omega arith where
        at : (idle : Bool) → length (if idle then c else record c { previous = record (c.previous) { p = less ops amount c.previous.p }; requests = map (less_share ops amount) c.requests }).requests ≡ length c.requests
        at true = refl
        at false = length-map c.requests (less_share ops amount)
