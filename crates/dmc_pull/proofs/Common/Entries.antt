-- The clients of a plain state, entry by entry.
use Rattle.std.proofs.Common.{◌≡◌, ℕ, ◌+◌, Bool, true, false, cond, List, [], ◌∷◌, ◌++◌, length, Some, refl, sym, ap, ◌∙◌, subst, arith}
use Rattle.std.specs.Prelude.{◌==◌, if◌then◌else◌}
use Rattle.std.specs.Option.{option_map}
use Rattle.std.specs.List.{AllByRecursion}
use Rattle.std.proofs.lemmas.Bool.{eqb-true, eq-eqb}
use Rattle.std.proofs.lemmas.Grind.{flat_map-append}
use Rattle.std.proofs.lemmas.List.{map-append, length-map, length-append}
use Rattle.dmc_types.specs.declared.ids.ClientId.{ClientId}
use Rattle.dmc_tag.specs.State.{PlainClient, is_client, client_named, queued_requests}
use Rattle.dmc_tag.specs.Rules.{change_client}
use Rattle.dmc_client.specs.Record.{Rec, client_of}
use Rattle.dmc_roster.specs.Entries.{Entry, entry_named, entry_keyed, with_rec, with_record, AreDistinct}
use Rattle.dmc_pull.specs.Represented.{clients_in}
use Rattle.dmc_pull.proofs.Common.Parts.{eqb_turned, all_as, all_both, all_append, all_front, all_back, map_unmoved, map_cond, found_holds, found_passes}
use Rattle.dmc_tag.proofs.Ids.{itself_id, client_turned}

module _ {T : Type 0} where
  -- ---- an entry among the others

  -- neither the key nor the id is that of e
  abbrev pub Differs : Entry T → Entry T → Type 0
  Differs e f = ((f.key == e.key) ≡ false) × (is_client e.id f.id ≡ false) × (is_client f.id e.id ≡ false)

  -- e is the one entry under a key, and no other has its id
  pub record Split (key : ℕ) (e : Entry T) (es : List (Entry T)) : Type 0 where
    pub front : List (Entry T)
    pub back : List (Entry T)
    pub whole : es ≡ front ++ e ∷ back
    pub keyed : (e.key == key) ≡ true
    pub ahead : AllByRecursion (Differs e) front
    pub behind : AllByRecursion (Differs e) back

  -- as the list says that entries differ
  abbrev IsApart : Entry T → Entry T → Type 0
  IsApart e f = (is_client e.id f.id ≡ false) × ((e.key == f.key) ≡ false)

  pub differs_from : (e f : Entry T) → IsApart e f → Differs e f
  differs_from e f h = (eqb_turned f.key e.key false h.1, h.0, client_turned f.id e.id false h.0)

  pub differs_before : (e f : Entry T) → IsApart f e → Differs e f
  differs_before e f h = (h.1, client_turned e.id f.id false h.0, h.0)

  split_at : (key : ℕ) (x e : Entry T) (es : List (Entry T)) (b : Bool) → (x.key == key) ≡ b → cond b (Some x) (entry_keyed key es) ≡ Some e → AllByRecursion (IsApart x) es → (entry_keyed key es ≡ Some e → Split key e es) → Split key e (x ∷ es)
  split_at key x e es true k h d more =
      let same : x ≡ e = cc in
      let here : Split key x (x ∷ es) = record { front = []; back = es; whole = refl; keyed = k; ahead = tt; behind = all_as (IsApart x) (Differs x) (differs_from x) es d } in
      subst (λ y. Split key y (x ∷ es)) same here
  split_at key x e es false k h d more =
      let s = more h in
      record { front = x ∷ s.front; back = s.back; whole = ap (λ xs. x ∷ xs) s.whole; keyed = s.keyed; ahead = (differs_before e x (found_holds (IsApart x) (λ y. y.key == key) es e d h), s.ahead); behind = s.behind }

  pub split : (key : ℕ) (es : List (Entry T)) (e : Entry T) → entry_keyed key es ≡ Some e → AreDistinct es → Split key e es
  split key [] e h d = cc
  split key (x ∷ es) e h d = split_at key x e es (x.key == key) refl h d.0 (λ f. split key es e f d.1)

  pub key_is : {key : ℕ} {e : Entry T} {es : List (Entry T)} → Split key e es → e.key ≡ key
  key_is {key} {e} s = eqb-true e.key key s.keyed

  pub name_is : (id : ClientId) (es : List (Entry T)) (e : Entry T) → entry_named id es ≡ Some e → is_client id e.id ≡ true
  name_is id es e h = found_passes (λ e. is_client id e.id) es e h

  -- each entry among the others
  pub all_split : (es : List (Entry T)) → AreDistinct es → AllByRecursion (λ e. Split e.key e es) es
  all_split [] d = tt
  all_split (x ∷ es) d =
      let here : Split x.key x (x ∷ es) = record { front = []; back = es; whole = refl; keyed = eq-eqb x.key x.key refl; ahead = tt; behind = all_as (IsApart x) (Differs x) (differs_from x) es d.0 } in
      (here, all_as (λ e. Split e.key e es × IsApart x e) (λ e. Split e.key e (x ∷ es)) later es (all_both (λ e. Split e.key e es) (IsApart x) es (all_split es d.1) d.0)) where
        later : (e : Entry T) → Split e.key e es × IsApart x e → Split e.key e (x ∷ es)
        later e h = record { front = x ∷ h.0.front; back = h.0.back; whole = ap (λ xs. x ∷ xs) h.0.whole; keyed = h.0.keyed; ahead = (differs_before e x h.1, h.0.ahead); behind = h.0.behind }

  -- ---- the lists of an append

  pub clients_append : (xs ys : List (Entry T)) → clients_in (xs ++ ys) ≡ clients_in xs ++ clients_in ys
  clients_append xs ys = map-append (λ e. client_of e.id e.rec) xs ys

  pub clients_whole : {key : ℕ} {e : Entry T} {es : List (Entry T)} (s : Split key e es) → clients_in es ≡ clients_in s.front ++ client_of e.id e.rec ∷ clients_in s.back
  clients_whole {key} {e} s = ap clients_in s.whole ∙ clients_append s.front (e ∷ s.back)

  -- ---- a record is changed

  record_kept : (key : ℕ) (rec : Rec T) (e : Entry T) → e.key ≡ key → (f : Entry T) → Differs e f → (if f.key == key then with_rec (λ old. rec) f else f) ≡ f
  record_kept key rec e k f d =
      let other : (f.key == key) ≡ false = ap (λ n. f.key == n) (sym k) ∙ d.0 in
      ap (λ b. if b then with_rec (λ old. rec) f else f) other

  others_kept : (key : ℕ) (rec : Rec T) (e : Entry T) → e.key ≡ key → (xs : List (Entry T)) → AllByRecursion (Differs e) xs → with_record key rec xs ≡ xs
  others_kept key rec e k xs h = map_unmoved (λ f. if f.key == key then with_rec (λ old. rec) f else f) xs (all_as (Differs e) (λ f. (if f.key == key then with_rec (λ old. rec) f else f) ≡ f) (record_kept key rec e k) xs h)

  pub with_record_split : {key : ℕ} {e : Entry T} {es : List (Entry T)} (s : Split key e es) (rec : Rec T) → with_record key rec es ≡ s.front ++ record e { rec = rec } ∷ s.back
  with_record_split {key} {e} s rec =
      let k = key_is s in
      ap (with_record key rec) s.whole
      ∙ map-append (λ f. if f.key == key then with_rec (λ old. rec) f else f) s.front (e ∷ s.back)
      ∙ ap (λ xs. xs ++ (if e.key == key then with_rec (λ old. rec) e else e) ∷ with_record key rec s.back) (others_kept key rec e k s.front s.ahead)
      ∙ ap (λ b. s.front ++ (if b then with_rec (λ old. rec) e else e) ∷ with_record key rec s.back) s.keyed
      ∙ ap (λ xs. s.front ++ record e { rec = rec } ∷ xs) (others_kept key rec e k s.back s.behind)

  -- the changed entry is where it was
  abbrev pub split_changed : {key : ℕ} {e : Entry T} {es : List (Entry T)} (s : Split key e es) (rec : Rec T) → Split key (record e { rec = rec }) (with_record key rec es)
  split_changed {key} {e} s rec = record { front = s.front; back = s.back; whole = with_record_split s rec; keyed = s.keyed; ahead = s.ahead; behind = s.behind }

  -- ---- 1: a client by its id

  pub named : (id : ClientId) (es : List (Entry T)) → client_named id (clients_in es) ≡ option_map (λ e. client_of e.id e.rec) (entry_named id es)
  named id [] = refl
  named id (e ∷ es) =
      ap (cond (is_client id e.id) (Some (client_of e.id e.rec))) (named id es)
      ∙ sym (map_cond (λ e. client_of e.id e.rec) (is_client id e.id) e (entry_named id es))

  pub length_clients : (es : List (Entry T)) → length (clients_in es) ≡ length es
  length_clients es = length-map es (λ e. client_of e.id e.rec)

  -- ---- a client is changed

  others_unchanged : (e : Entry T) (f : PlainClient T → PlainClient T) (xs : List (Entry T)) → AllByRecursion (Differs e) xs → change_client e.id f (clients_in xs) ≡ clients_in xs
  others_unchanged e f [] h = refl
  others_unchanged e f (x ∷ xs) h =
      ap (λ b. (if b then f (client_of x.id x.rec) else client_of x.id x.rec) ∷ change_client e.id f (clients_in xs)) h.0.1
      ∙ ap (λ cs. client_of x.id x.rec ∷ cs) (others_unchanged e f xs h.1)

  module _ {key : ℕ} {e : Entry T} {es : List (Entry T)} (s : Split key e es) where
    pub change_whole : (f : PlainClient T → PlainClient T) → change_client e.id f (clients_in es) ≡ clients_in s.front ++ f (client_of e.id e.rec) ∷ clients_in s.back
    change_whole f =
        ap (change_client e.id f) (clients_whole s)
        ∙ map-append (λ c. if is_client e.id c.id then f c else c) (clients_in s.front) (client_of e.id e.rec ∷ clients_in s.back)
        ∙ ap (λ cs. cs ++ (if is_client e.id e.id then f (client_of e.id e.rec) else client_of e.id e.rec) ∷ change_client e.id f (clients_in s.back)) (others_unchanged e f s.front s.ahead)
        ∙ ap (λ b. clients_in s.front ++ (if b then f (client_of e.id e.rec) else client_of e.id e.rec) ∷ change_client e.id f (clients_in s.back)) (itself_id e.id)
        ∙ ap (λ cs. clients_in s.front ++ f (client_of e.id e.rec) ∷ cs) (others_unchanged e f s.back s.behind)

    pub changed_client : (f : PlainClient T → PlainClient T) (rec : Rec T) → client_of e.id rec ≡ f (client_of e.id e.rec) → clients_in (with_record key rec es) ≡ change_client e.id f (clients_in es)
    changed_client f rec h =
        clients_whole (split_changed s rec)
        ∙ ap (λ c. clients_in s.front ++ c ∷ clients_in s.back) h
        ∙ sym (change_whole f)

    -- how many requests are queued
    count_in : (rec : Rec T) → length (queued_requests (clients_in s.front ++ client_of e.id rec ∷ clients_in s.back)) ≡ length (queued_requests (clients_in s.front)) + length rec.requests + length (queued_requests (clients_in s.back))
    count_in rec =
        let parts = ap length (flat_map-append (λ (c : PlainClient T). c.requests) (clients_in s.front) (client_of e.id rec ∷ clients_in s.back)) in
        let outer = length-append (queued_requests (clients_in s.front)) (rec.requests ++ queued_requests (clients_in s.back)) in
        let inner = length-append rec.requests (queued_requests (clients_in s.back)) in
        omega arith

    pub count_changed : (rec : Rec T) → length (queued_requests (clients_in (with_record key rec es))) + length e.rec.requests ≡ length (queued_requests (clients_in es)) + length rec.requests
    count_changed rec =
        let old = ap (λ cs. length (queued_requests cs)) (clients_whole s) ∙ count_in e.rec in
        let new = ap (λ cs. length (queued_requests cs)) (clients_whole (split_changed s rec)) ∙ count_in rec in
        omega arith

    -- ---- what holds of each, of a changed entry too

    pub all_changed : (P : Entry T → Type 0) (rec : Rec T) → AllByRecursion P es → P (record e { rec = rec }) → AllByRecursion P (with_record key rec es)
    all_changed P rec h here =
        let parts = subst (AllByRecursion P) s.whole h in
        let back = all_back P s.front (e ∷ s.back) parts in
        subst (AllByRecursion P) (sym (with_record_split s rec)) (all_append P s.front (record e { rec = rec } ∷ s.back) (all_front P s.front (e ∷ s.back) parts) (here, back.1))

  -- ---- a client comes last

  pub registered_clients : (es : List (Entry T)) (e : Entry T) → clients_in (es ++ e ∷ []) ≡ clients_in es ++ client_of e.id e.rec ∷ []
  registered_clients es e = clients_append es (e ∷ [])

  pub registered_count : (es : List (Entry T)) (e : Entry T) → e.rec.requests ≡ [] → length (queued_requests (clients_in (es ++ e ∷ []))) ≡ length (queued_requests (clients_in es))
  registered_count es e none =
      let parts = ap (λ cs. length (queued_requests cs)) (registered_clients es e) ∙ ap length (flat_map-append (λ (c : PlainClient T). c.requests) (clients_in es) (client_of e.id e.rec ∷ [])) in
      let both = length-append (queued_requests (clients_in es)) (e.rec.requests ++ []) in
      let last : length (e.rec.requests ++ []) ≡ 0 = ap (λ qs. length (qs ++ [])) none in
      omega arith
