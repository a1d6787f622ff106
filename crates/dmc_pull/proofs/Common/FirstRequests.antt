-- The index clause, from what the heads of a roster are.
use Rattle.std.proofs.Common.{◌≡◌, ℕ, Bool, true, false, not, ◌&&◌, ◌||◌, cond, List, [], ◌∷◌, length, Option, Some, None, refl, sym, ap, ◌∙◌, subst}
use Rattle.std.specs.Prelude.{◌==◌, ◌↔◌, slice_get}
use Rattle.std.specs.Option.{option_map, option_and_then}
use Rattle.std.specs.List.{AllByRecursion}
use Rattle.dmc_types.specs.declared.ids.ClientId.{ClientId}
use Rattle.dmc_tag.specs.Tag.{Fraction, Tagging}
use Rattle.dmc_tag.specs.State.{State, PlainClient, is_client, is_busy, client_named, has_queued}
use Rattle.dmc_tag.specs.declared.plain.QueuedRequest.{QueuedRequest}
use Rattle.dmc_tag.specs.declared.reply.Tags.{Tags}
use Rattle.dmc_client.specs.Record.{client_of}
use Rattle.dmc_roster.specs.Entries.{Entry, entry_named, entry_keyed, AreDistinct}
use Rattle.dmc_index.specs.Index.{slot_of_key}
use Rattle.dmc_head_index.specs.declared.head.Head.{Head}
use Rattle.dmc_head_index.specs.Heads.{Ranks}
use Rattle.dmc_pull.specs.Represented.{clients_in}
use Rattle.dmc_pull.specs.Queue.{Queue, IsQueue, AreHeads, state_of}
use Rattle.dmc_pull.specs.FirstRequests.{first_request, client_at, head_client, AreFirstRequests}
use Rattle.dmc_pull.proofs.Common.Parts.{positive}
use Rattle.dmc_pull.proofs.Common.Entries.{split, key_is, named}
use Rattle.dmc_pull.proofs.Common.Keyed.{same_client, split_named, all_found}
use Rattle.dmc_pull.proofs.Pull.Choices.{head_at, entry_at}

module _ {T : Type 0} (ops : Tagging T) (t : ℕ) (es : List (Entry T)) (heads : List (Option (Head T))) (are : AreHeads ops t es heads) (d : AreDistinct es) where
  first_tags : (key : ℕ) (head : Head T) → slot_of_key heads key ≡ Some head → option_map (λ r. r.tags) (first_request head.client (clients_in es)) ≡ Some head.tags
  first_tags key head h =
      let x = entry_at ops t es heads are key head h in
      let own : client_named x.entry.id (clients_in es) ≡ Some (client_of x.entry.id x.entry.rec) = named x.entry.id es ∙ ap (option_map (λ e. client_of e.id e.rec)) (split_named (split key es x.entry x.found d)) in
      ap (λ id. option_map (λ r. r.tags) (first_request id (clients_in es))) x.of.client
      ∙ ap (λ (o : Option (PlainClient T)). option_map (λ r. r.tags) (option_and_then (λ c. slice_get c.requests 0) o)) own
      ∙ ap (λ qs. option_map (λ r. r.tags) (slice_get qs 0)) x.requests
      ∙ ap Some (sym x.of.tags)

  abbrev HasKey : ClientId → Type 0
  HasKey id = (key : ℕ) × (client_at head_client heads key ≡ Some id)

  key_of : (id : ClientId) (e : Entry T) → entry_keyed e.key es ≡ Some e → is_client id e.id ≡ true → (qs : List (QueuedRequest T)) → e.rec.requests ≡ qs → not (length qs == 0) ≡ true → HasKey id
  key_of id e f named [] q busy = cc
  key_of id e f named (r ∷ rest) q busy =
      let x = head_at ops t es heads are e.key e r rest f q in
      (e.key, ap (option_map head_client) x.here ∙ ap Some (x.of.client ∙ same_client id e.id named))

  some_key : (id : ClientId) (xs : List (Entry T)) → AllByRecursion (λ e. is_client id e.id ≡ true → not (length e.rec.requests == 0) ≡ true → HasKey id) xs → has_queued id (clients_in xs) ≡ true → HasKey id
  some_key id [] gives has = cc
  some_key id (e ∷ xs) gives has = at (some_key id xs gives.1) (is_client id e.id) refl (not (length e.rec.requests == 0)) refl has where
    at : (has_queued id (clients_in xs) ≡ true → HasKey id) → (a : Bool) → is_client id e.id ≡ a → (b : Bool) → not (length e.rec.requests == 0) ≡ b → ((a && b) || has_queued id (clients_in xs)) ≡ true → HasKey id
    at later true a true b h = gives.0 a b
    at later true a false b h = later h
    at later false a b c h = later h

  named_key : (id : ClientId) → has_queued id (clients_in es) ≡ true → HasKey id
  named_key id = some_key id es (all_found _ es d (λ e f named. key_of id e f named e.rec.requests refl))

  keyed_named : (key : ℕ) (id : ClientId) → client_at head_client heads key ≡ Some id → (e : Entry T) × (entry_named id es ≡ Some e) × (e.key ≡ key)
  keyed_named key id c = by (slot_of_key heads key) refl c where
    by : (o : Option (Head T)) → slot_of_key heads key ≡ o → option_map head_client o ≡ Some id → (e : Entry T) × (entry_named id es ≡ Some e) × (e.key ≡ key)
    by None h c = cc
    by (Some head) h c =
        let x = entry_at ops t es heads are key head h in
        let s = split key es x.entry x.found d in
        let own : head.client ≡ id = cc in
        (x.entry, subst (λ i. entry_named i es ≡ Some x.entry) (sym x.of.client ∙ own) (split_named s), key_is s)

  only_key : (a b : ℕ) (id : ClientId) → client_at head_client heads a ≡ Some id → client_at head_client heads b ≡ Some id → a ≡ b
  only_key a b id p q =
      let x = keyed_named a id p in
      let y = keyed_named b id q in
      let both : Some x.0 ≡ Some y.0 = sym x.1 ∙ y.1 in
      let same : x.0 ≡ y.0 = cc (both) in
      sym x.2 ∙ ap (λ e. e.key) same ∙ y.2

pub first_requests : {T : Type 0} (ops : Tagging T) (fraction : T → Fraction) (is_value : Fraction → Type 0) (q : Queue T) (queued : ℕ) → IsQueue ops fraction is_value q queued → AreFirstRequests ops (state_of q) q.heads
first_requests ops fraction is_value q queued is =
    let es = q.roster.entries in
    record {
      tags = first_tags ops q.last_moment es q.heads is.heads is.distinct;
      has_key = named_key ops q.last_moment es q.heads is.heads is.distinct;
      one_key = only_key ops q.last_moment es q.heads is.heads is.distinct;
      marks = is.heads.marks;
    }

-- a client has a key in an index over the heads exactly if it has a queued request
module _ {T R : Type 0} (ops : Tagging T) (s : State T) (heads : List (Option (Head T))) (are : AreFirstRequests ops s heads) (rank : Head T → R) (client : R → ClientId) (same : (head : Head T) → client (rank head) ≡ head.client) (slots : List (Option R)) (ranks : Ranks rank heads slots) where
  client_ranked : (o : Option (Head T)) → option_map client (option_map rank o) ≡ option_map head_client o
  client_ranked None = refl
  client_ranked (Some head) = ap Some (same head)

  ranked : (key : ℕ) → client_at client slots key ≡ client_at head_client heads key
  ranked key = ap (option_map client) (ranks key) ∙ client_ranked (slot_of_key heads key)

  busy_with : (qs : List (QueuedRequest T)) (tags : Tags T) → option_map (λ r. r.tags) (slice_get qs 0) ≡ Some tags → not (length qs == 0) ≡ true
  busy_with [] tags h = cc
  busy_with (r ∷ qs) tags h = ap not (positive qs)

  queued_of : (id : ClientId) (tags : Tags T) (clients : List (PlainClient T)) → option_map (λ r. r.tags) (first_request id clients) ≡ Some tags → has_queued id clients ≡ true
  queued_of id tags [] h = cc
  queued_of id tags (c ∷ clients) h = at (queued_of id tags clients) (is_client id c.id) h where
    at : (option_map (λ r. r.tags) (first_request id clients) ≡ Some tags → has_queued id clients ≡ true) → (b : Bool) → option_map (λ r. r.tags) (option_and_then (λ c. slice_get c.requests 0) (cond b (Some c) (client_named id clients))) ≡ Some tags → ((b && is_busy c) || has_queued id clients) ≡ true
    at later true h = ap (λ b. b || has_queued id clients) (busy_with c.requests tags h)
    at later false h = later h

  of_head : (id : ClientId) (key : ℕ) (o : Option (Head T)) → slot_of_key heads key ≡ o → option_map head_client o ≡ Some id → has_queued id s.clients ≡ true
  of_head id key None h c = cc
  of_head id key (Some head) h c =
      let own : head.client ≡ id = cc in
      queued_of id head.tags s.clients (subst (λ i. option_map (λ r. r.tags) (first_request i s.clients) ≡ Some head.tags) own (are.tags key head h))

  pub has_key_exactly : (id : ClientId) → (has_queued id s.clients ≡ true) ↔ ((key : ℕ) × (client_at client slots key ≡ Some id))
  has_key_exactly id = (λ has. let k = are.has_key id has in (k.0, ranked k.0 ∙ k.1), λ k. of_head id k.0 (slot_of_key heads k.0) refl (sym (ranked k.0) ∙ k.1))
