-- What the least of an index says of all requests.
use Rattle.std.proofs.Common.{◌≡◌, ℕ, Bool, true, false, List, [], ◌∷◌, ◌++◌, drop, Option, Some, None, refl, sym, ap, ◌∙◌, subst}
use Rattle.std.specs.Prelude.{◌≢◌, ◌==◌, slice_get}
use Rattle.std.specs.Option.{option_map, option_and_then}
use Rattle.std.specs.List.{AllByRecursion}
use Rattle.std.specs.declared.cmp.Ordering.TheVariants.{Less}
use Rattle.std.specs.Cmp.{IsTotalOrder}
use Rattle.std.proofs.lemmas.Bool.{eqb-false}
use Rattle.std.proofs.lemmas.Option.{same_Some}
use Rattle.dmc_types.specs.declared.ids.ClientId.{ClientId}
use Rattle.dmc_tag.specs.Tag.{Tagging}
use Rattle.dmc_tag.specs.State.{queued_requests}
use Rattle.dmc_tag.specs.Best.{IsBestOfAll, HasNone}
use Rattle.dmc_tag.specs.Rank.{tag_rank_cmp}
use Rattle.dmc_tag.specs.declared.rank.TagRank.{TagRank}
use Rattle.dmc_tag.specs.declared.reply.Tags.{Tags}
use Rattle.dmc_tag.specs.declared.plain.QueuedRequest.{QueuedRequest}
use Rattle.dmc_roster.specs.Entries.{Entry, entry_keyed, AreDistinct}
use Rattle.dmc_client.specs.Record.{client_of}
use Rattle.dmc_index.specs.Index.{slot_of_key, IsEmpty}
use Rattle.dmc_head_index.specs.declared.head.Head.{Head}
use Rattle.dmc_lemmas.proofs.Lists.{all_both}
use Rattle.dmc_tag.proofs.Upto.{IsUpto}
use Rattle.dmc_pull.specs.Represented.{clients_in}
use Rattle.dmc_pull.specs.Queue.{unready, head_of, AreHeads}
use Rattle.dmc_pull.proofs.Common.Ordered.{FirstIsLeast, FirstIsMember}
use Rattle.dmc_pull.proofs.Common.Parts.{found_holds}
use Rattle.dmc_pull.proofs.Common.Entries.{Differs, split, key_is}
use Rattle.dmc_pull.proofs.Common.Keyed.{all_found}
use Rattle.dmc_pull.proofs.Common.Firsts.{first_is_best, none_are, IsOther, IsBehind, FirstIsNone}

-- The first request of the client under the key is the best of the members.
pub record IsChosen {T : Type 0} (ops : Tagging T) (tag : Tags T → Option T) (member : Tags T → Bool) (entries : List (Entry T)) (key : ℕ) (client : ClientId) : Type 0 where
  pub entry : Entry T
  pub client_is : client ≡ entry.id
  pub request : QueuedRequest T
  pub rest : List (QueuedRequest T)
  pub found : entry_keyed key entries ≡ Some entry
  pub requests : entry.rec.requests ≡ request ∷ rest
  pub best : IsBestOfAll ops (λ r. tag r.tags) (λ r. member r.tags) (clients_in entries) (record { client = client_of entry.id entry.rec; request = request; others = drop 1 entry.rec.requests })

-- ---- the head of an entry

-- a head that is that of an entry's first request
pub record IsHeadOf {T : Type 0} (head : Head T) (id : ClientId) (r : QueuedRequest T) : Type 0 where
  pub client : head.client ≡ id
  pub tags : head.tags ≡ r.tags

module _ {T : Type 0} where
  is_head : (head : Head T) (id : ClientId) (r : QueuedRequest T) → unready head ≡ record { client = id; tags = r.tags; ready = false } → IsHeadOf head id r
  is_head head id r e = record { client = ap (λ h. h.client) e; tags = ap (λ h. h.tags) e }

  -- the entry that a key finds has a head under the key, if it has a request
  pub record HasHead (heads : List (Option (Head T))) (key : ℕ) (id : ClientId) (r : QueuedRequest T) : Type 0 where
    pub head : Head T
    pub here : slot_of_key heads key ≡ Some head
    pub of : IsHeadOf head id r

  has_head : (o : Option (Head T)) (heads : List (Option (Head T))) (key : ℕ) (id : ClientId) (r : QueuedRequest T) → slot_of_key heads key ≡ o → option_map unready o ≡ Some (record { client = id; tags = r.tags; ready = false }) → HasHead heads key id r
  has_head None heads key id r h e = cc
  has_head (Some head) heads key id r h e = record { head = head; here = h; of = is_head head id r (same_Some _ _ e) }

module _ {T : Type 0} (ops : Tagging T) (t : ℕ) (es : List (Entry T)) (heads : List (Option (Head T))) (are : AreHeads ops t es heads) where
  pub head_at : (key : ℕ) (e : Entry T) (r : QueuedRequest T) (rest : List (QueuedRequest T)) → entry_keyed key es ≡ Some e → e.rec.requests ≡ r ∷ rest → HasHead heads key e.id r
  head_at key e r rest f q =
      has_head (slot_of_key heads key) heads key e.id r refl
      (are.here key ∙ ap (option_and_then head_of) f ∙ ap (λ l. option_map (λ r. record { client = e.id; tags = r.tags; ready = false }) (slice_get l 0)) q)

  -- a held key finds an entry with a request
  pub record HasEntry (key : ℕ) (head : Head T) : Type 0 where
    pub entry : Entry T
    pub request : QueuedRequest T
    pub rest : List (QueuedRequest T)
    pub found : entry_keyed key es ≡ Some entry
    pub requests : entry.rec.requests ≡ request ∷ rest
    pub of : IsHeadOf head entry.id request

  entry_from : (key : ℕ) (head : Head T) (o : Option (Entry T)) → entry_keyed key es ≡ o → Some (unready head) ≡ option_and_then head_of o → HasEntry key head
  entry_from key head None f e = cc
  entry_from key head (Some entry) f e = at entry.rec.requests refl e where
    at : (requests : List (QueuedRequest T)) → entry.rec.requests ≡ requests → Some (unready head) ≡ option_map (λ r. record { client = entry.id; tags = r.tags; ready = false }) (slice_get entry.rec.requests 0) → HasEntry key head
    at [] q e = let none : Some (unready head) ≡ None = e ∙ ap (λ l. option_map (λ r. record { client = entry.id; tags = r.tags; ready = false }) (slice_get l 0)) q in cc
    at (r ∷ rest) q e =
        let same : Some (unready head) ≡ Some (record { client = entry.id; tags = r.tags; ready = false }) = e ∙ ap (λ l. option_map (λ r. record { client = entry.id; tags = r.tags; ready = false }) (slice_get l 0)) q in
        record { entry = entry; request = r; rest = rest; found = f; requests = q; of = is_head head entry.id r (cc (same)) }

  pub entry_at : (key : ℕ) (head : Head T) → slot_of_key heads key ≡ Some head → HasEntry key head
  entry_at key head h = entry_from key head (entry_keyed key es) refl (sym (ap (option_map unready) h) ∙ are.here key)

  -- with no head no client has a request
  pub none_queued : AreDistinct es → IsEmpty heads → queued_requests (clients_in es) ≡ []
  none_queued d none = all_empty es (all_found (λ e. e.rec.requests ≡ []) es d (λ e f. empty_at e e.rec.requests refl f)) where
    empty_at : (e : Entry T) (l : List (QueuedRequest T)) → e.rec.requests ≡ l → entry_keyed e.key es ≡ Some e → e.rec.requests ≡ []
    empty_at e [] q f = q
    empty_at e (r ∷ rest) q f = let h = head_at e.key e r rest f q in let gone : None ≡ Some h.head = sym (none e.key) ∙ h.here in cc

    all_empty : (xs : List (Entry T)) → AllByRecursion (λ e. e.rec.requests ≡ []) xs → queued_requests (clients_in xs) ≡ []
    all_empty [] h = refl
    all_empty (x ∷ xs) h = ap (λ l. l ++ queued_requests (clients_in xs)) h.0 ∙ all_empty xs h.1

  -- ---- the best of a set, by what holds of the other heads

  module _ (order : IsTotalOrder ops.compare) (d : AreDistinct es) (tag : Tags T → Option T) (member : Tags T → Bool)
      (least : AllByRecursion (λ e. FirstIsLeast ops tag e.rec.requests) es) (members : AllByRecursion (λ e. FirstIsMember member e.rec.requests) es) where
    within : (P : Entry T → Type 0) (front : List (Entry T)) (e : Entry T) (back : List (Entry T)) → AllByRecursion P (front ++ e ∷ back) → AllByRecursion P front × AllByRecursion P back
    within P [] e back h = (tt, h.1)
    within P (x ∷ front) e back h = let more = within P front e back h.1 in ((h.0, more.0), more.1)

    others : (e : Entry T) (first : TagRank T) (xs : List (Entry T)) → AllByRecursion (λ f. ((f.key == e.key) ≡ false → IsOther ops order tag member first f)) xs → AllByRecursion (Differs e) xs → AllByRecursion (IsOther ops order tag member first) xs
    others e first [] h k = tt
    others e first (x ∷ xs) h k = (h.0 k.0.0, others e first xs h.1 k.1)

    -- the head's request is the best, if every other head that is a member is behind it
    pub chosen : (key : ℕ) (head : Head T) → slot_of_key heads key ≡ Some head → member head.tags ≡ true → ((k : ℕ) (other : Head T) → k ≢ key → slot_of_key heads k ≡ Some other → member other.tags ≡ true → tag_rank_cmp ops.compare (record { tag = tag head.tags; client = head.client }) (record { tag = tag other.tags; client = other.client }) ≡ Less) → IsChosen ops tag member es key head.client
    chosen key head h m below =
        let x = entry_at key head h in
        let at = split key es x.entry x.found d in
        let first : TagRank T = record { tag = tag x.request.tags; client = x.entry.id } in
        let own : AllByRecursion (λ y. IsUpto ops (tag x.request.tags) (tag y.tags)) x.rest = subst (FirstIsLeast ops tag) x.requests (found_holds (λ e. FirstIsLeast ops tag e.rec.requests) (λ e. e.key == key) es x.entry least x.found) in
        let all = all_found (λ f. (f.key == x.entry.key) ≡ false → IsOther ops order tag member first f) es d (λ f g ne. other_of key head x.entry x.request x.of below f g (ap (λ n. f.key == n) (sym (key_is at)) ∙ ne)) in
        let parts = within _ at.front x.entry at.back (subst (AllByRecursion (λ f. (f.key == x.entry.key) ≡ false → IsOther ops order tag member first f)) at.whole all) in
        record {
          entry = x.entry;
          client_is = x.of.client;
          request = x.request;
          rest = x.rest;
          found = x.found;
          requests = x.requests;
          best = first_is_best ops order tag member at x.request x.rest x.requests (subst (λ g. member g ≡ true) x.of.tags m) own (others x.entry first at.front parts.0 at.ahead) (others x.entry first at.back parts.1 at.behind);
        }
      where
        behind_at : (key : ℕ) (head : Head T) (e : Entry T) (r : QueuedRequest T) → IsHeadOf head e.id r → ((k : ℕ) (other : Head T) → k ≢ key → slot_of_key heads k ≡ Some other → member other.tags ≡ true → tag_rank_cmp ops.compare (record { tag = tag head.tags; client = head.client }) (record { tag = tag other.tags; client = other.client }) ≡ Less) → (f : Entry T) → entry_keyed f.key es ≡ Some f → (f.key == key) ≡ false → (l : List (QueuedRequest T)) → f.rec.requests ≡ l → IsBehind ops order tag member (record { tag = tag r.tags; client = e.id }) f.id l
        behind_at key head e r of below f g ne [] q = tt
        behind_at key head e r of below f g ne (s ∷ rest) q = λ m.
            let k = head_at f.key f s rest g q in
            let less = below f.key k.head (eqb-false f.key key ne) k.here (subst (λ tags. member tags ≡ true) (sym k.of.tags) m) in
            subst (λ id. tag_rank_cmp ops.compare (record { tag = tag r.tags; client = e.id }) (record { tag = tag s.tags; client = id }) ≡ Less) k.of.client
            (subst (λ tags. tag_rank_cmp ops.compare (record { tag = tag r.tags; client = e.id }) (record { tag = tag tags; client = k.head.client }) ≡ Less) k.of.tags
            (subst (λ id. tag_rank_cmp ops.compare (record { tag = tag r.tags; client = id }) (record { tag = tag k.head.tags; client = k.head.client }) ≡ Less) of.client
            (subst (λ tags. tag_rank_cmp ops.compare (record { tag = tag tags; client = head.client }) (record { tag = tag k.head.tags; client = k.head.client }) ≡ Less) of.tags less)))

        other_of : (key : ℕ) (head : Head T) (e : Entry T) (r : QueuedRequest T) → IsHeadOf head e.id r → ((k : ℕ) (other : Head T) → k ≢ key → slot_of_key heads k ≡ Some other → member other.tags ≡ true → tag_rank_cmp ops.compare (record { tag = tag head.tags; client = head.client }) (record { tag = tag other.tags; client = other.client }) ≡ Less) → (f : Entry T) → entry_keyed f.key es ≡ Some f → (f.key == key) ≡ false → IsOther ops order tag member (record { tag = tag r.tags; client = e.id }) f
        other_of key head e r of below f g ne = record {
          least = found_holds (λ e. FirstIsLeast ops tag e.rec.requests) (λ y. y.key == f.key) es f least g;
          members = found_holds (λ e. FirstIsMember member e.rec.requests) (λ y. y.key == f.key) es f members g;
          behind = behind_at key head e r of below f g ne f.rec.requests refl;
        }

    -- no request is a member, if no head is one
    pub none_chosen : ((k : ℕ) (head : Head T) → slot_of_key heads k ≡ Some head → member head.tags ≡ false) → HasNone (λ r. member r.tags) (queued_requests (clients_in es))
    none_chosen none = none_are ops order tag member es (all_both _ _ es members (all_found (λ f. FirstIsNone ops order tag member f.rec.requests) es d (λ f g. none_at f g f.rec.requests refl))) where
      none_at : (f : Entry T) → entry_keyed f.key es ≡ Some f → (l : List (QueuedRequest T)) → f.rec.requests ≡ l → FirstIsNone ops order tag member l
      none_at f g [] q = tt
      none_at f g (r ∷ rest) q = let k = head_at f.key f r rest g q in subst (λ tags. member tags ≡ false) k.of.tags (none f.key k.head k.here)
