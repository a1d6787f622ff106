-- One client's record and head replaced.
use Rattle.std.proofs.Common.{◌≡◌, ℕ, zero, suc, ◌-◌, ◌≤◌, ◌<◌, Bool, true, false, List, [], ◌∷◌, ◌++◌, map, length, Option, Some, None, refl, sym, ap, ◌∙◌, subst, arith}
use Rattle.std.specs.Prelude.{◌==◌, slice_set, slice_get, is_some, drop, nat_le, Ok}
use Rattle.std.specs.Option.{option_map, option_and_then}
use Rattle.std.specs.List.{AllByRecursion}
use Rattle.std.proofs.lemmas.Bool.{eqb-true, eqb-false}
use Rattle.dmc_types.specs.declared.ids.ClientId.{ClientId}
use Rattle.dmc_tag.specs.Tag.{Fraction, Tagging}
use Rattle.dmc_tag.specs.Best.{Found, is_due}
use Rattle.dmc_tag.specs.Spacing.{spacings_of}
use Rattle.dmc_tag.specs.declared.plain.Progress.{Progress}
use Rattle.dmc_tag.specs.declared.reply.Tags.{Tags}
use Rattle.dmc_tag.specs.State.{queued_requests}
use Rattle.dmc_client.specs.Record.{Rec, client_of, IsRecord, share_tags}
use Rattle.dmc_tag.specs.declared.plain.QueuedRequest.{QueuedRequest}
use Rattle.dmc_roster.specs.Entries.{Entry, entry_keyed, record_at, with_record, with_record_at, AreDistinct}
use Rattle.dmc_adjust.specs.Changes.{popped}
use Rattle.dmc_index.specs.Index.{slot_of_key}
use Rattle.dmc_head_index.specs.declared.head.Head.{Head}
use Rattle.dmc_pull.specs.Represented.{clients_in}
use Rattle.dmc_pull.specs.Queue.{Queue, IsQueue, IsKept, AreHeads, AreValues, head_of, unready, unready_head}
use Rattle.dmc_pull.specs.internal.Queue.{head_at}
use Rattle.dmc_pull.specs.internal.Choice.{first_of, first_at, after_grant, IsFirstOf}
use Rattle.dmc_pull.proofs.Common.Kept.{length_map}
use Rattle.dmc_pull.proofs.Common.Entries.{Split, split, key_is, all_changed, count_changed}
use Rattle.dmc_pull.proofs.Common.Keyed.{distinct_changed, read_changed, read_other}
use Rattle.dmc_pull.proofs.Common.Parts.{found_holds}
use Rattle.dmc_tag.specs.Rules.{moment_of, less_reservation}
use Rattle.dmc_pull.proofs.Common.Kept.{marks_later}

-- ---- a slot replaced

pub set_here : {X : Type 0} (xs : List (Option X)) (key : ℕ) (o : Option X) → key < length xs → slot_of_key (slice_set xs key o) key ≡ o
set_here [] key o h = absurd (omega arith)
set_here (x ∷ xs) zero o h = refl
set_here (x ∷ xs) (suc key) o h = set_here xs key o (omega arith)

pub set_other : {X : Type 0} (xs : List (Option X)) (key other : ℕ) (o : Option X) → (other ≡ key → ⊥) → slot_of_key (slice_set xs key o) other ≡ slot_of_key xs other
set_other [] key other o ne = refl
set_other (x ∷ xs) zero zero o ne = absurd (ne refl)
set_other (x ∷ xs) zero (suc other) o ne = refl
set_other (x ∷ xs) (suc key) zero o ne = refl
set_other (x ∷ xs) (suc key) (suc other) o ne = set_other xs key other o (λ e. ne (ap suc e))

pub set_length : {X : Type 0} (xs : List X) (key : ℕ) (o : X) → length (slice_set xs key o) ≡ length xs
set_length [] key o = refl
set_length (x ∷ xs) zero o = refl
set_length (x ∷ xs) (suc key) o = ap suc (set_length xs key o)

module _ {T : Type 0} (ops : Tagging T) (t : ℕ) {key : ℕ} {e : Entry T} {es : List (Entry T)} (s : Split key e es) (heads : List (Option (Head T))) (are : AreHeads ops t es heads) (in_room : key < length heads) where
  -- a record and its head replaced
  pub replaced : (rec : Rec T) (o : Option (Head T)) → option_map unready o ≡ head_of (record e { rec = rec }) → ((h : Head T) → o ≡ Some h → h.ready ≡ true → is_due ops t (Some h.tags.l) ≡ true) → AreHeads ops t (with_record key rec es) (slice_set heads key o)
  replaced rec o same due = record {
    here = λ k. here_at k (k == key) refl;
    marks = λ k head h r. marks_at k head (k == key) refl h r;
  } where
    here_at : (k : ℕ) (b : Bool) → (k == key) ≡ b → option_map unready (slot_of_key (slice_set heads key o) k) ≡ option_and_then head_of (entry_keyed k (with_record key rec es))
    here_at k true q =
        let at : k ≡ key = eqb-true k key q in
        let own : option_map unready (slot_of_key (slice_set heads key o) key) ≡ option_and_then head_of (entry_keyed key (with_record key rec es)) = ap (option_map unready) (set_here heads key o in_room) ∙ same ∙ sym (read_changed head_of s rec) in
        subst (λ n. option_map unready (slot_of_key (slice_set heads key o) n) ≡ option_and_then head_of (entry_keyed n (with_record key rec es))) (sym at) own
    here_at k false q = ap (option_map unready) (set_other heads key k o (eqb-false k key q)) ∙ are.here k ∙ sym (read_other head_of key rec k es q)

    marks_at : (k : ℕ) (head : Head T) (b : Bool) → (k == key) ≡ b → slot_of_key (slice_set heads key o) k ≡ Some head → head.ready ≡ true → is_due ops t (Some head.tags.l) ≡ true
    marks_at k head true q h r = due head (sym (set_here heads key o in_room) ∙ ap (slot_of_key (slice_set heads key o)) (sym (eqb-true k key q)) ∙ h) r
    marks_at k head false q h r = are.marks k head (sym (set_other heads key k o (eqb-false k key q)) ∙ h) r

-- ---- a grant

module _ {T : Type 0} where
  -- the key finds a client with a first request
  pub record Waits (es : List (Entry T)) (key : ℕ) (client : ClientId) : Type 0 where
    pub entry : Entry T
    pub request : QueuedRequest T
    pub rest : List (QueuedRequest T)
    pub found : entry_keyed key es ≡ Some entry
    pub requests : entry.rec.requests ≡ request ∷ rest
    pub client_is : client ≡ entry.id

  first_in_list : Entry T → List (QueuedRequest T) → Option ClientId
  first_in_list e l = option_map (λ (found : Found T). found.client.id) (option_map (λ r. record { client = client_of e.id e.rec; request = r; others = drop 1 e.rec.requests }) (slice_get l 0))

  with_request : (es : List (Entry T)) (key : ℕ) (client : ClientId) (e : Entry T) → entry_keyed key es ≡ Some e → (l : List (QueuedRequest T)) → e.rec.requests ≡ l → first_in_list e l ≡ Some client → Waits es key client
  unfolding first_in_list
  with_request es key client e f [] q h = cc
  with_request es key client e f (r ∷ rest) q h = let same : Some e.id ≡ Some client = h in record { entry = e; request = r; rest = rest; found = f; requests = q; client_is = cc (same) }

  found_waits : (es : List (Entry T)) (key : ℕ) (client : ClientId) (o : Option (Entry T)) → entry_keyed key es ≡ o → option_map (λ (found : Found T). found.client.id) (option_and_then first_of o) ≡ Some client → Waits es key client
  unfolding first_in_list
  found_waits es key client None f h = cc
  found_waits es key client (Some e) f h = with_request es key client e f e.rec.requests refl h

  pub waits : (es : List (Entry T)) (key : ℕ) (client : ClientId) → IsFirstOf es key client → Waits es key client
  waits es key client h = found_waits es key client (entry_keyed key es) refl h

  named : (o : Option (Found T)) → is_some o ≡ true → (client : ClientId) × (option_map (λ found. found.client.id) o ≡ Some client)
  named None h = cc
  named (Some found) h = (found.client.id, refl)

  -- the client of a first request
  pub first_named : (es : List (Entry T)) (key : ℕ) → is_some (first_at key es) ≡ true → (client : ClientId) × IsFirstOf es key client
  first_named es key h = named (first_at key es) h

-- what is read as the first request
pub request_is : {T : Type 0} {es : List (Entry T)} {key : ℕ} {client : ClientId} → (w : Waits es key client)
    → option_and_then (λ (rec : Rec T). slice_get rec.requests 0) (record_at key es) ≡ Some w.request
request_is {T} w = ap (λ o. option_and_then (λ (rec : Rec T). slice_get rec.requests 0) (option_map (λ e. e.rec) o)) w.found ∙ ap (λ l. slice_get l 0) w.requests

-- the first request
module _ {T : Type 0} (es : List (Entry T)) (key : ℕ) where
  abbrev request_found : Option (Found T) → Option (QueuedRequest T)
  request_found = option_map (λ found. found.request)

  pub first_request : option_and_then (λ rec. slice_get rec.requests 0) (record_at key es) ≡ request_found (first_at key es)
  first_request = at (entry_keyed key es) where
    of_slot : (e : Entry T) (x : Option (QueuedRequest T)) → x ≡ request_found (option_map (λ r. record { client = client_of e.id e.rec; request = r; others = drop 1 e.rec.requests }) x)
    of_slot e None = refl
    of_slot e (Some r) = refl

    at : (o : Option (Entry T))
        → option_and_then (λ (rec : Rec T). slice_get rec.requests 0) (option_map (λ e. e.rec) o) ≡ request_found (option_and_then first_of o)
    at None = refl
    at (Some e) = of_slot e (slice_get e.rec.requests 0)

module _ {T : Type 0} (ops : Tagging T) where
  -- ---- what a grant leaves of a record

  map_shares : (amount : T) (qs : List (QueuedRequest T)) → map (λ r. r.tags.p) (map (less_reservation ops amount) qs) ≡ map (λ r. r.tags.p) qs
  map_shares amount [] = refl
  map_shares amount (r ∷ qs) = ap (λ l. r.tags.p ∷ l) (map_shares amount qs)

  pub grant_shares : (amount : Option T) (rec : Rec T) → share_tags (after_grant ops amount rec) ≡ share_tags (popped rec)
  grant_shares None rec = refl
  grant_shares (Some amount) rec = ap (λ l. l ++ rec.previous.p ∷ []) (map_shares amount (drop 1 rec.requests))

  pub grant_info : (amount : Option T) (rec : Rec T) → ((after_grant ops amount rec).info ≡ rec.info) × ((after_grant ops amount rec).spacings ≡ rec.spacings)
  grant_info None rec = (refl, refl)
  grant_info (Some amount) rec = (refl, refl)

  pub grant_length : (amount : Option T) (rec : Rec T) → length (after_grant ops amount rec).requests ≡ length (drop 1 rec.requests)
  grant_length None rec = refl
  grant_length (Some amount) rec = length_map (less_reservation ops amount) (drop 1 rec.requests)

pub popped_values : {T : Type 0} (P : T → Type 0) (prev : T) (qs : List (QueuedRequest T)) → AllByRecursion P (map (λ r. r.tags.p) qs ++ prev ∷ []) → AllByRecursion P (map (λ r. r.tags.p) (drop 1 qs) ++ prev ∷ [])
popped_values P prev [] h = h
popped_values P prev (r ∷ qs) h = h.1

module _ {T : Type 0} (ops : Tagging T) (fraction : T → Fraction) (is_value : Fraction → Type 0) where
  pub grant_kept : (hz : ℕ) (amount : Option T) (rec : Rec T) → IsKept ops fraction is_value hz rec → IsRecord ops (after_grant ops amount rec) → IsKept ops fraction is_value hz (after_grant ops amount rec)
  grant_kept hz amount rec k is = record {
    is_record = is;
    spacings =
        let same = grant_info ops amount rec in
        ap (spacings_of ops hz) same.0 ∙ k.spacings ∙ ap Ok (sym same.1);
    values = subst (AllByRecursion (λ tag. is_value (fraction tag))) (sym (grant_shares ops amount rec)) (popped_values (λ tag. is_value (fraction tag)) rec.previous.p rec.requests k.values);
  }

  -- ---- the queue after a grant

  pub head_renewed : (at : ℕ) (id client : ClientId) → client ≡ id → (x : Option (QueuedRequest T)) → option_map unready (option_map (head_at ops at client) (option_map (λ r. r.tags) x)) ≡ option_map (λ r. unready_head id r.tags) x
  head_renewed at id client e None = refl
  head_renewed at id client e (Some r) = ap (λ c. Some (unready_head c r.tags)) e

  pub head_due : (at : ℕ) (client : ClientId) (tags : Option (Tags T)) (h : Head T) → option_map (head_at ops at client) tags ≡ Some h → h.ready ≡ true → is_due ops at (Some h.tags.l) ≡ true
  head_due at client None h e r = cc
  head_due at client (Some tags) h e r = let own : head_at ops at client tags ≡ h = cc (e) in subst (λ x. x.ready ≡ true → is_due ops at (Some x.tags.l) ≡ true) own (λ due. due) r

  module _ (due_from : (tag : T) (n : ℕ) → is_due ops n (Some tag) ≡ nat_le (moment_of (ops.ceil tag)) n) (q : Queue T) (queued : ℕ) (key : ℕ) (client : ClientId) (amount : Option T) (at : ℕ) (d : AreDistinct q.roster.entries) (is : IsQueue ops fraction is_value q queued) (waiting : Waits q.roster.entries key client) where
    split_of : Split key waiting.entry q.roster.entries
    split_of = split key q.roster.entries waiting.entry waiting.found d

    abbrev pub left : Rec T
    left = after_grant ops amount waiting.entry.rec

    pub own_record : record_at key q.roster.entries ≡ Some waiting.entry.rec
    own_record = ap (option_map (λ e. e.rec)) waiting.found

    own_kept : IsKept ops fraction is_value q.config.hz waiting.entry.rec
    own_kept = found_holds (λ e. IsKept ops fraction is_value q.config.hz e.rec) (λ e. e.key == key) q.roster.entries waiting.entry is.kept waiting.found

    -- the P of the first request
    pub first_value : is_value (fraction waiting.request.tags.p)
    first_value =
        let shares = λ (l : List (QueuedRequest T)). AllByRecursion (λ tag. is_value (fraction tag)) (map (λ r. r.tags.p) l ++ waiting.entry.rec.previous.p ∷ []) in
        (subst shares waiting.requests own_kept.values).0

    own_room : key < length q.heads
    own_room = subst (λ n. n < length q.heads) (key_is split_of) (found_holds (λ e. e.key < length q.heads) (λ e. e.key == key) q.roster.entries waiting.entry is.in_room waiting.found)

    size : length (queued_requests (clients_in q.roster.entries)) ≡ suc (length (queued_requests (clients_in (with_record key left q.roster.entries))))
    size =
        let change = count_changed split_of left in
        let one : length waiting.entry.rec.requests ≡ suc (length waiting.rest) = ap length waiting.requests in
        let other : length left.requests ≡ length waiting.rest = grant_length ops amount waiting.entry.rec ∙ ap (λ l. length (drop 1 l)) waiting.requests in
        omega (arith, change, one, other)

    pub one_at_least : 1 ≤ queued
    one_at_least = omega (arith, is.counted, size)

    granted_to : (progress : Progress T) → AreValues fraction is_value progress → q.last_moment ≤ at → IsRecord ops left → (heads : List (Option (Head T))) → heads ≡ slice_set q.heads key (option_map (head_at ops at client) (option_map (λ r. r.tags) (slice_get left.requests 0))) → IsQueue ops fraction is_value (record { config = q.config; roster = with_record_at q.roster key left; heads = heads; last_moment = at; progress = progress }) (queued - 1)
    granted_to progress values later whole heads e = subst (λ hs. IsQueue ops fraction is_value (record { config = q.config; roster = with_record_at q.roster key left; heads = hs; last_moment = at; progress = progress }) (queued - 1)) (sym e) (record {
      kept = all_changed split_of (λ e. IsKept ops fraction is_value q.config.hz e.rec) left is.kept (grant_kept q.config.hz amount waiting.entry.rec own_kept whole);
      distinct = distinct_changed key left q.roster.entries is.distinct;
      heads = replaced ops at split_of q.heads (marks_later ops due_from q.last_moment at q.roster.entries q.heads later is.heads) own_room left _ (head_renewed at waiting.entry.id client waiting.client_is (slice_get left.requests 0)) (λ h f r. head_due at client (option_map (λ r. r.tags) (slice_get left.requests 0)) h f r);
      in_room = subst (λ n. AllByRecursion (λ e. e.key < n) (with_record key left q.roster.entries)) (sym (set_length q.heads key (option_map (head_at ops at client) (option_map (λ r. r.tags) (slice_get left.requests 0))))) (all_changed split_of (λ e. e.key < length q.heads) left is.in_room (subst (λ n. n < length q.heads) (sym (key_is split_of)) own_room));
      counted = omega (arith, is.counted, size);
      bound = omega (arith, is.bound);
      progress = values;
    })

    -- what was lent became what a grant leaves
    pub left_as : (lent rec : Rec T) → record_at key q.roster.entries ≡ Some lent → rec ≡ after_grant ops amount lent → rec ≡ left
    left_as lent rec found is = let same : lent ≡ waiting.entry.rec = cc (found, own_record) in is ∙ ap (after_grant ops amount) same

    pub granted : (progress : Progress T) → AreValues fraction is_value progress → q.last_moment ≤ at → (rec : Rec T) → rec ≡ left → IsRecord ops rec → (tags : Option (Tags T)) → tags ≡ option_map (λ r. r.tags) (slice_get rec.requests 0) → (heads : List (Option (Head T))) → heads ≡ slice_set q.heads key (option_map (head_at ops at client) tags) → IsQueue ops fraction is_value (record { config = q.config; roster = with_record_at q.roster key rec; heads = heads; last_moment = at; progress = progress }) (queued - 1)
    granted progress values later rec same whole tags t heads h =
        let own : tags ≡ option_map (λ r. r.tags) (slice_get left.requests 0) = t ∙ ap (λ x. option_map (λ r. r.tags) (slice_get x.requests 0)) same in
        subst (λ x. IsQueue ops fraction is_value (record { config = q.config; roster = with_record_at q.roster key x; heads = heads; last_moment = at; progress = progress }) (queued - 1)) (sym same) (granted_to progress values later (subst (IsRecord ops) same whole) heads (h ∙ ap (λ o. slice_set q.heads key (option_map (head_at ops at client) o)) own))
