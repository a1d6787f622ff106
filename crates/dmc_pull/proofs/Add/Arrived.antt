-- What an arrival makes of the entries and the heads.
use Rattle.std.proofs.Common.{◌≡◌, ℕ, suc, ◌+◌, ◌≤◌, ◌<◌, Bool, true, false, List, [], ◌∷◌, ◌++◌, map, length, Option, Some, None, Result, refl, sym, ap, ◌∙◌, subst, arith}
use Rattle.std.specs.Prelude.{◌==◌, IfSome, IsSome, OnOk, slice_get, slice_set, nat_le}
use Rattle.std.specs.Result.{is_err}
use Rattle.std.specs.Option.{option_map, option_and_then}
use Rattle.std.specs.List.{AllByRecursion}
use Rattle.std.proofs.lemmas.Bool.{eqb-true, eqb-false, ne_eqb}
use Rattle.std.proofs.lemmas.List.{length-set, get_or-set_same, get_or-set_other}
use Rattle.dmc_types.specs.Limits.{max_requests}
use Rattle.dmc_types.specs.Values.{Setting}
use Rattle.dmc_types.specs.declared.ids.ClientId.{ClientId}
use Rattle.dmc_tag.specs.Tag.{Fraction, Tagging}
use Rattle.dmc_tag.specs.Best.{is_due}
use Rattle.dmc_tag.specs.State.{State, is_client, queued_requests, is_nothing_queued}
use Rattle.dmc_tag.specs.Rules.{moment_of, can_shift_by, change_client, after_arrival, progress_added, queued}
use Rattle.dmc_tag.specs.declared.plain.Progress.{Progress}
use Rattle.dmc_tag.specs.declared.plain.QueuedRequest.{QueuedRequest}
use Rattle.dmc_client.specs.Record.{Rec, IsRecord, pushed}
use Rattle.dmc_adjust.specs.Changes.{shifted}
use Rattle.dmc_roster.specs.Entries.{Entry, Listing, entry_keyed, record_at, with_rec, with_record, AreDistinct}
use Rattle.dmc_index.specs.Index.{slot_of_key}
use Rattle.dmc_head_index.specs.declared.head.Head.{Head}
use Rattle.dmc_head_index.specs.Heads.{CanShift, IsOthers}
use Rattle.dmc_pull.specs.Queue.{Queue, IsQueue, IsKept, AreHeads, AreValues, head_of, unready}
use Rattle.dmc_pull.specs.internal.Queue.{head_at}
use Rattle.dmc_pull.specs.Represented.{clients_in}
use Rattle.dmc_pull.proofs.Common.Kept.{due_later}
use Rattle.dmc_pull.proofs.Common.Lent.{changed_as}
use Rattle.dmc_pull.proofs.Common.Parts.{all_as, all_both, all_append, found_holds, found_passes}
use Rattle.dmc_pull.proofs.Common.Entries.{Differs, split, name_is, all_changed}
use Rattle.dmc_pull.proofs.Common.Keyed.{same_client, split_keyed, distinct_changed, read_changed, read_other, read_kept}
use Rattle.dmc_pull.proofs.Add.Shifted.{pushed_clients, count_pushed, count_shifted, arrived_others}
use Rattle.dmc_pull.proofs.Pull.Choices.{entry_at}
use Rattle.dmc_pull.proofs.Add.Adds.{held_entry, if_holds}
use Rattle.dmc_pull.proofs.Common.Moved.{HasRest, pushed_values, Moved, unmoved, moved, can_shift, all_shiftable}
use Rattle.dmc_pull.specs.internal.Adding.{IsAddition, others_shifted, heads_shifted}
use Rattle.dmc_pull.specs.declared.adding.Addition.{Addition}

empty_list : {X : Type 0} (xs : List X) → (length xs == 0) ≡ true → xs ≡ []
empty_list [] h = refl
empty_list (x ∷ xs) h = let none : suc (length xs) ≡ 0 = eqb-true (suc (length xs)) 0 h in absurd (omega arith)

-- the entries that have come, and the heads as they were, or as they were shifted
pub record After {T : Type 0} (ops : Tagging T) (value : T → Type 0) (hz t : ℕ) (shift : Option T) (key : ℕ) (e : Entry T) (es : List (Entry T)) (request : QueuedRequest T) (at : ℕ) (now : List (Entry T)) (heads : List (Option (Head T))) : Type 0 where
  pub entries : List (Entry T)
  pub moved : Moved ops value hz t shift key e es entries heads
  pub whole : now ≡ with_record key (pushed request at e.rec) entries
  pub records : AllByRecursion (λ f. IsRecord ops f.rec) now

module _ {T : Type 0} {ops : Tagging T} {value : T → Type 0} {hz t : ℕ} {shift : Option T} {key : ℕ} {e : Entry T} {es : List (Entry T)} {request : QueuedRequest T} {at : ℕ} {now : List (Entry T)} {heads : List (Option (Head T))} (after : After ops value hz t shift key e es request at now heads) where
  abbrev came : List (Entry T)
  came = with_record key (pushed request at e.rec) after.entries

  keyed : entry_keyed key after.entries ≡ Some e
  keyed = split_keyed after.moved.here

  below : e.key < length heads
  below = found_holds (λ f. f.key < length heads) (λ f. f.key == key) after.entries e after.moved.in_room keyed

  pub within : key < length heads
  within = subst (λ n. n < length heads) (eqb-true e.key key after.moved.here.keyed) below

  here_first : option_map unready (slot_of_key heads key) ≡ head_of e
  here_first = after.moved.heads_are.here key ∙ ap (option_and_then head_of) keyed

  pub vacant : (length e.rec.requests == 0) ≡ true → slot_of_key heads key ≡ None
  vacant none = at_none (slot_of_key heads key) (here_first ∙ ap (λ l. option_map (λ r. record { client = e.id; tags = r.tags; ready = false }) (slice_get l 0)) (empty_list e.rec.requests none)) where
    at_none : (o : Option (Head T)) → option_map unready o ≡ None → o ≡ None
    at_none None h = refl
    at_none (Some head) h = cc

  pub apart : IsOthers heads key e.id
  apart = λ k other ne h.
      let x = entry_at ops t after.entries heads after.moved.heads_are k other h in
      let s = after.moved.here in
      let all = subst (AllByRecursion (λ f. (f.key == e.key) ≡ false → is_client e.id f.id ≡ false)) (sym s.whole) (all_append (λ f. (f.key == e.key) ≡ false → is_client e.id f.id ≡ false) s.front (e ∷ s.back) (all_as (Differs e) (λ f. (f.key == e.key) ≡ false → is_client e.id f.id ≡ false) (λ f d o. d.1) s.front s.ahead) ((λ o. absurd (same_key o)), all_as (Differs e) (λ f. (f.key == e.key) ≡ false → is_client e.id f.id ≡ false) (λ f d o. d.1) s.back s.behind)) in
      let one : x.entry.key ≡ k = eqb-true x.entry.key k (found_passes (λ f. f.key == k) after.entries x.entry x.found) in
      let two : e.key ≡ key = eqb-true e.key key s.keyed in
      subst (λ id. is_client e.id id ≡ false) (sym x.of.client) (found_holds (λ f. (f.key == e.key) ≡ false → is_client e.id f.id ≡ false) (λ f. f.key == k) after.entries x.entry all x.found (ne_eqb x.entry.key e.key (λ same. ne (sym one ∙ same ∙ two))))
    where
      same_key : (e.key == e.key) ≡ false → ⊥
      same_key o = eqb-false e.key e.key o refl

  -- ---- the heads

  module _ (later : t ≤ at) (due_from : (tag : T) (n : ℕ) → is_due ops n (Some tag) ≡ nat_le (moment_of (ops.ceil tag)) n) where
    same_first : (l : List (QueuedRequest T)) → (length l == 0) ≡ false → slice_get (l ++ request ∷ []) 0 ≡ slice_get l 0
    same_first [] h = absurd (eqb-false 0 0 h refl)
    same_first (r ∷ l) h = refl

    -- the client had a head, which stays
    pub heads_more : (length e.rec.requests == 0) ≡ false → AreHeads ops at came heads
    heads_more some = record {
      here = λ k. after.moved.heads_are.here k ∙ sym (read_kept head_of after.moved.here (pushed request at e.rec) (ap (option_map (λ r. record { client = e.id; tags = r.tags; ready = false })) (same_first e.rec.requests some)) k);
      marks = λ k head h r. due_later ops due_from head.tags.l t at later (after.moved.heads_are.marks k head h r);
    }

    abbrev head : Head T
    head = head_at ops at e.id request.tags

    -- it had none, and gets one
    pub heads_first : (length e.rec.requests == 0) ≡ true → AreHeads ops at came (slice_set heads key (Some head))
    heads_first none = record { here = λ k. here_at k (k == key) refl; marks = λ k h p r. mark_at k h (k == key) refl p r } where
      here_at : (k : ℕ) (b : Bool) → (k == key) ≡ b → option_map unready (slot_of_key (slice_set heads key (Some head)) k) ≡ option_and_then head_of (entry_keyed k came)
      here_at k true same =
          subst (λ k. option_map unready (slot_of_key (slice_set heads key (Some head)) k) ≡ option_and_then head_of (entry_keyed k came)) (sym (eqb-true k key same))
          (ap (option_map unready) (get_or-set_same heads key (Some head) None within)
          ∙ sym (read_changed head_of after.moved.here (pushed request at e.rec) ∙ ap (λ l. option_map (λ r. record { client = e.id; tags = r.tags; ready = false }) (slice_get (l ++ request ∷ []) 0)) (empty_list e.rec.requests none)))
      here_at k false other =
          ap (option_map unready) (get_or-set_other heads key k (Some head) None (eqb-false k key other))
          ∙ after.moved.heads_are.here k
          ∙ sym (read_other head_of key (pushed request at e.rec) k after.entries other)

      mark_at : (k : ℕ) (h : Head T) (b : Bool) → (k == key) ≡ b → slot_of_key (slice_set heads key (Some head)) k ≡ Some h → h.ready ≡ true → is_due ops at (Some h.tags.l) ≡ true
      mark_at k h true same p r =
          let one : Some h ≡ Some head = sym p ∙ ap (slot_of_key (slice_set heads key (Some head))) (eqb-true k key same) ∙ get_or-set_same heads key (Some head) None within in
          let own : head ≡ h = cc (one) in
          subst (λ x. x.ready ≡ true → is_due ops at (Some x.tags.l) ≡ true) own (λ due. due) r
      mark_at k h false other p r = due_later ops due_from h.tags.l t at later (after.moved.heads_are.marks k h (sym (get_or-set_other heads key k (Some head) None (eqb-false k key other)) ∙ p) r)

-- ---- the queue that it is

module _ {T : Type 0} {ops : Tagging T} (fraction : T → Fraction) (is_value : Fraction → Type 0) (config : Setting) (roster : Listing T) {t : ℕ} {shift : Option T} {key : ℕ} {e : Entry T} {es : List (Entry T)} {request : QueuedRequest T} {at : ℕ} {heads : List (Option (Head T))}
    (after : After ops (λ tag. is_value (fraction tag)) config.hz t shift key e es request at roster.entries heads) where
  abbrev value : T → Type 0
  value tag = is_value (fraction tag)

  all_kept : value request.tags.p → AllByRecursion (λ f. IsKept ops fraction is_value config.hz f.rec) roster.entries
  all_kept v =
      let of_e = found_holds (λ f. HasRest ops value config.hz f.rec) (λ f. f.key == key) after.entries e after.moved.rest (split_keyed after.moved.here) in
      let rest = all_changed after.moved.here (λ f. HasRest ops value config.hz f.rec) (pushed request at e.rec) after.moved.rest (of_e.0, pushed_values ops value e.rec.requests e.rec.previous.p request of_e.1 v) in
      all_as (λ f. IsRecord ops f.rec × HasRest ops value config.hz f.rec) (λ f. IsKept ops fraction is_value config.hz f.rec) (λ f h. record { is_record = h.0; spacings = h.1.0; values = h.1.1 }) roster.entries
      (all_both (λ f. IsRecord ops f.rec) (λ f. HasRest ops value config.hz f.rec) roster.entries after.records (subst (AllByRecursion (λ f. HasRest ops value config.hz f.rec)) (sym after.whole) rest))

  counted : length (queued_requests (clients_in roster.entries)) ≡ suc (length (queued_requests (clients_in es)))
  counted =
      ap (λ xs. length (queued_requests (clients_in xs))) after.whole
      ∙ count_pushed after.moved.here request at
      ∙ ap (λ cs. suc (length (queued_requests cs))) after.moved.clients
      ∙ ap suc (count_shifted ops shift (clients_in es))

  module _ (n : ℕ) (count : n ≡ length (queued_requests (clients_in es))) (room : length (queued_requests (clients_in es)) < max_requests) (v : value request.tags.p) (progress : Progress T) (values : AreValues fraction is_value progress) where
    pub is_queue : (new : List (Option (Head T))) → AreHeads ops at (with_record key (pushed request at e.rec) after.entries) new → length new ≡ length heads → IsQueue ops fraction is_value (record { config = config; roster = roster; heads = new; last_moment = at; progress = progress }) (n + 1)
    is_queue new are same =
        let came = all_changed after.moved.here (λ f. f.key < length heads) (pushed request at e.rec) after.moved.in_room (found_holds (λ f. f.key < length heads) (λ f. f.key == key) after.entries e after.moved.in_room (split_keyed after.moved.here)) in
        record {
          kept = all_kept v;
          distinct = subst AreDistinct (sym after.whole) (distinct_changed key (pushed request at e.rec) after.entries after.moved.distinct);
          heads = subst (λ xs. AreHeads ops at xs new) (sym after.whole) are;
          in_room = subst (λ xs. AllByRecursion (λ f. f.key < length new) xs) (sym after.whole) (subst (λ m. AllByRecursion (λ f. f.key < m) (with_record key (pushed request at e.rec) after.entries)) (sym same) came);
          counted = omega (arith, count, counted);
          bound = omega (arith, count, room);
          progress = values;
        }

    module _ (later : t ≤ at) (due_from : (tag : T) (n : ℕ) → is_due ops n (Some tag) ≡ nat_le (moment_of (ops.ceil tag)) n) where
      pub with_more : (length e.rec.requests == 0) ≡ false → IsQueue ops fraction is_value (record { config = config; roster = roster; heads = heads; last_moment = at; progress = progress }) (n + 1)
      with_more some = is_queue heads (heads_more after later due_from some) refl

      pub with_first : (length e.rec.requests == 0) ≡ true → IsQueue ops fraction is_value (record { config = config; roster = roster; heads = slice_set heads key (Some (head_at ops at e.id request.tags)); last_moment = at; progress = progress }) (n + 1)
      with_first none = is_queue _ (heads_first after later due_from none) (length-set heads key (Some (head_at ops at e.id request.tags)))

  -- the plain state
  pub came_state : (last : ℕ) (before progress : Progress T) → progress ≡ progress_added ops config.shares (is_nothing_queued (clients_in es)) request.tags.p before → let new : State T = record { config = config; clients = clients_in roster.entries; last_moment = at; progress = progress } in new ≡ queued ops (record { config = config; clients = clients_in es; last_moment = last; progress = before }) shift e.id request at
  came_state last before progress counts =
      ap (λ p. record { config = config; clients = clients_in roster.entries; last_moment = at; progress = p }) counts
      ∙ ap (λ cs. record { config = config; clients = cs; last_moment = at; progress = progress_added ops config.shares (is_nothing_queued (clients_in es)) request.tags.p before }) (ap clients_in after.whole ∙ pushed_clients after.moved.here request at ∙ ap (change_client e.id (after_arrival request at)) after.moved.clients)

-- ---- from what calls answer

-- a client's entry in a queue
pub record IsOf {T : Type 0} (ops : Tagging T) (fraction : T → Fraction) (is_value : Fraction → Type 0) (q : Queue T) (n key : ℕ) (client : ClientId) : Type 0 where
  pub entry : Entry T
  pub found : entry_keyed key q.roster.entries ≡ Some entry
  pub id : entry.id ≡ client
  pub distinct : AreDistinct q.roster.entries
  pub is : IsQueue ops fraction is_value q n

pub of_addition : {T : Type 0} {ops : Tagging T} {fraction : T → Fraction} {is_value : Fraction → Type 0} {q : Queue T} {n : ℕ} {client : ClientId} {addition : Addition T} → IsQueue ops fraction is_value q n → IsAddition ops fraction is_value q client addition → IsOf ops fraction is_value q n addition.key client
of_addition {q = q} {client = client} {addition = addition} is adds =
    let x = held_entry (entry_keyed addition.key q.roster.entries) adds.held in
    record { entry = x.0; found = x.1; id = same_client client x.0.id (name_is client q.roster.entries x.0 (sym adds.key ∙ x.1)); distinct = is.distinct; is = is }

module _ {T : Type 0} {ops : Tagging T} {fraction : T → Fraction} {is_value : Fraction → Type 0} {q : Queue T} {n key : ℕ} {client : ClientId} (of : IsOf ops fraction is_value q n key client) where
  abbrev known : List (Entry T)
  known = q.roster.entries

  rest_of : AllByRecursion (λ f. HasRest ops (λ tag. is_value (fraction tag)) q.config.hz f.rec) known
  rest_of = all_as (λ f. IsKept ops fraction is_value q.config.hz f.rec) (λ f. HasRest ops (λ tag. is_value (fraction tag)) q.config.hz f.rec) (λ f k. (k.spacings, k.values)) known of.is.kept

  records_of : AllByRecursion (λ f. IsRecord ops f.rec) known
  records_of = all_as (λ f. IsKept ops fraction is_value q.config.hz f.rec) (λ f. IsRecord ops f.rec) (λ f k. k.is_record) known of.is.kept

  -- each head can be shifted
  pub heads_can_shift : (shift : Option T) → can_shift_by ops shift (clients_in known) ≡ true → IfSome shift (λ amount. CanShift ops amount q.heads)
  heads_can_shift None can = tt
  heads_can_shift (Some amount) can = can_shift ops amount q.last_moment known q.heads of.is.heads records_of (all_shiftable ops amount known can)

  module _ (differences : (a amount : T) → IfSome (ops.minus a amount) (λ tag. is_value (fraction tag))) (request : QueuedRequest T) (at : ℕ) where
    after_shift : (shift : Option T) → (IsSome shift → of.entry.rec.idle ≡ true) → can_shift_by ops shift (clients_in known) ≡ true → (now : List (Entry T)) → now ≡ others_shifted ops shift key (with_record key (pushed request at of.entry.rec) known) → AllByRecursion (λ f. IsRecord ops f.rec) now → After ops (λ tag. is_value (fraction tag)) q.config.hz q.last_moment shift key of.entry known request at now (heads_shifted ops shift q.heads)
    after_shift None idle can now same records = record {
      entries = known;
      moved = unmoved ops (λ tag. is_value (fraction tag)) q.config.hz q.last_moment key of.entry known q.heads of.found of.distinct of.is.heads of.is.in_room rest_of;
      whole = same;
      records = records;
    }
    after_shift (Some amount) idle can now same records = record {
      entries = map (λ e. with_rec (shifted ops amount) e) known;
      moved = moved ops (λ tag. is_value (fraction tag)) q.config.hz q.last_moment key of.entry known q.heads of.found of.distinct of.is.heads of.is.in_room rest_of differences amount (idle refl) records_of;
      whole = same ∙ arrived_others ops amount key (pushed request at of.entry.rec) known (all_shiftable ops amount known can);
      records = records;
    }

    -- after a push that did not fail, and the shift of the others
    pub after_calls : {A E : Type 0} (result : Result A E) → is_err result ≡ false → (lent new : Rec T) → record_at key known ≡ Some lent → OnOk result (new ≡ pushed request at lent) → IsRecord ops new
        → (shift : Option T) → (IsSome shift → IfSome (record_at key known) (λ rec. rec.idle ≡ true)) → can_shift_by ops shift (clients_in known) ≡ true
        → (now : List (Entry T)) → now ≡ others_shifted ops shift key (with_record key new known) → (AllByRecursion (λ f. IsRecord ops f.rec) (with_record key new known) → AllByRecursion (λ f. IsRecord ops f.rec) now)
        → (heads : List (Option (Head T))) → heads ≡ heads_shifted ops shift q.heads
        → After ops (λ tag. is_value (fraction tag)) q.config.hz q.last_moment shift key of.entry known request at now heads
    after_calls result ok lent new found came kept shift idle can now same keeps heads moves =
        let is = changed_as result (pushed request at) key known of.entry lent new ok of.found found came in
        let entries = ap (λ rec. with_record key rec known) is in
        let records = all_changed (split key known of.entry of.found of.distinct) (λ f. IsRecord ops f.rec) (pushed request at of.entry.rec) records_of (subst (IsRecord ops) is kept) in
        let is_idle = λ (some : IsSome shift). if_holds (λ rec. rec.idle ≡ true) (record_at key known) of.entry.rec (ap (option_map (λ e. e.rec)) of.found) (idle some) in
        subst (After ops (λ tag. is_value (fraction tag)) q.config.hz q.last_moment shift key of.entry known request at now) (sym moves)
        (after_shift shift is_idle can now (same ∙ ap (others_shifted ops shift key) entries) (keeps (subst (AllByRecursion (λ f. IsRecord ops f.rec)) (sym entries) records)))
