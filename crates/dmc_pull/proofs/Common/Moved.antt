-- A shift of all entries but one, and of all heads.
use Rattle.std.proofs.Common.{◌≡◌, ℕ, ◌<◌, Bool, true, false, ◌&&◌, ◌||◌, List, [], ◌∷◌, ◌++◌, map, length, Option, Some, None, Ok, refl, sym, ap, ◌∙◌, subst}
use Rattle.std.specs.Prelude.{◌==◌, IfSome, slice_get, if◌then◌else◌}
use Rattle.std.specs.Option.{option_map, option_and_then, unwrap_or}
use Rattle.std.specs.List.{AllByRecursion, list_all}
use Rattle.std.proofs.lemmas.List.{length-map}
use Rattle.dmc_types.specs.declared.ids.ClientId.{ClientId}
use Rattle.dmc_tag.specs.Tag.{Tagging}
use Rattle.dmc_tag.specs.Best.{is_due}
use Rattle.dmc_tag.specs.Spacing.{spacings_of}
use Rattle.dmc_tag.specs.Rules.{less, has_less, can_shift_by, shifted_by, less_share}
use Rattle.dmc_tag.specs.declared.plain.QueuedRequest.{QueuedRequest}
use Rattle.dmc_client.specs.Record.{Rec, IsRecord, less_shares, share_tags}
use Rattle.dmc_adjust.specs.Changes.{shifted, is_shiftable}
use Rattle.dmc_roster.specs.Entries.{Entry, entry_keyed, with_rec, AreDistinct}
use Rattle.dmc_index.specs.Index.{slot_of_key}
use Rattle.dmc_index.proofs.Slots.{slot_of_key-map}
use Rattle.dmc_head_index.specs.declared.head.Head.{Head}
use Rattle.dmc_head_index.specs.Heads as heads_of
use Rattle.dmc_head_index.specs.Heads.{CanShift}
use Rattle.dmc_pull.specs.Queue.{AreHeads, head_of, unready}
use Rattle.dmc_pull.specs.Represented.{clients_in}
use Rattle.dmc_pull.proofs.Common.Parts.{all_mapped, each_passes, found_holds}
use Rattle.dmc_pull.proofs.Common.Entries.{Split, split}
use Rattle.dmc_pull.proofs.Common.Keyed.{keyed_with, distinct_with}
use Rattle.dmc_pull.proofs.Add.Shifted.{shiftable, shifted_clients_in}
use Rattle.dmc_pull.proofs.Pull.Choices.{entry_at}

module _ {T : Type 0} (ops : Tagging T) where
  -- ---- each P of a record is a value

  module _ (value : T → Type 0) where
    -- what an add keeps of a record, beside what is true of each
    abbrev pub HasRest : ℕ → Rec T → Type 0
    HasRest hz rec = (spacings_of ops hz rec.info ≡ Ok rec.spacings) × AllByRecursion value (share_tags rec)

    module _ (differences : (a amount : T) → IfSome (ops.minus a amount) value) (amount : T) where
      less_value : (a : T) → value a → value (less ops amount a)
      less_value a v = at (ops.minus a amount) (differences a amount) where
        at : (o : Option T) → IfSome o value → value (unwrap_or o a)
        at None h = v
        at (Some x) h = h

      less_values : (qs : List (QueuedRequest T)) (last : T) → AllByRecursion value (map (λ r. r.tags.p) qs ++ last ∷ []) → AllByRecursion value (map (λ r. r.tags.p) (map (less_share ops amount) qs) ++ less ops amount last ∷ [])
      less_values [] last h = (less_value last h.0, tt)
      less_values (q ∷ qs) last h = (less_value q.tags.p h.0, less_values qs last h.1)

      rest_by : (hz : ℕ) (rec : Rec T) (idle : Bool) → HasRest hz rec → HasRest hz (if idle then rec else less_shares ops amount rec)
      rest_by hz rec true h = h
      rest_by hz rec false h = (h.0, less_values rec.requests rec.previous.p h.1)

    pub pushed_values : (qs : List (QueuedRequest T)) (last : T) (request : QueuedRequest T) → AllByRecursion value (map (λ r. r.tags.p) qs ++ last ∷ []) → value request.tags.p → AllByRecursion value (map (λ r. r.tags.p) (qs ++ request ∷ []) ++ request.tags.p ∷ [])
    pushed_values [] last request h v = (v, (v, tt))
    pushed_values (q ∷ qs) last request h v = (h.0, pushed_values qs last request h.1 v)

  -- ---- a shift of all entries and heads

  module _ (amount : T) where
    first_less : (id : ClientId) (l : List (QueuedRequest T)) → option_map (heads_of.shifted ops amount) (option_map (λ r. record { client = id; tags = r.tags; ready = false }) (slice_get l 0)) ≡ option_map (λ r. record { client = id; tags = r.tags; ready = false }) (slice_get (map (less_share ops amount) l) 0)
    first_less id [] = refl
    first_less id (r ∷ l) = refl

    head_shifted : (e : Entry T) → IsRecord ops e.rec → option_map (heads_of.shifted ops amount) (head_of e) ≡ head_of (with_rec (shifted ops amount) e)
    head_shifted e is = at e.rec.idle refl where
      at : (idle : Bool) → e.rec.idle ≡ idle → option_map (heads_of.shifted ops amount) (head_of e) ≡ head_of (record e { rec = if idle then e.rec else less_shares ops amount e.rec })
      at true i =
          ap (λ l. option_map (heads_of.shifted ops amount) (option_map (λ r. record { client = e.id; tags = r.tags; ready = false }) (slice_get l 0))) (is.idle i)
          ∙ sym (ap (λ l. option_map (λ r. record { client = e.id; tags = r.tags; ready = false }) (slice_get l 0)) (is.idle i))
      at false i = first_less e.id e.rec.requests

    unready_shifted : (o : Option (Head T)) → option_map unready (option_map (heads_of.shifted ops amount) o) ≡ option_map (heads_of.shifted ops amount) (option_map unready o)
    unready_shifted None = refl
    unready_shifted (Some head) = refl

    -- a shifted head's L and its mark are the head's
    record IsSameMark (heads : List (Option (Head T))) (key : ℕ) (head : Head T) : Type 0 where
      old : Head T
      here : slot_of_key heads key ≡ Some old
      ready : head.ready ≡ old.ready
      limit : head.tags.l ≡ old.tags.l

    same_mark : (heads : List (Option (Head T))) (key : ℕ) (head : Head T) (o : Option (Head T)) → slot_of_key heads key ≡ o → option_map (heads_of.shifted ops amount) o ≡ Some head → IsSameMark heads key head
    same_mark heads key head None h e = cc
    same_mark heads key head (Some old) h e =
        let one : heads_of.shifted ops amount old ≡ head = cc (e) in
        record { old = old; here = h; ready = sym (ap (λ h. h.ready) one); limit = sym (ap (λ h. h.tags.l) one) }

    module _ (t : ℕ) (es : List (Entry T)) (heads : List (Option (Head T))) (are : AreHeads ops t es heads) (records : AllByRecursion (λ e. IsRecord ops e.rec) es) where
      entries_at : (key : ℕ) (o : Option (Entry T)) → entry_keyed key es ≡ o → option_map (heads_of.shifted ops amount) (option_and_then head_of o) ≡ option_and_then head_of (option_map (with_rec (shifted ops amount)) o)
      entries_at key None f = refl
      entries_at key (Some e) f = head_shifted e (found_holds (λ e. IsRecord ops e.rec) (λ e. e.key == key) es e records f)

      pub heads_shifted : AreHeads ops t (map (λ e. with_rec (shifted ops amount) e) es) (map (option_map (heads_of.shifted ops amount)) heads)
      heads_shifted = record {
        here = λ key.
            ap (option_map unready) (slot_of_key-map (heads_of.shifted ops amount) heads key)
            ∙ unready_shifted (slot_of_key heads key)
            ∙ ap (option_map (heads_of.shifted ops amount)) (are.here key)
            ∙ entries_at key (entry_keyed key es) refl
            ∙ ap (option_and_then head_of) (sym (keyed_with (λ e. shifted ops amount) key es));
        marks = λ key head h r.
            let x = same_mark heads key head (slot_of_key heads key) refl (sym (slot_of_key-map (heads_of.shifted ops amount) heads key) ∙ h) in
            subst (λ l. is_due ops t (Some l) ≡ true) (sym x.limit) (are.marks key x.old x.here (sym x.ready ∙ r));
      }

      -- each head can be shifted if each record can
      pub can_shift : AllByRecursion (λ e. is_shiftable ops amount e.rec ≡ true) es → CanShift ops amount heads
      can_shift can = λ key head h.
          let x = entry_at ops t es heads are key head h in
          let is = found_holds (λ e. IsRecord ops e.rec) (λ e. e.key == key) es x.entry records x.found in
          let tested = found_holds (λ e. is_shiftable ops amount e.rec ≡ true) (λ e. e.key == key) es x.entry can x.found in
          subst (λ tags. has_less ops amount tags.p ≡ true) (sym x.of.tags) (first_has x.entry.rec x.request x.rest is x.requests x.entry.rec.idle refl tested)
        where
          both : (a b c : Bool) → ((a && b) && c) ≡ true → a ≡ true
          both true b c e = refl
          both false b c e = cc

          none : {X : Type 0} {x : X} {xs : List X} → [] ≡ x ∷ xs → ⊥
          none e = cc

          first_has : (rec : Rec T) (r : QueuedRequest T) (rest : List (QueuedRequest T)) → IsRecord ops rec → rec.requests ≡ r ∷ rest → (idle : Bool) → rec.idle ≡ idle → (idle || (list_all (λ r. has_less ops amount r.tags.p) rec.requests && has_less ops amount rec.previous.p)) ≡ true → has_less ops amount r.tags.p ≡ true
          first_has rec r rest is q true i h = absurd (none (sym (is.idle i) ∙ q))
          first_has rec r rest is q false i h =
              both (has_less ops amount r.tags.p) (list_all (λ r. has_less ops amount r.tags.p) rest) (has_less ops amount rec.previous.p)
              (subst (λ l. (list_all (λ r. has_less ops amount r.tags.p) l && has_less ops amount rec.previous.p) ≡ true) q h)

    pub all_shiftable : (es : List (Entry T)) → can_shift_by ops (Some amount) (clients_in es) ≡ true → AllByRecursion (λ e. is_shiftable ops amount e.rec ≡ true) es
    all_shiftable es can = each_passes (λ e. is_shiftable ops amount e.rec) es (sym (shiftable ops amount es) ∙ can)

    -- an idle client isn't shifted
    pub shifted_entry : (key : ℕ) (es : List (Entry T)) (e : Entry T) → entry_keyed key es ≡ Some e → e.rec.idle ≡ true → entry_keyed key (map (λ e. with_rec (shifted ops amount) e) es) ≡ Some e
    shifted_entry key es e f idle =
        keyed_with (λ e. shifted ops amount) key es
        ∙ ap (option_map (λ e. with_rec (shifted ops amount) e)) f
        ∙ ap (λ b. Some (record e { rec = if b then e.rec else less_shares ops amount e.rec })) idle

-- ---- after a shift, and before the arrival

-- the entries and heads of a queue whose others are shifted, if there is a shift
pub record Moved {T : Type 0} (ops : Tagging T) (value : T → Type 0) (hz t : ℕ) (shift : Option T) (key : ℕ) (e : Entry T) (es : List (Entry T)) (entries : List (Entry T)) (heads : List (Option (Head T))) : Type 0 where
  pub here : Split key e entries
  pub distinct : AreDistinct entries
  pub heads_are : AreHeads ops t entries heads
  pub in_room : AllByRecursion (λ f. f.key < length heads) entries
  pub rest : AllByRecursion (λ f. HasRest ops value hz f.rec) entries
  pub clients : clients_in entries ≡ shifted_by ops shift (clients_in es)

module _ {T : Type 0} (ops : Tagging T) (value : T → Type 0) (hz t : ℕ) (key : ℕ) (e : Entry T) (es : List (Entry T)) (heads : List (Option (Head T)))
    (found : entry_keyed key es ≡ Some e) (d : AreDistinct es) (are : AreHeads ops t es heads) (room : AllByRecursion (λ f. f.key < length heads) es) (rest : AllByRecursion (λ f. HasRest ops value hz f.rec) es) where
  pub unmoved : Moved ops value hz t None key e es es heads
  unmoved = record { here = split key es e found d; distinct = d; heads_are = are; in_room = room; rest = rest; clients = refl }

  pub moved : (differences : (a amount : T) → IfSome (ops.minus a amount) value) (amount : T) → e.rec.idle ≡ true → AllByRecursion (λ e. IsRecord ops e.rec) es → Moved ops value hz t (Some amount) key e es (map (λ e. with_rec (shifted ops amount) e) es) (map (option_map (heads_of.shifted ops amount)) heads)
  moved differences amount idle records =
      let d2 = distinct_with (λ e. shifted ops amount) es d in
      record {
        here = split key (map (λ e. with_rec (shifted ops amount) e) es) e (shifted_entry ops amount key es e found idle) d2;
        distinct = d2;
        heads_are = heads_shifted ops amount t es heads are records;
        in_room = all_mapped _ (λ f. f.key < length (map (option_map (heads_of.shifted ops amount)) heads)) (λ e. with_rec (shifted ops amount) e) (λ e h. h) es (subst (λ n. AllByRecursion (λ f. f.key < n) es) (sym (length-map heads (option_map (heads_of.shifted ops amount)))) room);
        rest = all_mapped _ (λ f. HasRest ops value hz f.rec) (λ e. with_rec (shifted ops amount) e) (λ f h. rest_by ops value differences amount hz f.rec f.rec.idle h) es rest;
        clients = shifted_clients_in ops amount es;
      }
