-- What the entries are, of ids with their keys and a record or nothing at each key.
use Rattle.std.proofs.Common.{◌≡◌, ℕ, zero, suc, ◌+◌, Bool, true, false, cond, List, [], ◌∷◌, ◌++◌, map, length, Option, Some, None, refl, sym, ap, ◌∙◌, subst, arith}
use Rattle.std.specs.Prelude.{filter, filter_map, is_some, slice_index_or, slice_set, ◌==◌}
use Rattle.std.specs.Option.{option_map, option_map_or}
use Rattle.std.specs.List.{find, cons_option, AllByRecursion}
use Rattle.std.specs.Map.{lookup}
use Rattle.std.proofs.lemmas.List.Elements.{filter_map-append}
use Rattle.std.specs.Prelude.{Result, Ok, Err, OnOk, is_ok, IfSome}
use Rattle.indexmap.specs.IndexMap.{insert_entry}
use Rattle.std.specs.Borrow.{MutBor}
use Rattle.slab.specs.Slab.{CalledAt, RetainsFrom}
use mathlib.Core.Path.{fun_ext}
use Rattle.std.proofs.lemmas.Bool.{eqb-true, eqb-false, eq-eqb, ne_eqb}
use Rattle.dmc_types.specs.declared.ids.ClientId.{ClientId}
use Rattle.dmc_tag.specs.State.{is_client}
use Rattle.dmc_client.specs.Record.{Rec}
use Rattle.dmc_roster.specs.Entries.{Entry, entry_named, entry_keyed, record_at, with_rec, with_record, entry_of, entries_of, AreApart, AreHeld, AreDistinct}
use Rattle.dmc_roster.specs.internal.Entries.{after_retain, slots_after_retain}
use Rattle.dmc_lemmas.proofs.Options.{map_cond}
pub use Rattle.dmc_lemmas.proofs.Options.{is_some_mapped}
use Rattle.dmc_lemmas.proofs.Lists.{all_filtered, found_holds, found_later}
pub use Rattle.dmc_lemmas.proofs.Lists.{length_filtered}
pub use Rattle.dmc_lemmas.proofs.Booleans.{eqb_turned}

-- ---- options

length_cons : {X : Type 0} (o : Option X) (xs : List X) → is_some o ≡ true → length (cons_option o xs) ≡ suc (length xs)
length_cons None xs e = cc
length_cons (Some x) xs e = refl

module _ {T : Type 0} where
  -- whether there is a record at each key
  abbrev pub Held : List (Option (Rec T)) → List (ClientId × ℕ) → Type 0
  Held slots ids = AllByRecursion (λ p. is_some (slice_index_or slots p.1 None) ≡ true) ids

  pub length_entries : (slots : List (Option (Rec T))) (ids : List (ClientId × ℕ)) → Held slots ids → length (entries_of ids slots) ≡ length ids
  length_entries slots [] h = refl
  length_entries slots (p ∷ ids) h = length_cons (entry_of slots p) (entries_of ids slots) (is_some_mapped _ (slice_index_or slots p.1 None) ∙ h.0) ∙ ap suc (length_entries slots ids h.1)

  -- ---- find

  found_at : (slots : List (Option (Rec T))) (id : ClientId) (p : ClientId × ℕ) (rest : List (Entry T)) (o : Option (Rec T)) → is_some o ≡ true → option_map (λ e. e.key) (find (λ e. is_client id e.id) (cons_option (option_map (λ rec. record { id = p.0; key = p.1; rec = rec }) o) rest)) ≡ cond (is_client id p.0) (Some p.1) (option_map (λ e. e.key) (find (λ e. is_client id e.id) rest))
  found_at slots id p rest None e = cc
  found_at slots id p rest (Some rec) e = map_cond (λ e. e.key) (is_client id p.0) (record { id = p.0; key = p.1; rec = rec }) (find (λ e. is_client id e.id) rest)

  pub named : (slots : List (Option (Rec T))) (id : ClientId) (test : ClientId → Bool) → ((other : ClientId) → test other ≡ is_client id other) → (ids : List (ClientId × ℕ)) → Held slots ids → option_map (λ e. e.key) (entry_named id (entries_of ids slots)) ≡ lookup test ids
  named slots id test same [] h = refl
  named slots id test same (p ∷ ids) h =
      found_at slots id p (entries_of ids slots) (slice_index_or slots p.1 None) h.0
      ∙ ap (cond (is_client id p.0) (Some p.1)) (named slots id test same ids h.1)
      ∙ ap (λ b. cond b (Some p.1) (lookup test ids)) (sym (same p.0))

  -- an id that no entry has is none of the ids
  pub absent : (slots : List (Option (Rec T))) (id : ClientId) (test : ClientId → Bool) → ((other : ClientId) → test other ≡ is_client id other) → (ids : List (ClientId × ℕ)) → Held slots ids → entry_named id (entries_of ids slots) ≡ None → lookup test ids ≡ None
  absent slots id test same ids h none = sym (named slots id test same ids h) ∙ ap (option_map (λ e. e.key)) none

  -- ---- at

  keyed_at : (slots : List (Option (Rec T))) (key : ℕ) (p : ClientId × ℕ) (rest : List (Entry T)) (o : Option (Rec T)) (b : Bool) → slice_index_or slots p.1 None ≡ o → (p.1 == key) ≡ b → (is_some (entry_keyed key rest) ≡ true → record_at key rest ≡ slice_index_or slots key None) → is_some (find (λ e. e.key == key) (cons_option (option_map (λ rec. record { id = p.0; key = p.1; rec = rec }) o) rest)) ≡ true → option_map (λ e. e.rec) (find (λ e. e.key == key) (cons_option (option_map (λ rec. record { id = p.0; key = p.1; rec = rec }) o) rest)) ≡ slice_index_or slots key None
  keyed_at slots key p rest None b s e more h = more h
  keyed_at slots key p rest (Some rec) true s e more h =
      let here : option_map (λ e. e.rec) (cond (p.1 == key) (Some (record { id = p.0; key = p.1; rec = rec })) (find (λ e. e.key == key) rest)) ≡ Some rec = ap (λ b. option_map (λ e. e.rec) (cond b (Some (record { id = p.0; key = p.1; rec = rec })) (find (λ e. e.key == key) rest))) e in
      here ∙ sym s ∙ ap (λ k. slice_index_or slots k None) (eqb-true p.1 key e)
  keyed_at slots key p rest (Some rec) false s e more h =
      let past : find (λ e. e.key == key) (cons_option (Some (record { id = p.0; key = p.1; rec = rec })) rest) ≡ find (λ e. e.key == key) rest = ap (λ b. cond b (Some (record { id = p.0; key = p.1; rec = rec })) (find (λ e. e.key == key) rest)) e in
      ap (option_map (λ e. e.rec)) past ∙ more (sym (ap is_some past) ∙ h)

  pub record_at_key : (slots : List (Option (Rec T))) (key : ℕ) (ids : List (ClientId × ℕ)) → is_some (entry_keyed key (entries_of ids slots)) ≡ true → record_at key (entries_of ids slots) ≡ slice_index_or slots key None
  record_at_key slots key [] h = cc
  record_at_key slots key (p ∷ ids) h = keyed_at slots key p (entries_of ids slots) (slice_index_or slots p.1 None) (p.1 == key) refl refl (record_at_key slots key ids) h

-- ---- lists that are filtered

pub apart_filtered : (test : ClientId × ℕ → Bool) (ids : List (ClientId × ℕ)) → AreApart ids → AreApart (filter test ids)
apart_filtered test [] h = tt
apart_filtered test (p ∷ ids) h = at (apart_filtered test ids h.1) (test p) where
  at : AreApart (filter test ids) → (b : Bool) → AreApart (cond b (p ∷ filter test ids) (filter test ids))
  at more true = (all_filtered _ test ids h.0, more)
  at more false = more

all_passed : {X : Type 0} (test : X → Bool) (xs : List X) → AllByRecursion (λ x. test x ≡ true) (filter test xs)
all_passed test [] = tt
all_passed test (x ∷ xs) = at (all_passed test xs) (test x) refl where
  at : AllByRecursion (λ x. test x ≡ true) (filter test xs) → (b : Bool) → test x ≡ b → AllByRecursion (λ x. test x ≡ true) (cond b (x ∷ filter test xs) (filter test xs))
  at more true e = (e, more)
  at more false e = more

module _ {T : Type 0} where
  -- the entries of ids, by what is at each key
  abbrev pub entries_by : (ℕ → Option (Rec T)) → List (ClientId × ℕ) → List (Entry T)
  entries_by at ids = filter_map (λ p. option_map (λ rec. record { id = p.0; key = p.1; rec = rec }) (at p.1)) ids

  entries_cond : (at : ℕ → Option (Rec T)) (p : ClientId × ℕ) (ids : List (ClientId × ℕ)) (b : Bool) → entries_by at (cond b (p ∷ ids) ids) ≡ cond b (cons_option (option_map (λ rec. record { id = p.0; key = p.1; rec = rec }) (at p.1)) (entries_by at ids)) (entries_by at ids)
  entries_cond at p ids true = refl
  entries_cond at p ids false = refl

  -- ---- count

  module _ (passes : Rec T → Bool) (at : ℕ → Option (Rec T)) where
    counted_at : (p : ClientId × ℕ) (es : List (Entry T)) (keys : List ℕ) (o : Option (Rec T)) → length (filter (λ e. passes e.rec) es) ≡ length keys → length (filter (λ e. passes e.rec) (cons_option (option_map (λ rec. record { id = p.0; key = p.1; rec = rec }) o) es)) ≡ length (cond (option_map_or passes o false) (p.1 ∷ keys) keys)
    counted_at p es keys None e = e
    counted_at p es keys (Some rec) e = by (passes rec) where
      by : (b : Bool) → length (cond b (record { id = p.0; key = p.1; rec = rec } ∷ filter (λ e. passes e.rec) es) (filter (λ e. passes e.rec) es)) ≡ length (cond b (p.1 ∷ keys) keys)
      by true = ap suc e
      by false = e

    pub counted : (ids : List (ClientId × ℕ)) → length (filter (λ e. passes e.rec) (entries_by at ids)) ≡ length (filter (λ key. option_map_or passes (at key) false) (map (λ p. p.1) ids))
    counted [] = refl
    counted (p ∷ ids) = counted_at p (entries_by at ids) (filter (λ key. option_map_or passes (at key) false) (map (λ p. p.1) ids)) (at p.1) (counted ids)

  -- ---- retain

  module _ (keeps : ℕ → Rec T → Bool) (changed : ℕ → Rec T → Rec T) (old : ℕ → Option (Rec T)) where
    abbrev changes_of : Entry T → Entry T
    changes_of e = with_rec (changed e.key) e

    abbrev keeps_entry : Entry T → Bool
    keeps_entry e = keeps e.key e.rec

    abbrev kept_at : ℕ → Option (Rec T)
    kept_at key = after_retain (keeps key) (changed key) (old key)

    retained_at : (p : ClientId × ℕ) (xs : List (Entry T)) (es : List (Entry T)) (o : Option (Rec T)) → xs ≡ map changes_of (filter keeps_entry es) → cond (is_some (after_retain (keeps p.1) (changed p.1) o)) (cons_option (option_map (λ rec. record { id = p.0; key = p.1; rec = rec }) (after_retain (keeps p.1) (changed p.1) o)) xs) xs ≡ map changes_of (filter keeps_entry (cons_option (option_map (λ rec. record { id = p.0; key = p.1; rec = rec }) o) es))
    retained_at p xs es None e = e
    retained_at p xs es (Some rec) e = at (keeps p.1 rec) where
      at : (b : Bool) → cond (is_some (cond b (Some (changed p.1 rec)) None)) (cons_option (option_map (λ rec. record { id = p.0; key = p.1; rec = rec }) (cond b (Some (changed p.1 rec)) None)) xs) xs ≡ map changes_of (cond b (record { id = p.0; key = p.1; rec = rec } ∷ filter keeps_entry es) (filter keeps_entry es))
      at true = ap (λ ys. record { id = p.0; key = p.1; rec = changed p.1 rec } ∷ ys) e
      at false = e

    pub retained : (ids : List (ClientId × ℕ)) → entries_by kept_at (filter (λ p. is_some (kept_at p.1)) ids) ≡ map changes_of (filter keeps_entry (entries_by old ids))
    retained [] = refl
    retained (p ∷ ids) =
        entries_cond kept_at p (filter (λ p. is_some (kept_at p.1)) ids) (is_some (kept_at p.1))
        ∙ retained_at p _ (entries_by old ids) (old p.1) (retained ids)

  slot_kept_from : (keeps : ℕ → Rec T → Bool) (changed : ℕ → Rec T → Rec T) (first : ℕ) (slots : List (Option (Rec T))) (n : ℕ) → slice_index_or (slots_after_retain keeps changed first slots) n None ≡ after_retain (keeps (first + n)) (changed (first + n)) (slice_index_or slots n None)
  slot_kept_from keeps changed first [] n = refl
  slot_kept_from keeps changed first (o ∷ slots) zero =
      let here : first ≡ first + 0 = omega arith in
      ap (λ key. after_retain (keeps key) (changed key) o) here
  slot_kept_from keeps changed first (o ∷ slots) (suc n) =
      let next : first + 1 + n ≡ first + suc n = omega arith in
      slot_kept_from keeps changed (first + 1) slots n ∙ ap (λ key. after_retain (keeps key) (changed key) (slice_index_or slots n None)) next

  pub slot_kept : (keeps : ℕ → Rec T → Bool) (changed : ℕ → Rec T → Rec T) (slots : List (Option (Rec T))) (key : ℕ) → slice_index_or (slots_after_retain keeps changed 0 slots) key None ≡ after_retain (keeps key) (changed key) (slice_index_or slots key None)
  slot_kept keeps changed slots key =
      let same : 0 + key ≡ key = omega arith in
      slot_kept_from keeps changed 0 slots key ∙ ap (λ n. after_retain (keeps n) (changed n) (slice_index_or slots key None)) same

  pub slots_kept : (keeps : ℕ → Rec T → Bool) (changed : ℕ → Rec T → Rec T) (slots : List (Option (Rec T))) (ids : List (ClientId × ℕ)) → entries_of (filter (λ p. is_some (slice_index_or (slots_after_retain keeps changed 0 slots) p.1 None)) ids) (slots_after_retain keeps changed 0 slots) ≡ map (λ e. with_rec (changed e.key) e) (filter (λ e. keeps e.key e.rec) (entries_of ids slots))
  slots_kept keeps changed slots ids =
      let at : (λ (k : ℕ). slice_index_or (slots_after_retain keeps changed 0 slots) k None) ≡ (λ (k : ℕ). after_retain (keeps k) (changed k) (slice_index_or slots k None)) = fun_ext (slot_kept keeps changed slots) in
      ap (λ (f : ℕ → Option (Rec T)). entries_by f (filter (λ p. is_some (f p.1)) ids)) at ∙ retained keeps changed (λ k. slice_index_or slots k None) ids

  pub held_kept : (slots : List (Option (Rec T))) (ids : List (ClientId × ℕ)) → Held slots (filter (λ p. is_some (slice_index_or slots p.1 None)) ids)
  held_kept slots ids = all_passed (λ p. is_some (slice_index_or slots p.1 None)) ids

  -- ---- change

  module _ (keeps : ℕ → Rec T → Bool) (changed : ℕ → Rec T → Rec T) (keeps_all : (key : ℕ) (rec : Rec T) → keeps key rec ≡ true) where
    some_changed : (key : ℕ) (o : Option (Rec T)) → is_some o ≡ true → is_some (after_retain (keeps key) (changed key) o) ≡ true
    some_changed key None h = h
    some_changed key (Some rec) h = ap (λ b. is_some (cond b (Some (changed key rec)) None)) (keeps_all key rec)

    pub held_changed : (slots : List (Option (Rec T))) (ids : List (ClientId × ℕ)) → Held slots ids → Held (slots_after_retain keeps changed 0 slots) ids
    held_changed slots [] h = tt
    held_changed slots (p ∷ ids) h = (ap is_some (slot_kept keeps changed slots p.1) ∙ some_changed p.1 (slice_index_or slots p.1 None) h.0, held_changed slots ids h.1)

    changed_at : (p : ClientId × ℕ) (xs es : List (Entry T)) (o : Option (Rec T)) → xs ≡ map (λ e. with_rec (changed e.key) e) es → cons_option (option_map (λ rec. record { id = p.0; key = p.1; rec = rec }) (after_retain (keeps p.1) (changed p.1) o)) xs ≡ map (λ e. with_rec (changed e.key) e) (cons_option (option_map (λ rec. record { id = p.0; key = p.1; rec = rec }) o) es)
    changed_at p xs es None e = e
    changed_at p xs es (Some rec) e =
        ap (λ b. cons_option (option_map (λ rec. record { id = p.0; key = p.1; rec = rec }) (cond b (Some (changed p.1 rec)) None)) xs) (keeps_all p.1 rec)
        ∙ ap (λ ys. record { id = p.0; key = p.1; rec = changed p.1 rec } ∷ ys) e

    pub entries_changed : (slots : List (Option (Rec T))) (ids : List (ClientId × ℕ)) → entries_of ids (slots_after_retain keeps changed 0 slots) ≡ map (λ e. with_rec (changed e.key) e) (entries_of ids slots)
    entries_changed slots [] = refl
    entries_changed slots (p ∷ ids) =
        ap (λ o. cons_option (option_map (λ rec. record { id = p.0; key = p.1; rec = rec }) o) (entries_of ids (slots_after_retain keeps changed 0 slots))) (slot_kept keeps changed slots p.1)
        ∙ changed_at p _ (entries_of ids slots) (slice_index_or slots p.1 None) (entries_changed slots ids)

  -- ---- add

  module _ (key : ℕ) (old new : ℕ → Option (Rec T)) (others : (other : ℕ) → (other ≡ key → ⊥) → new other ≡ old other) (vacant : old key ≡ None) where
    other_key : (k : ℕ) → is_some (old k) ≡ true → k ≡ key → ⊥
    other_key k h e = let none : is_some (old k) ≡ false = ap is_some (ap old e ∙ vacant) in cc

    entries_stay : (ids : List (ClientId × ℕ)) → AllByRecursion (λ p. is_some (old p.1) ≡ true) ids → entries_by new ids ≡ entries_by old ids
    entries_stay [] h = refl
    entries_stay (p ∷ ids) h =
        ap (λ o. cons_option (option_map (λ rec. record { id = p.0; key = p.1; rec = rec }) o) (entries_by new ids)) (others p.1 (other_key p.1 h.0))
        ∙ ap (cons_option (option_map (λ rec. record { id = p.0; key = p.1; rec = rec }) (old p.1))) (entries_stay ids h.1)

    pub added : (ids : List (ClientId × ℕ)) (id : ClientId) (rec : Rec T) → AllByRecursion (λ p. is_some (old p.1) ≡ true) ids → new key ≡ Some rec → entries_by new (ids ++ (id, key) ∷ []) ≡ entries_by old ids ++ record { id = id; key = key; rec = rec } ∷ []
    added ids id rec h e =
        filter_map-append (λ p. option_map (λ rec. record { id = p.0; key = p.1; rec = rec }) (new p.1)) ids ((id, key) ∷ [])
        ∙ ap (λ es. es ++ entries_by new ((id, key) ∷ [])) (entries_stay ids h)
        ∙ ap (λ o. entries_by old ids ++ cons_option (option_map (λ rec. record { id = id; key = key; rec = rec }) o) []) e

    pub held_added : (ids : List (ClientId × ℕ)) (id : ClientId) → AllByRecursion (λ p. is_some (old p.1) ≡ true) ids → is_some (new key) ≡ true → AllByRecursion (λ p. is_some (new p.1) ≡ true) (ids ++ (id, key) ∷ [])
    held_added [] id h e = (e, tt)
    held_added (p ∷ ids) id h e = (ap is_some (others p.1 (other_key p.1 h.0)) ∙ h.0, held_added ids id h.1 e)

    apart_from_all : (p : ClientId × ℕ) (ids : List (ClientId × ℕ)) (id : ClientId) → is_client p.0 id ≡ false → is_some (old p.1) ≡ true → AllByRecursion (λ q. (is_client p.0 q.0 ≡ false) × ((p.1 == q.1) ≡ false)) ids → AllByRecursion (λ q. (is_client p.0 q.0 ≡ false) × ((p.1 == q.1) ≡ false)) (ids ++ (id, key) ∷ [])
    apart_from_all p [] id n h a = ((n, ne_eqb p.1 key (other_key p.1 h)), tt)
    apart_from_all p (q ∷ ids) id n h a = (a.0, apart_from_all p ids id n h a.1)

    pub apart_added : (ids : List (ClientId × ℕ)) (id : ClientId) → AllByRecursion (λ p. is_client p.0 id ≡ false) ids → AllByRecursion (λ p. is_some (old p.1) ≡ true) ids → AreApart ids → AreApart (ids ++ (id, key) ∷ [])
    apart_added [] id n h a = (tt, tt)
    apart_added (p ∷ ids) id n h a = (apart_from_all p ids id n.0 h.0 a.0, apart_added ids id n.1 h.1 a.1)

-- an id that is not found is none of those
pub none_named : (id : ClientId) (ids : List (ClientId × ℕ)) → lookup (λ other. id.0 == other.0) ids ≡ None → AllByRecursion (λ p. is_client p.0 id ≡ false) ids
none_named id [] h = tt
none_named id (p ∷ ids) h = by (id.0 == p.0.0) refl h (none_named id ids) where
  by : (b : Bool) → (id.0 == p.0.0) ≡ b → cond b (Some p.1) (lookup (λ other. id.0 == other.0) ids) ≡ None → (lookup (λ other. id.0 == other.0) ids ≡ None → AllByRecursion (λ p. is_client p.0 id ≡ false) ids) → (is_client p.0 id ≡ false) × AllByRecursion (λ p. is_client p.0 id ≡ false) ids
  by true e h more = cc
  by false e h more = (e, more h)

-- ---- what a slab's retain leaves

module _ {T F : Type 0} (step : F → ℕ → MutBor (Rec T) → Bool → MutBor (Rec T) → F → Type 0) (f : F) (keeps : ℕ → Rec T → Bool) (changed : ℕ → Rec T → Rec T) (says : (key : ℕ) (old : Rec T) (keep : Bool) (new : Rec T) (next : F) → CalledAt step f key old keep new next → (keep ≡ keeps key old) × (new ≡ changed key old) × (next ≡ f)) where
  pub slots_retained : (key : ℕ) (slots left : List (Option (Rec T))) → RetainsFrom step f key slots left → left ≡ slots_after_retain keeps changed key slots
  slots_retained key [] left h = h
  slots_retained key (None ∷ slots) left h = h.1 ∙ ap (λ xs. None ∷ xs) (slots_retained (key + 1) slots h.0 h.2)
  slots_retained key (Some old ∷ slots) left h =
      let s = says key old h.0 h.1 h.2 h.3 in
      let more = slots_retained (key + 1) slots h.4 (subst (λ g. RetainsFrom step g (key + 1) slots h.4) s.2 h.6) in
      h.5 ∙ ap (λ b. cond b (Some h.1) None ∷ h.4) s.0 ∙ ap (λ new. cond (keeps key old) (Some new) None ∷ h.4) s.1 ∙ ap (λ xs. cond (keeps key old) (Some (changed key old)) None ∷ xs) more

-- ---- an insert into the map of ids

pub on_ok : {A E : Type 0} (r : Result A E) (P : Type 0) → OnOk r P → is_ok r ≡ true → P
on_ok (Ok x) P h e = h
on_ok (Err fault) P h e = cc

insert_at : (e : ClientId × ℕ) (es more : List (ClientId × ℕ)) (found : Option ℕ) (p : ClientId × ℕ) (v : ℕ) (b : Bool) → cond b (Some e.1) found ≡ None → (found ≡ None → more ≡ es ++ p ∷ []) → cond b ((e.0, v) ∷ es) (e ∷ more) ≡ e ∷ es ++ p ∷ []
insert_at e es more found p v true h k = cc
insert_at e es more found p v false h k = ap (λ xs. e ∷ xs) (k h)

pub insert_absent : (eq : ClientId → ClientId → Bool) (es : List (ClientId × ℕ)) (id : ClientId) (key : ℕ) → lookup (eq id) es ≡ None → insert_entry eq es id key ≡ es ++ (id, key) ∷ []
insert_absent eq [] id key h = refl
insert_absent eq (e ∷ es) id key h = insert_at e es (insert_entry eq es id key) (lookup (eq id) es) (id, key) key (eq id e.0) h (insert_absent eq es id key)

-- ---- a record that is lent

module _ {T : Type 0} where
  pub set_same : (slots : List (Option (Rec T))) (key : ℕ) (w : Rec T) → is_some (slice_index_or slots key None) ≡ true → slice_index_or (slice_set slots key (Some w)) key None ≡ Some w
  set_same [] key w h = cc
  set_same (o ∷ slots) zero w h = refl
  set_same (o ∷ slots) (suc key) w h = set_same slots key w h

  pub set_other : (slots : List (Option (Rec T))) (key other : ℕ) (w : Rec T) → (other ≡ key → ⊥) → slice_index_or (slice_set slots key (Some w)) other None ≡ slice_index_or slots other None
  set_other [] key other w ne = refl
  set_other (o ∷ slots) zero zero w ne = absurd (ne refl)
  set_other (o ∷ slots) zero (suc other) w ne = refl
  set_other (o ∷ slots) (suc key) zero w ne = refl
  set_other (o ∷ slots) (suc key) (suc other) w ne = set_other slots key other w (λ e. ne (ap suc e))

  lent_at : (slots : List (Option (Rec T))) (key : ℕ) (w : Rec T) (p : ClientId × ℕ) (es more : List (Entry T)) (o : Option (Rec T)) (b : Bool) → slice_index_or slots p.1 None ≡ o → (p.1 == key) ≡ b → is_some o ≡ true → more ≡ with_record key w es → cons_option (entry_of (slice_set slots key (Some w)) p) more ≡ with_record key w (cons_option (option_map (λ rec. record { id = p.0; key = p.1; rec = rec }) o) es)
  lent_at slots key w p es more None b s e h k = cc
  lent_at slots key w p es more (Some rec) true s e h k =
      let here : slice_index_or (slice_set slots key (Some w)) p.1 None ≡ Some w = ap (λ n. slice_index_or (slice_set slots key (Some w)) n None) (eqb-true p.1 key e) ∙ set_same slots key w (ap (λ n. is_some (slice_index_or slots n None)) (sym (eqb-true p.1 key e)) ∙ ap is_some s) in
      ap (λ o. cons_option (option_map (λ rec. record { id = p.0; key = p.1; rec = rec }) o) more) here
      ∙ ap (λ xs. record { id = p.0; key = p.1; rec = w } ∷ xs) k
      ∙ ap (λ b. cond b (record { id = p.0; key = p.1; rec = w }) (record { id = p.0; key = p.1; rec = rec }) ∷ with_record key w es) (sym e)
  lent_at slots key w p es more (Some rec) false s e h k =
      let here : slice_index_or (slice_set slots key (Some w)) p.1 None ≡ Some rec = set_other slots key p.1 w (eqb-false p.1 key e) ∙ s in
      ap (λ o. cons_option (option_map (λ rec. record { id = p.0; key = p.1; rec = rec }) o) more) here
      ∙ ap (λ xs. record { id = p.0; key = p.1; rec = rec } ∷ xs) k
      ∙ ap (λ b. cond b (record { id = p.0; key = p.1; rec = w }) (record { id = p.0; key = p.1; rec = rec }) ∷ with_record key w es) (sym e)

  pub lent_entries : (slots : List (Option (Rec T))) (key : ℕ) (w : Rec T) (ids : List (ClientId × ℕ)) → Held slots ids → entries_of ids (slice_set slots key (Some w)) ≡ with_record key w (entries_of ids slots)
  lent_entries slots key w [] h = refl
  lent_entries slots key w (p ∷ ids) h = lent_at slots key w p (entries_of ids slots) _ (slice_index_or slots p.1 None) (p.1 == key) refl refl h.0 (lent_entries slots key w ids h.1)

  some_set : (slots : List (Option (Rec T))) (key other : ℕ) (w : Rec T) → is_some (slice_index_or slots other None) ≡ true → is_some (slice_index_or (slice_set slots key (Some w)) other None) ≡ true
  some_set [] key other w h = h
  some_set (o ∷ slots) zero zero w h = refl
  some_set (o ∷ slots) zero (suc other) w h = h
  some_set (o ∷ slots) (suc key) zero w h = h
  some_set (o ∷ slots) (suc key) (suc other) w h = some_set slots key other w h

  pub held_lent : (slots : List (Option (Rec T))) (key : ℕ) (w : Rec T) (ids : List (ClientId × ℕ)) → Held slots ids → Held (slice_set slots key (Some w)) ids
  held_lent slots key w [] h = tt
  held_lent slots key w (p ∷ ids) h = (some_set slots key p.1 w h.0, held_lent slots key w ids h.1)

  pub are_lent : (slots : List (Option (Rec T))) (key : ℕ) (w : Rec T) (ids : List (ClientId × ℕ)) → AreHeld ids slots → AreHeld ids (slice_set slots key (Some w))
  are_lent slots key w ids h = record { held = held_lent slots key w ids h.held; apart = h.apart; bound = h.bound }

-- ---- what holds of each entry

module _ {T : Type 0} where
  all_entries_at : (P : ClientId × ℕ → Type 0) (p : ClientId × ℕ) (o : Option (Rec T)) (es : List (Entry T)) → P p → AllByRecursion (λ e. P (e.id, e.key)) es → AllByRecursion (λ e. P (e.id, e.key)) (cons_option (option_map (λ rec. record { id = p.0; key = p.1; rec = rec }) o) es)
  all_entries_at P p None es h more = more
  all_entries_at P p (Some rec) es h more = (h, more)

  -- what holds of each id with its key holds of the entries
  all_entries : (P : ClientId × ℕ → Type 0) (slots : List (Option (Rec T))) (ids : List (ClientId × ℕ)) → AllByRecursion P ids → AllByRecursion (λ e. P (e.id, e.key)) (entries_of ids slots)
  all_entries P slots [] h = tt
  all_entries P slots (p ∷ ids) h = all_entries_at P p (slice_index_or slots p.1 None) (entries_of ids slots) h.0 (all_entries P slots ids h.1)

  distinct_at : (p : ClientId × ℕ) (o : Option (Rec T)) (es : List (Entry T)) → AllByRecursion (λ f. (is_client p.0 f.id ≡ false) × ((p.1 == f.key) ≡ false)) es → AreDistinct es → AreDistinct (cons_option (option_map (λ rec. record { id = p.0; key = p.1; rec = rec }) o) es)
  distinct_at p None es h more = more
  distinct_at p (Some rec) es h more = (h, more)

  pub are_distinct : (slots : List (Option (Rec T))) (ids : List (ClientId × ℕ)) → AreApart ids → AreDistinct (entries_of ids slots)
  are_distinct slots [] a = tt
  are_distinct slots (p ∷ ids) a = distinct_at p (slice_index_or slots p.1 None) (entries_of ids slots) (all_entries _ slots ids a.0) (are_distinct slots ids a.1)

  -- what holds of each record holds of each entry's
  slot_at : (P : Rec T → Type 0) (slots : List (Option (Rec T))) (key : ℕ) → AllByRecursion (λ o. IfSome o P) slots → IfSome (slice_index_or slots key None) P
  slot_at P [] key h = tt
  slot_at P (o ∷ slots) zero h = h.0
  slot_at P (o ∷ slots) (suc key) h = slot_at P slots key h.1

  records_at : (P : Rec T → Type 0) (p : ClientId × ℕ) (o : Option (Rec T)) (es : List (Entry T)) → IfSome o P → AllByRecursion (λ e. P e.rec) es → AllByRecursion (λ e. P e.rec) (cons_option (option_map (λ rec. record { id = p.0; key = p.1; rec = rec }) o) es)
  records_at P p None es h more = more
  records_at P p (Some rec) es h more = (h, more)

  pub all_records : (P : Rec T → Type 0) (slots : List (Option (Rec T))) (ids : List (ClientId × ℕ)) → AllByRecursion (λ o. IfSome o P) slots → AllByRecursion (λ e. P e.rec) (entries_of ids slots)
  all_records P slots [] h = tt
  all_records P slots (p ∷ ids) h = records_at P p (slice_index_or slots p.1 None) (entries_of ids slots) (slot_at P slots p.1 h) (all_records P slots ids h)

module _ {T F : Type 0} (P : Rec T → Type 0) (step : F → ℕ → MutBor (Rec T) → Bool → MutBor (Rec T) → F → Type 0) (f : F) (says : (key : ℕ) (old : Rec T) (keep : Bool) (new : Rec T) (next : F) → CalledAt step f key old keep new next → P new × (next ≡ f)) where
  kept_slot : (keep : Bool) (new : Rec T) → P new → IfSome (cond keep (Some new) None) P
  kept_slot true new h = h
  kept_slot false new h = tt

  pub slots_hold : (key : ℕ) (slots left : List (Option (Rec T))) → RetainsFrom step f key slots left → AllByRecursion (λ o. IfSome o P) left
  slots_hold key [] left h = subst (AllByRecursion (λ o. IfSome o P)) (sym h) tt
  slots_hold key (None ∷ slots) left h = subst (AllByRecursion (λ o. IfSome o P)) (sym h.1) (tt, slots_hold (key + 1) slots h.0 h.2)
  slots_hold key (Some old ∷ slots) left h =
      let s = says key old h.0 h.1 h.2 h.3 in
      subst (AllByRecursion (λ o. IfSome o P)) (sym h.5) (kept_slot h.0 h.1 s.0, slots_hold (key + 1) slots h.4 (subst (λ g. RetainsFrom step g (key + 1) slots h.4) s.1 h.6))

-- ---- the entry that is found

module _ {T : Type 0} where
  keyed_first : (x e : Entry T) (rest : Option (Entry T)) (b c : Bool) → (x.key == e.key) ≡ c → (b ≡ true → x ≡ e) → (b ≡ false → (rest ≡ Some e) × (c ≡ false)) → cond (x.key == e.key) (Some x) rest ≡ Some e
  keyed_first x e rest true c s t f =
      let same : x ≡ e = t refl in
      ap (λ b. cond b (Some x) rest) (eq-eqb x.key e.key (ap (λ y. y.key) same)) ∙ ap Some same
  keyed_first x e rest false c s t f = ap (λ b. cond b (Some x) rest) (s ∙ (f refl).1) ∙ (f refl).0

  pub named_first : (x e : Entry T) (rest : Option (Entry T)) (b : Bool) → cond b (Some x) rest ≡ Some e → b ≡ true → x ≡ e
  named_first x e rest true h t = cc
  named_first x e rest false h t = cc

  pub keyed_as_named : (id : ClientId) (entries : List (Entry T)) (e : Entry T) → AreDistinct entries → entry_named id entries ≡ Some e → entry_keyed e.key entries ≡ Some e
  keyed_as_named id [] e d f = cc
  keyed_as_named id (x ∷ entries) e d f =
      keyed_first x e (entry_keyed e.key entries) (is_client id x.id) _ refl (named_first x e (entry_named id entries) (is_client id x.id) f) (λ b.
      let rest = found_later x (entry_named id entries) e (is_client id x.id) f b in
      (keyed_as_named id entries e d.1 rest, (found_holds _ (λ y. is_client id y.id) entries e d.0 rest).1))

  key_of : (o : Option (Entry T)) (entries : List (Entry T)) (key : ℕ) → ((e : Entry T) → o ≡ Some e → entry_keyed e.key entries ≡ Some e) → Some key ≡ option_map (λ e. e.key) o → entry_keyed key entries ≡ o
  key_of None entries key h k = cc
  key_of (Some e) entries key h k = let same : key ≡ e.key = cc in subst (λ n. entry_keyed n entries ≡ Some e) (sym same) (h e refl)

  pub found_keyed : (r : Option ℕ) (id : ClientId) (entries : List (Entry T)) → AreDistinct entries → r ≡ option_map (λ e. e.key) (entry_named id entries) → IfSome r (λ key. entry_keyed key entries ≡ entry_named id entries)
  found_keyed None id entries d k = tt
  found_keyed (Some key) id entries d k = key_of (entry_named id entries) entries key (λ e. keyed_as_named id entries e d) k

  some_from : (key : ℕ) (o : Option (Entry T)) → Some key ≡ option_map (λ e. e.key) o → is_some o ≡ true
  some_from key None k = cc
  some_from key (Some e) k = refl

  pub found_held : (r : Option ℕ) (id : ClientId) (entries : List (Entry T)) → AreDistinct entries → r ≡ option_map (λ e. e.key) (entry_named id entries) → IfSome r (λ key. is_some (entry_keyed key entries) ≡ true)
  found_held None id entries d k = tt
  found_held (Some key) id entries d k = ap is_some (key_of (entry_named id entries) entries key (λ e. keyed_as_named id entries e d) k) ∙ some_from key (entry_named id entries) k
