-- What is found under a key or an id after a change of the entries.
use Rattle.std.proofs.Common.{◌≡◌, ℕ, Bool, true, false, cond, List, [], ◌∷◌, ◌++◌, map, Option, Some, None, refl, sym, ap, ◌∙◌, subst}
use Rattle.std.specs.Prelude.{filter, ◌==◌, if◌then◌else◌}
use Rattle.std.specs.Option.{option_map, option_and_then, option_or}
use Rattle.std.specs.List.{find, AllByRecursion}
use Rattle.std.proofs.lemmas.Bool.{eqb-true}
use Rattle.std.proofs.lemmas.List.Folds.{find-append}
use Rattle.dmc_tag.specs.State.{is_client}
use Rattle.dmc_client.specs.Record.{Rec}
use Rattle.dmc_roster.specs.Entries.{Entry, entry_named, entry_keyed, record_at, with_rec, with_record, AreDistinct}
use Rattle.dmc_pull.proofs.Common.Parts.{all_as, all_filtered, map_cond, found_holds, found_passes}
use Rattle.dmc_pull.proofs.Common.Entries.{Split, Differs, all_split, differs_from, split, split_changed, with_record_split}
pub use Rattle.dmc_tag.proofs.ForCallers.{same_client}
use Rattle.dmc_tag.proofs.Ids.{itself_id}

-- the record of the entry that a key finds
pub record_is : {T : Type 0} (key : ℕ) (es : List (Entry T)) (e : Entry T) (rec : Rec T) → entry_keyed key es ≡ Some e → record_at key es ≡ Some rec → e.rec ≡ rec
record_is key es e rec f r = let one : Some e.rec ≡ Some rec = sym (ap (option_map (λ e. e.rec)) f) ∙ r in cc (one)

none_of_all : {X : Type 0} (test : X → Bool) (xs : List X) → AllByRecursion (λ x. test x ≡ false) xs → find test xs ≡ None
none_of_all test [] h = refl
none_of_all test (x ∷ xs) h = ap (λ b. cond b (Some x) (find test xs)) h.0 ∙ none_of_all test xs h.1

module _ {T : Type 0} where
  -- ---- the entry that a split is of

  pub split_keyed : {key : ℕ} {e : Entry T} {es : List (Entry T)} → Split key e es → entry_keyed key es ≡ Some e
  split_keyed {key} {e} s =
      let one : e.key ≡ key = eqb-true e.key key s.keyed in
      let ahead = none_of_all (λ (f : Entry T). f.key == key) s.front (all_as (Differs e) (λ f. (f.key == key) ≡ false) (λ f d. ap (λ n. f.key == n) (sym one) ∙ d.0) s.front s.ahead) in
      ap (entry_keyed key) s.whole
      ∙ find-append (λ f. f.key == key) s.front (e ∷ s.back)
      ∙ ap (λ o. option_or o (entry_keyed key (e ∷ s.back))) ahead
      ∙ ap (λ b. cond b (Some e) (entry_keyed key s.back)) s.keyed

  pub split_named : {key : ℕ} {e : Entry T} {es : List (Entry T)} → Split key e es → entry_named e.id es ≡ Some e
  split_named {key} {e} s =
      let ahead = none_of_all (λ (f : Entry T). is_client e.id f.id) s.front (all_as (Differs e) (λ f. is_client e.id f.id ≡ false) (λ f d. d.1) s.front s.ahead) in
      ap (entry_named e.id) s.whole
      ∙ find-append (λ f. is_client e.id f.id) s.front (e ∷ s.back)
      ∙ ap (λ o. option_or o (entry_named e.id (e ∷ s.back))) ahead
      ∙ ap (λ b. cond b (Some e) (entry_named e.id s.back)) (itself_id e.id)

  -- what holds of each entry that its key finds holds of all
  pub all_found : (P : Entry T → Type 0) (es : List (Entry T)) → AreDistinct es → ((e : Entry T) → entry_keyed e.key es ≡ Some e → P e) → AllByRecursion P es
  all_found P es d gives = all_as (λ e. Split e.key e es) P (λ e s. gives e (split_keyed s)) es (all_split es d)

  -- the record that is there changes nothing
  pub same_record : (key : ℕ) (rec : Rec T) (es : List (Entry T)) → AreDistinct es → record_at key es ≡ Some rec → with_record key rec es ≡ es
  same_record key rec es d h = at (entry_keyed key es) refl h where
    at : (o : Option (Entry T)) → entry_keyed key es ≡ o → option_map (λ e. e.rec) o ≡ Some rec → with_record key rec es ≡ es
    at None f r = cc
    at (Some e) f r =
        let s = split key es e f d in
        let same : e.rec ≡ rec = cc (r) in
        with_record_split s rec ∙ ap (λ x. s.front ++ record e { rec = x } ∷ s.back) (sym same) ∙ sym s.whole

  -- ---- each entry is changed, and none its key or id

  pub keyed_mapped : (f : Entry T → Entry T) → ((e : Entry T) → (f e).key ≡ e.key) → (key : ℕ) (es : List (Entry T)) → entry_keyed key (map f es) ≡ option_map f (entry_keyed key es)
  keyed_mapped f same key [] = refl
  keyed_mapped f same key (e ∷ es) =
      ap (λ n. cond (n == key) (Some (f e)) (entry_keyed key (map f es))) (same e)
      ∙ ap (cond (e.key == key) (Some (f e))) (keyed_mapped f same key es)
      ∙ sym (map_cond f (e.key == key) e (entry_keyed key es))

  -- the records of the entries changed, each by its entry
  pub keyed_with : (g : Entry T → Rec T → Rec T) (key : ℕ) (es : List (Entry T)) → entry_keyed key (map (λ e. with_rec (g e) e) es) ≡ option_map (λ e. with_rec (g e) e) (entry_keyed key es)
  keyed_with g key es = keyed_mapped (λ e. with_rec (g e) e) (λ e. refl) key es

  pub distinct_with : (g : Entry T → Rec T → Rec T) (es : List (Entry T)) → AreDistinct es → AreDistinct (map (λ e. with_rec (g e) e) es)
  distinct_with g [] d = tt
  distinct_with g (e ∷ es) d = (all_with g (λ f. (is_client e.id f.id ≡ false) × ((e.key == f.key) ≡ false)) (λ f p. p) es d.0, distinct_with g es d.1) where
    all_with : (g : Entry T → Rec T → Rec T) (P : Entry T → Type 0) → ((f : Entry T) → P f → P (with_rec (g f) f)) → (xs : List (Entry T)) → AllByRecursion P xs → AllByRecursion P (map (λ f. with_rec (g f) f) xs)
    all_with g P gives [] h = tt
    all_with g P gives (x ∷ xs) h = (gives x h.0, all_with g P gives xs h.1)

  -- ---- one record is changed

  pub keyed_changed : {key : ℕ} {e : Entry T} {es : List (Entry T)} (s : Split key e es) (rec : Rec T) → entry_keyed key (with_record key rec es) ≡ Some (record e { rec = rec })
  keyed_changed s rec = split_keyed (split_changed s rec)

  changed_at : (key : ℕ) (rec : Rec T) (e : Entry T) (b : Bool) → (if b then with_rec (λ old. rec) e else e) ≡ with_rec (λ old. if b then rec else old) e
  changed_at key rec e true = refl
  changed_at key rec e false = refl

  changed_key : (rec : Rec T) (e : Entry T) (b : Bool) → (if b then with_rec (λ old. rec) e else e).key ≡ e.key
  changed_key rec e true = refl
  changed_key rec e false = refl

  pub keyed_other : (key : ℕ) (rec : Rec T) (other : ℕ) (es : List (Entry T)) → (other == key) ≡ false → entry_keyed other (with_record key rec es) ≡ entry_keyed other es
  keyed_other key rec other es h =
      keyed_mapped (λ e. if e.key == key then with_rec (λ old. rec) e else e) (λ e. changed_key rec e (e.key == key)) other es
      ∙ stays (entry_keyed other es) (found_passes (λ e. e.key == other) es) where
        stays : (o : Option (Entry T)) → ((e : Entry T) → o ≡ Some e → (e.key == other) ≡ true) → option_map (λ e. if e.key == key then with_rec (λ old. rec) e else e) o ≡ o
        stays None found = refl
        stays (Some e) found =
            let one : e.key ≡ other = eqb-true e.key other (found e refl) in
            ap (λ b. Some (if b then with_rec (λ old. rec) e else e)) (ap (λ n. n == key) one ∙ h)

  same_lists : (key : ℕ) (rec : Rec T) (es : List (Entry T)) → with_record key rec es ≡ map (λ e. with_rec (λ old. if e.key == key then rec else old) e) es
  same_lists key rec [] = refl
  same_lists key rec (e ∷ es) =
      ap (λ x. x ∷ with_record key rec es) (changed_at key rec e (e.key == key))
      ∙ ap (λ xs. with_rec (λ old. if e.key == key then rec else old) e ∷ xs) (same_lists key rec es)

  pub distinct_changed : (key : ℕ) (rec : Rec T) (es : List (Entry T)) → AreDistinct es → AreDistinct (with_record key rec es)
  distinct_changed key rec es d = subst AreDistinct (sym (same_lists key rec es)) (distinct_with (λ e old. if e.key == key then rec else old) es d)

  -- ---- entries are left out

  pub keyed_filtered : (keeps : Entry T → Bool) (key : ℕ) (es : List (Entry T)) → AreDistinct es → entry_keyed key (filter keeps es) ≡ option_and_then (λ e. if keeps e then Some e else None) (entry_keyed key es)
  keyed_filtered keeps key [] d = refl
  keyed_filtered keeps key (e ∷ es) d = at (keyed_filtered keeps key es d.1) (keeps e) (e.key == key) refl refl where
    absent : (e.key == key) ≡ true → entry_keyed key (filter keeps es) ≡ None
    absent k =
        let one : e.key ≡ key = eqb-true e.key key k in
        none_of_all (λ f. f.key == key) (filter keeps es) (all_filtered (λ f. (f.key == key) ≡ false) keeps es (all_as (λ f. (is_client e.id f.id ≡ false) × ((e.key == f.key) ≡ false)) (λ f. (f.key == key) ≡ false) (λ f p. ap (λ n. f.key == n) (sym one) ∙ (differs_from e f p).0) es d.0))

    at : entry_keyed key (filter keeps es) ≡ option_and_then (λ f. if keeps f then Some f else None) (entry_keyed key es) → (b c : Bool) → keeps e ≡ b → (e.key == key) ≡ c → entry_keyed key (cond b (e ∷ filter keeps es) (filter keeps es)) ≡ option_and_then (λ f. if keeps f then Some f else None) (cond c (Some e) (entry_keyed key es))
    at more true true k c = ap (λ t. cond t (Some e) (entry_keyed key (filter keeps es))) c ∙ ap (λ t. if t then Some e else None) (sym k)
    at more true false k c = ap (λ t. cond t (Some e) (entry_keyed key (filter keeps es))) c ∙ more
    at more false true k c = absent c ∙ ap (λ t. if t then Some e else None) (sym k)
    at more false false k c = more

  pub distinct_filtered : (keeps : Entry T → Bool) (es : List (Entry T)) → AreDistinct es → AreDistinct (filter keeps es)
  distinct_filtered keeps [] d = tt
  distinct_filtered keeps (e ∷ es) d = at (distinct_filtered keeps es d.1) (keeps e) where
    at : AreDistinct (filter keeps es) → (b : Bool) → AreDistinct (cond b (e ∷ filter keeps es) (filter keeps es))
    at more true = (all_filtered (λ f. (is_client e.id f.id ≡ false) × ((e.key == f.key) ≡ false)) keeps es d.0, more)
    at more false = more

  -- ---- an entry comes last

  pub keyed_last : (key : ℕ) (es : List (Entry T)) (e : Entry T) → entry_keyed key (es ++ e ∷ []) ≡ option_or (entry_keyed key es) (if e.key == key then Some e else None)
  keyed_last key es e = find-append (λ f. f.key == key) es (e ∷ [])

-- ---- what is read of the entry under a key

module _ {T X : Type 0} (read : Entry T → Option X) where
  abbrev pub read_at : ℕ → List (Entry T) → Option X
  read_at key es = option_and_then read (entry_keyed key es)

  -- of the one that is changed, and of each other
  pub read_changed : {key : ℕ} {e : Entry T} {es : List (Entry T)} (s : Split key e es) (rec : Rec T) → read_at key (with_record key rec es) ≡ read (record e { rec = rec })
  read_changed s rec = ap (option_and_then read) (keyed_changed s rec)

  pub read_other : (key : ℕ) (rec : Rec T) (other : ℕ) (es : List (Entry T)) → (other == key) ≡ false → read_at other (with_record key rec es) ≡ read_at other es
  read_other key rec other es h = ap (option_and_then read) (keyed_other key rec other es h)

  -- if the change keeps what is read
  pub read_kept : {key : ℕ} {e : Entry T} {es : List (Entry T)} (s : Split key e es) (rec : Rec T) → read (record e { rec = rec }) ≡ read e → (other : ℕ) → read_at other (with_record key rec es) ≡ read_at other es
  read_kept {key} {e} {es} s rec same other = at (other == key) refl where
    at : (b : Bool) → (other == key) ≡ b → read_at other (with_record key rec es) ≡ read_at other es
    at true k =
        let one : other ≡ key = eqb-true other key k in
        subst (λ n. read_at n (with_record key rec es) ≡ read_at n es) (sym one) (read_changed s rec ∙ same ∙ sym (ap (option_and_then read) (split_keyed s)))
    at false k = read_other key rec other es k

  -- each record is changed, and some entries are left out of which nothing is read
  pub read_retained : (g : Entry T → Rec T → Rec T) (keeps : Entry T → Bool) (es : List (Entry T)) → AreDistinct es → AllByRecursion (λ e. keeps e ≡ false → read e ≡ None) es → AllByRecursion (λ e. read (with_rec (g e) e) ≡ read e) es → (key : ℕ) → read_at key (map (λ e. with_rec (g e) e) (filter keeps es)) ≡ read_at key es
  read_retained g keeps es d none same key =
      ap (option_and_then read) (keyed_with g key (filter keeps es) ∙ ap (option_map (λ e. with_rec (g e) e)) (keyed_filtered keeps key es d))
      ∙ at (entry_keyed key es) (λ e f. found_holds (λ e. keeps e ≡ false → read e ≡ None) (λ e. e.key == key) es e none f) (λ e f. found_holds (λ e. read (with_rec (g e) e) ≡ read e) (λ e. e.key == key) es e same f) where
        of_one : (e : Entry T) (b : Bool) → keeps e ≡ b → (keeps e ≡ false → read e ≡ None) → read (with_rec (g e) e) ≡ read e → option_and_then read (option_map (λ e. with_rec (g e) e) (if b then Some e else None)) ≡ read e
        of_one e true k gone stays = stays
        of_one e false k gone stays = sym (gone k)

        at : (o : Option (Entry T)) → ((e : Entry T) → o ≡ Some e → keeps e ≡ false → read e ≡ None) → ((e : Entry T) → o ≡ Some e → read (with_rec (g e) e) ≡ read e) → option_and_then read (option_map (λ e. with_rec (g e) e) (option_and_then (λ e. if keeps e then Some e else None) o)) ≡ option_and_then read o
        at None gone stays = refl
        at (Some e) gone stays = of_one e (keeps e) refl (gone e refl) (stays e refl)

  -- an entry comes last of which nothing is read
  pub read_last : (es : List (Entry T)) (e : Entry T) → read e ≡ None → (key : ℕ) → read_at key (es ++ e ∷ []) ≡ read_at key es
  read_last es e none key = ap (option_and_then read) (keyed_last key es e) ∙ at (entry_keyed key es) (e.key == key) where
    at : (o : Option (Entry T)) (b : Bool) → option_and_then read (option_or o (if b then Some e else None)) ≡ option_and_then read o
    at (Some f) b = refl
    at None true = none
    at None false = refl
