-- What is true of a queue stays true.
use Rattle.std.proofs.Common.{◌≡◌, ℕ, suc, ◌≤◌, ◌<◌, Bool, true, false, ◌&&◌, ◌||◌, List, [], ◌∷◌, map, length, Option, Some, None, refl, sym, ap, ◌∙◌, subst, arith}
use Rattle.std.specs.Option.{option_map}
use Rattle.std.specs.List.{AllByRecursion}
use Rattle.std.specs.Prelude.{nat_le}
use Rattle.std.proofs.lemmas.Bool.{leb-true, le-leb}
use Rattle.dmc_types.specs.Values.{Setting}
use Rattle.dmc_tag.specs.Tag.{Fraction, Tagging}
use Rattle.dmc_tag.specs.Best.{is_due}
use Rattle.dmc_tag.specs.declared.plain.Progress.{Progress}
use Rattle.dmc_roster.specs.Entries.{Entry, Listing}
use Rattle.dmc_index.specs.Index.{slot_of_key}
use Rattle.dmc_index.proofs.Slots.{slot_of_key-map}
use Rattle.dmc_head_index.specs.declared.head.Head.{Head}
use Rattle.dmc_head_index.specs.Heads as heads_of
use Rattle.dmc_tag.specs.Rules.{moment_of}
use Rattle.dmc_pull.specs.Queue.{Queue, IsQueue, AreHeads, AreValues, unready}

module _ {T : Type 0} (ops : Tagging T) (fraction : T → Fraction) (is_value : Fraction → Type 0) where
  -- an empty queue
  pub empty_is : (config : Setting) (roster : Listing T) (heads : List (Option (Head T))) (last : ℕ) (progress : Progress T) → roster.entries ≡ [] → heads ≡ [] → AreValues fraction is_value progress → IsQueue ops fraction is_value (record { config = config; roster = roster; heads = heads; last_moment = last; progress = progress }) 0
  empty_is config roster heads last progress e h values = subst (λ hs. IsQueue ops fraction is_value (record { config = config; roster = roster; heads = hs; last_moment = last; progress = progress }) 0) (sym h)
      (subst (λ es. IsQueue ops fraction is_value (record { config = config; roster = record { entries = es; next_key = roster.next_key }; heads = []; last_moment = last; progress = progress }) 0) (sym e) (record {
        kept = tt;
        distinct = tt;
        heads = record { here = λ key. refl; marks = λ key head here r. none_held key head here };
        in_room = tt;
        counted = refl;
        bound = omega arith;
        progress = values;
      }))
    where
      none_held : {P : Type 0} (key : ℕ) (head : Head T) → slot_of_key [] key ≡ Some head → P
      none_held key head h = cc

-- ---- the heads marked anew

pub length_map : {X Y : Type 0} (f : X → Y) (xs : List X) → length (map f xs) ≡ length xs
length_map f [] = refl
length_map f (x ∷ xs) = ap suc (length_map f xs)

pub record Mapped {X : Type 0} (f : X → X) (xs : List (Option X)) (key : ℕ) (y : X) : Type 0 where
  pub from : X
  pub here : slot_of_key xs key ≡ Some from
  pub is : f from ≡ y

pub mapped : {X : Type 0} (f : X → X) (xs : List (Option X)) (key : ℕ) (y : X) → slot_of_key (map (option_map f) xs) key ≡ Some y → Mapped f xs key y
mapped {X} f xs key y h = at (slot_of_key xs key) refl (sym (slot_of_key-map f xs key) ∙ h) where
  at : (o : Option X) → slot_of_key xs key ≡ o → option_map f o ≡ Some y → Mapped f xs key y
  at None e k = cc
  at (Some x) e k = record { from = x; here = e; is = cc (k) }

module _ {T : Type 0} (ops : Tagging T) (fraction : T → Fraction) (is_value : Fraction → Type 0) where
  -- the same roster, other heads of it
  pub same_roster : (q : Queue T) (queued : ℕ) (heads : List (Option (Head T))) (last : ℕ) → IsQueue ops fraction is_value q queued → length heads ≡ length q.heads → AreHeads ops last q.roster.entries heads → IsQueue ops fraction is_value (record q { heads = heads; last_moment = last }) queued
  same_roster q queued heads last is size are = record {
    kept = is.kept;
    distinct = is.distinct;
    heads = are;
    in_room = subst (λ n. AllByRecursion (λ e. e.key < n) q.roster.entries) (sym size) is.in_room;
    counted = is.counted;
    bound = is.bound;
    progress = is.progress;
  }

module _ {T : Type 0} (ops : Tagging T) where
  unready_map : (f : Head T → Head T) → ((h : Head T) → unready (f h) ≡ unready h) → (o : Option (Head T)) → option_map unready (option_map f o) ≡ option_map unready o
  unready_map f same None = refl
  unready_map f same (Some h) = ap Some (same h)

  pub map_heads : (f : Head T → Head T) (t last : ℕ) (es : List (Entry T)) (heads : List (Option (Head T))) → ((h : Head T) → unready (f h) ≡ unready h) → AreHeads ops t es heads → ((h : Head T) → (key : ℕ) → slot_of_key heads key ≡ Some h → (f h).ready ≡ true → is_due ops last (Some h.tags.l) ≡ true) → AreHeads ops last es (map (option_map f) heads)
  map_heads f t last es heads same are due = record {
    here = λ key. ap (option_map unready) (slot_of_key-map f heads key) ∙ unready_map f same (slot_of_key heads key) ∙ are.here key;
    marks = λ key head h r.
        let m = mapped f heads key head h in
        let tags : head.tags ≡ m.from.tags = sym (ap (λ x. x.tags) m.is) ∙ ap (λ x. x.tags) (same m.from) in
        subst (λ g. is_due ops last (Some g.l) ≡ true) (sym tags) (due m.from key m.here (ap (λ x. x.ready) m.is ∙ r));
  }

module _ {T : Type 0} (ops : Tagging T) (due_from : (tag : T) (n : ℕ) → is_due ops n (Some tag) ≡ nat_le (moment_of (ops.ceil tag)) n) where
  le_later : (x t last : ℕ) → t ≤ last → nat_le x t ≡ true → nat_le x last ≡ true
  le_later x t last h e = let le = leb-true x t e in le-leb x last (omega arith)

  -- what is due stays due
  pub due_later : (tag : T) (t last : ℕ) → t ≤ last → is_due ops t (Some tag) ≡ true → is_due ops last (Some tag) ≡ true
  due_later tag t last h e = due_from tag last ∙ le_later (moment_of (ops.ceil tag)) t last h (sym (due_from tag t) ∙ e)

  pub marks_later : (t last : ℕ) (es : List (Entry T)) (heads : List (Option (Head T))) → t ≤ last → AreHeads ops t es heads → AreHeads ops last es heads
  marks_later t last es heads h are = record { here = are.here; marks = λ key head k r. due_later head.tags.l t last h (are.marks key head k r) }

  either : (a b : Bool) → (a || b) ≡ true → (a ≡ true → b ≡ true) → b ≡ true
  either true b e f = f refl
  either false b e f = e

  pub promoted : (t last : ℕ) (es : List (Entry T)) (heads : List (Option (Head T))) → t ≤ last → AreHeads ops t es heads → AreHeads ops last es (map (option_map (heads_of.with_ready_mark ops last)) heads)
  promoted t last es heads h are =
      map_heads ops (heads_of.with_ready_mark ops last) t last es heads (λ x. refl) are
      (λ x key k r. either x.ready (is_due ops last (Some x.tags.l)) r (λ e. due_later x.tags.l t last h (are.marks key x k e)))

  second : (a b : Bool) → (a && b) ≡ true → b ≡ true
  second true b e = e
  second false b e = cc

  pub went_back : (t before : ℕ) (es : List (Entry T)) (heads : List (Option (Head T))) → AreHeads ops t es heads → AreHeads ops before es (map (option_map (heads_of.set_back ops before)) heads)
  went_back t before es heads are = map_heads ops (heads_of.set_back ops before) t before es heads (λ x. refl) are (λ x key k r. second x.ready (is_due ops before (Some x.tags.l)) r)

  none_of_two : (a b : Bool) → (a || b) ≡ false → b ≡ false
  none_of_two true b e = cc
  none_of_two false b e = e

  pub all_marked : (last : ℕ) (heads : List (Option (Head T))) (key : ℕ) (head : Head T) → slot_of_key (map (option_map (heads_of.with_ready_mark ops last)) heads) key ≡ Some head → head.ready ≡ false → is_due ops last (Some head.tags.l) ≡ false
  all_marked last heads key head h e =
      let m = mapped (heads_of.with_ready_mark ops last) heads key head h in
      let tags : m.from.tags ≡ head.tags = ap (λ x. x.tags) m.is in
      subst (λ g. is_due ops last (Some g.l) ≡ false) tags (none_of_two m.from.ready (is_due ops last (Some m.from.tags.l)) (ap (λ x. x.ready) m.is ∙ e))
