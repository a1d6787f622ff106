-- The whole numbers of a list of values, and the costs that they are.
use Rattle.std.proofs.Common.{◌≡◌, ℕ, ◌+◌, ◌-◌, ◌<◌, ◌≤◌, nat_le, Bool, true, false, ◌&&◌, ℤ, List, [], ◌∷◌, ◌++◌, length, take, drop, get_or, replicate, All, Option, Some, None, is_some, refl, sym, ap, ◌∙◌, arith, append_assoc, append-nil, le-leb, length-append, length-drop}
use Rattle.std.specs.Prelude.{if◌then◌else◌, slice_set}
use Rattle.std.specs.List.{list_all}
use Rattle.std.specs.Option.{option_and_then, option_map}
use Rattle.std.proofs.lemmas.Bool.{lt-leb}
use Rattle.std.proofs.lemmas.List.{take_more_set, drop-set-lt, drop-drop, drop-replicate, length-replicate, at_drop_all}
use Rattle.std.proofs.lemmas.List.Elements.{All-push, All-nil}
use Rattle.toml.specs.declared.value.Value.{Value}
use Rattle.toml.specs.Data.{as_integer}
use Rattle.toml.specs.View.{view, items_view}
use Rattle.toml.proofs.Views.{items_view-drop}
use Rattle.dmc_scene.specs.SceneValue.{max_costs, max_scene_cost}
use Rattle.dmc_scene.specs.Keys.{number}
use Rattle.dmc_scene.specs.Reading.{each_as, numbers, some_costs}
use Rattle.dmc_scene.specs.internal.CostLists.{cost_of}

some_more : (o : Option ℤ) (rest : Option (List ℤ)) → (is_some o && is_some rest) ≡ is_some (option_and_then (λ x. option_map (λ xs. x ∷ xs) rest) o)
some_more None rest = refl
some_more (Some x) None = refl
some_more (Some x) (Some xs) = refl

pub are_integers-view : (vs : List Value) → list_all (λ v. is_some (as_integer (view v))) vs ≡ is_some (each_as as_integer (items_view vs))
are_integers-view [] = refl
are_integers-view (v ∷ vs) =
    ap (λ more. is_some (as_integer (view v)) && more) (are_integers-view vs) ∙ some_more (as_integer (view v)) (each_as as_integer (items_view vs))

none_added : (o : Option ℕ) → ◌≡◌ {A = Option (List ℕ)} (option_and_then (λ n. option_map (λ ns. n ∷ ns) None) o) None
none_added None = refl
none_added (Some n) = refl

one_cost : (o : Option ℤ) (rest : Option (List ℤ))
    → option_and_then (λ n. option_map (λ ns. n ∷ ns) (option_and_then (numbers 1 max_scene_cost) rest)) (option_and_then (number 1 max_scene_cost) o)
    ≡ option_and_then (numbers 1 max_scene_cost) (option_and_then (λ z. option_map (λ zs. z ∷ zs) rest) o)
one_cost None rest = refl
one_cost (Some z) None = none_added (number 1 max_scene_cost z)
one_cost (Some z) (Some zs) = refl

-- one after another, or first each whole number and then each cost
each_cost : (vs : List Value) → each_as cost_of (items_view vs) ≡ option_and_then (numbers 1 max_scene_cost) (each_as as_integer (items_view vs))
each_cost [] = refl
each_cost (v ∷ vs) =
    ap (λ rest. option_and_then (λ n. option_map (λ ns. n ∷ ns) rest) (cost_of (view v))) (each_cost vs)
    ∙ one_cost (as_integer (view v)) (each_as as_integer (items_view vs))

one_longer : (o : Option ℤ) (rest : Option (List ℤ)) (n : ℕ) (list : List ℤ) → ((zs : List ℤ) → rest ≡ Some zs → length zs ≡ n)
    → option_and_then (λ z. option_map (λ zs. z ∷ zs) rest) o ≡ Some list → length list ≡ n + 1
one_longer None rest n list same read = cc
one_longer (Some z) None n list same read = cc
one_longer (Some z) (Some zs) n list same read =
    let longer : z ∷ zs ≡ list = cc in
    let length_of = same zs refl in
    omega (arith, ap length longer)

each_length : (vs : List Value) (list : List ℤ) → each_as as_integer (items_view vs) ≡ Some list → length list ≡ length vs
each_length [] list read = let same : [] ≡ list = cc in omega (arith, ap length same)
each_length (v ∷ vs) list read =
    let longer = one_longer (as_integer (view v)) (each_as as_integer (items_view vs)) (length vs) list (each_length vs) read in
    omega arith

none_either_way : (b : Bool) → ◌≡◌ {A = Option (List ℕ)} None (if b then None else None)
none_either_way true = refl
none_either_way false = refl

tested : (o : Option (List ℤ)) (made : Option (List ℕ)) (n : ℕ)
    → made ≡ option_and_then (numbers 1 max_scene_cost) o → ((list : List ℤ) → o ≡ Some list → length list ≡ n)
    → option_and_then some_costs o ≡ (if nat_le 1 n && nat_le n max_costs then made else None)
tested None made n each same = rw each (none_either_way (nat_le 1 n && nat_le n max_costs))
tested (Some list) made n each same = rw (each, ← (same list refl))

-- the list of costs that the values are
abbrev pub costs_of : List Value → Option (List ℕ)
costs_of vs = option_and_then some_costs (each_as as_integer (items_view vs))

costs_are : (vs : List Value) → costs_of vs ≡ (if nat_le 1 (length vs) && nat_le (length vs) max_costs then each_as cost_of (items_view vs) else None)
costs_are vs = tested (each_as as_integer (items_view vs)) (each_as cost_of (items_view vs)) (length vs) (each_cost vs) (each_length vs)

pub too_few : (vs : List Value) → length vs ≡ 0 → costs_of vs ≡ None
too_few vs none = costs_are vs ∙ rw none

no_room : (some fits : Bool) (made : Option (List ℕ)) → fits ≡ false → (if some && fits then made else None) ≡ None
no_room true fits made none = rw none
no_room false fits made none = refl

pub too_many : (vs : List Value) → max_costs < length vs → costs_of vs ≡ None
too_many vs many = costs_are vs ∙ no_room (nat_le 1 (length vs)) (nat_le (length vs) max_costs) _ (lt-leb (length vs) max_costs many)

as_many : (vs : List Value) → 0 < length vs → length vs ≤ max_costs → costs_of vs ≡ each_as cost_of (items_view vs)
as_many vs some limit = costs_are vs ∙ rw (le-leb 1 (length vs) some, le-leb (length vs) max_costs limit)

-- With the values from an index on still to be read: the costs before it, in an array with zeros behind them.
pub record Progress (all : List Value) (index : ℕ) (units : List ℕ) : Type 0 where
  pub carried : option_map (λ rest. take index units ++ rest) (each_as cost_of (items_view (drop index all))) ≡ each_as cost_of (items_view all)
  pub counted : length (take index units) ≡ index
  pub zeros : drop index units ≡ replicate (max_costs - index) 0
  pub least : All (λ c. 0 < c) (take index units)
  pub greatest : All (λ c. c ≤ max_scene_cost) (take index units)

all_before : (o : Option (List ℕ)) → option_map (λ rest. [] ++ rest) o ≡ o
all_before None = refl
all_before (Some costs) = refl

pub none_read : (all : List Value) → Progress all 0 (replicate max_costs 0)
none_read all = record {
  carried = all_before (each_as cost_of (items_view all));
  counted = refl;
  zeros = refl;
  least = All-nil (λ c. 0 < c);
  greatest = All-nil (λ c. c ≤ max_scene_cost);
}

one_more : (o : Option (List ℕ)) (before : List ℕ) (c : ℕ)
    → option_map (λ rest. (before ++ c ∷ []) ++ rest) o ≡ option_map (λ rest. before ++ rest) (option_map (λ cs. c ∷ cs) o)
one_more None before c = refl
one_more (Some cs) before c = rw append_assoc

-- the costs from an index on, if the value there is known
next_cost : (all : List Value) (index : ℕ) (v : Value) → index < length all → v ≡ get_or all index v
    → each_as cost_of (items_view (drop index all))
    ≡ option_and_then (λ c. option_map (λ cs. c ∷ cs) (each_as cost_of (items_view (drop (index + 1) all)))) (cost_of (view v))
next_cost all index v within here = rw (items_view-drop all index v within, ← here)

one_zero_less : (units : List ℕ) (index : ℕ) → drop index units ≡ replicate (max_costs - index) 0 → drop (index + 1) units ≡ replicate (max_costs - (index + 1)) 0
one_zero_less units index zeros =
    let less : (max_costs - index) - 1 ≡ max_costs - (index + 1) = omega arith in
    rw (← drop-drop 1 index units, zeros, drop-replicate, less)

-- one cost more
pub read_more : (all : List Value) (index : ℕ) (units : List ℕ) (v : Value) (c : ℕ)
    → Progress all index units → index < length all → length all ≤ max_costs → v ≡ get_or all index v → cost_of (view v) ≡ Some c
    → 0 < c → c ≤ max_scene_cost → Progress all (index + 1) (slice_set units index c)
read_more all index units v c so_far within limit here read least greatest =
    let room : index < length units = omega (arith, ap length so_far.zeros, length-drop {A = ℕ}, length-replicate {A = ℕ}) in
    let front : take (index + 1) (slice_set units index c) ≡ take index units ++ c ∷ [] = take_more_set units index c room in
    record {
      carried = rw front (one_more (each_as cost_of (items_view (drop (index + 1) all))) (take index units) c ∙ rw (next_cost all index v within here, read) at so_far.carried);
      counted = rw front (omega (arith, length-append {A = ℕ}, so_far.counted));
      zeros = drop-set-lt (index + 1) units index c (omega arith) ∙ one_zero_less units index so_far.zeros;
      least = rw front (All-push (λ c. 0 < c) (take index units) c so_far.least least);
      greatest = rw front (All-push (λ c. c ≤ max_scene_cost) (take index units) c so_far.greatest greatest);
    }

-- a value that is no cost
pub read_none : (all : List Value) (index : ℕ) (units : List ℕ) (v : Value)
    → Progress all index units → index < length all → length all ≤ max_costs → v ≡ get_or all index v → cost_of (view v) ≡ None → costs_of all ≡ None
read_none all index units v so_far within limit here read =
    let carried = rw (next_cost all index v within here, read) at so_far.carried in
    as_many all (omega arith) limit ∙ sym carried

-- all values
pub read_to_end : (all : List Value) (index : ℕ) (units : List ℕ)
    → Progress all index units → index ≡ length all → 0 < length all → length all ≤ max_costs → costs_of all ≡ Some (take (length all) units)
read_to_end all index units so_far at_end some limit =
    let none = at_drop_all (λ vs. each_as cost_of (items_view vs)) all index (omega arith) in
    let carried = rw none at so_far.carried in
    as_many all some limit ∙ sym carried ∙ rw (append-nil, at_end)
