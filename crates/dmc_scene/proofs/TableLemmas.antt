-- The tables of a list of values.
use Rattle.std.proofs.Common.{◌≡◌, ℕ, ◌+◌, ◌-◌, ◌<◌, ◌≤◌, true, ◌&&◌, List, [], ◌∷◌, ◌++◌, length, drop, get_or, AllPairs, All as Each, Ok, Err, Option, Some, None, is_some, refl, sym, ap, ◌∙◌, arith, length-append}
use Rattle.std.specs.List.{list_all}
use Rattle.std.specs.Option.{option_to_list}
use Rattle.std.proofs.lemmas.Bool.{and_parts, false≢true}
use Rattle.toml.specs.declared.value.Value.{Value}
use Rattle.toml.specs.Data.{Members, as_table}
use Rattle.toml.specs.View.{view, items_view}
use Rattle.toml.proofs.Views.{items_view-drop}
use Rattle.std.proofs.lemmas.List.{at_drop_all}
use Rattle.std.proofs.lemmas.List.Elements.{All-push}
use Rattle.std.proofs.lemmas.List.Quantifiers.{all_pairs_push}
use Rattle.dmc_types.specs.declared.config.TagKind.{TagKind}
use Rattle.dmc_scene.specs.declared.fault.SceneFault.{SceneFault}
use Rattle.dmc_scene.specs.SceneValue.{ClientValue, AreApart, AreSpaced}
use Rattle.dmc_scene.specs.internal.SceneValue.{IsFresh}
use Rattle.dmc_scene.specs.Reading.{are_tables, tables_in, client_of, clients_of}

pub are_tables-view : (vs : List Value) → list_all (λ v. is_some (as_table (view v))) vs ≡ are_tables (items_view vs)
are_tables-view [] = refl
are_tables-view (v ∷ vs) = ap (λ more. is_some (as_table (view v)) && more) (are_tables-view vs)

length_with : (o : Option Members) (rest : List Members) → is_some o ≡ true → length (option_to_list o ++ rest) ≡ length rest + 1
length_with None rest h = absurd (false≢true h)
length_with (Some t) rest h = omega arith

pub length-tables_in : (vs : List Value) → are_tables (items_view vs) ≡ true → length (tables_in (items_view vs)) ≡ length vs
length-tables_in [] h = refl
length-tables_in (v ∷ vs) h =
    let (here, more) = and_parts (is_some (as_table (view v))) (are_tables (items_view vs)) h in
    let one_more = length_with (as_table (view v)) (tables_in (items_view vs)) here in
    let rest = length-tables_in vs more in
    omega arith

-- With the values from an index on still to be read: what was read, carried over the rest, is that of all.
pub record Progress (tags : TagKind) (hz : ℕ) (all : List Value) (index : ℕ) (clients : List ClientValue) (capacity : ℕ) : Type 0 where
  pub carried : clients_of tags hz clients (tables_in (items_view (drop index all))) ≡ clients_of tags hz [] (tables_in (items_view all))
  pub counted : length clients + length (tables_in (items_view (drop index all))) ≡ length (tables_in (items_view all))
  pub room : length clients + (length all - index) ≤ capacity
  pub apart : AllPairs AreApart clients
  pub spaced : Each (λ client. AreSpaced tags hz client.info) clients

-- the tables from an index on, if the value there is known
pub tables_in-drop : (all : List Value) (index : ℕ) (v : Value) → index < length all → v ≡ get_or all index v
    → tables_in (items_view (drop index all)) ≡ option_to_list (as_table (view v)) ++ tables_in (items_view (drop (index + 1) all))
tables_in-drop all index v within here =
    rw (items_view-drop all index v within, ← here)

-- a table that is a client
pub clients_of-more : (tags : TagKind) (hz : ℕ) (before : List ClientValue) (client : ClientValue) (table : Members) (tables : List Members)
    → client_of tags hz before table ≡ Ok client → clients_of tags hz before (table ∷ tables) ≡ clients_of tags hz (before ++ client ∷ []) tables
clients_of-more tags hz before client table tables read = rw read

-- one client more
pub read_more : (tags : TagKind) (hz : ℕ) (all : List Value) (index : ℕ) (clients : List ClientValue) (capacity more : ℕ) (client : ClientValue) (table : Members)
    → Progress tags hz all index clients capacity → capacity ≤ more → index < length all
    → tables_in (items_view (drop index all)) ≡ table ∷ tables_in (items_view (drop (index + 1) all))
    → client_of tags hz clients table ≡ Ok client → IsFresh clients client.id.0 → AreSpaced tags hz client.info
    → Progress tags hz all (index + 1) (clients ++ client ∷ []) more
read_more tags hz all index clients capacity more client table so_far larger within here read fresh spaced =
    let carried = rw here at so_far.carried in
    let counted = rw here at so_far.counted in
    record {
      carried = sym (clients_of-more tags hz clients client table (tables_in (items_view (drop (index + 1) all))) read) ∙ carried;
      counted = omega (arith, length-append {A = ClientValue});
      room = omega (arith, length-append {A = ClientValue});
      apart = all_pairs_push AreApart clients client so_far.apart (λ k d h same. fresh k d h (ap (λ id. id.0) same));
      spaced = All-push (λ client. AreSpaced tags hz client.info) clients client so_far.spaced spaced;
    }

-- a value that is no table
pub read_none : (tags : TagKind) (hz : ℕ) (all : List Value) (index : ℕ) (clients : List ClientValue) (capacity : ℕ)
    → Progress tags hz all index clients capacity → index < length all
    → tables_in (items_view (drop index all)) ≡ tables_in (items_view (drop (index + 1) all))
    → Progress tags hz all (index + 1) clients capacity
read_none tags hz all index clients capacity so_far within here = record {
  carried = rw (← here) so_far.carried;
  counted = rw (← here) so_far.counted;
  room = omega arith;
  apart = so_far.apart;
  spaced = so_far.spaced;
}

-- a table that is no client
pub client_fault : (tags : TagKind) (hz : ℕ) (all : List Value) (index : ℕ) (clients : List ClientValue) (capacity : ℕ) (table : Members) (fault : SceneFault)
    → Progress tags hz all index clients capacity
    → tables_in (items_view (drop index all)) ≡ table ∷ tables_in (items_view (drop (index + 1) all))
    → client_of tags hz clients table ≡ Err fault → clients_of tags hz [] (tables_in (items_view all)) ≡ Err fault
client_fault tags hz all index clients capacity table fault so_far here read = sym so_far.carried ∙ rw (here, read)

-- all values
pub read_to_end : (tags : TagKind) (hz : ℕ) (all : List Value) (index : ℕ) (clients : List ClientValue) (capacity : ℕ)
    → Progress tags hz all index clients capacity → length all ≤ index
    → (clients_of tags hz [] (tables_in (items_view all)) ≡ Ok clients) × (length clients ≡ length (tables_in (items_view all)))
read_to_end tags hz all index clients capacity so_far past =
    let none = at_drop_all (λ vs. tables_in (items_view vs)) all index past in
    let counted = rw none at so_far.counted in
    (sym so_far.carried ∙ rw none, omega arith)
