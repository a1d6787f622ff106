-- The names of a map's keys, and the clients from an index on.
use Rattle.std.proofs.Common.{◌≡◌, ℕ, ◌+◌, ◌<◌, ◌≤◌, List, [], ◌∷◌, ◌++◌, length, drop, get_or, map, refl, ap, sym, ◌∙◌, append_assoc, append-nil, String, Global, string_bytes}
use Rattle.std.specs.Prelude.{flat_map}
use Rattle.std.specs.List.{enumerate_from}
use Rattle.std.specs.Map.{keys_of}
use Rattle.std.proofs.lemmas.List.{at_drop_all}
use Rattle.toml.specs.declared.value.Value.{Value}
use Rattle.toml.specs.View.{view, items_view, members_view}
use Rattle.toml.proofs.Views.{items_view-drop}
use Rattle.dmc_scene.specs.Ignored.{IgnoredValue, ignored_of_client, list_of, names_of}

pub names_of-view : (entries : List (String Global × Value)) → map string_bytes (keys_of entries) ≡ names_of (members_view entries)
names_of-view [] = refl
names_of-view (e ∷ es) = ap (λ names. string_bytes e.0 ∷ names) (names_of-view es)

-- those of the clients from an index on
abbrev pub of_clients_from : List Value → ℕ → List IgnoredValue
of_clients_from values index = flat_map ignored_of_client (enumerate_from (index + 1) (list_of (items_view (drop index values))))

-- one client more
pub client_added : (values : List Value) (index : ℕ) (v : Value) (before after all : List IgnoredValue) → index < length values → v ≡ get_or values index v
    → after ≡ before ++ ignored_of_client (index + 1, view v) → before ++ of_clients_from values index ≡ all → after ++ of_clients_from values (index + 1) ≡ all
client_added values index v before after all within here is so_far =
    rw is (rw append_assoc (rw (items_view-drop values index v within, ← here) at so_far))

-- all clients
pub clients_added : (values : List Value) (index : ℕ) (now all : List IgnoredValue) → length values ≤ index → now ++ of_clients_from values index ≡ all → now ≡ all
clients_added values index now all past so_far =
    let none = at_drop_all (λ vs. flat_map ignored_of_client (enumerate_from (index + 1) (list_of (items_view vs)))) values index past in
    sym (append-nil now) ∙ rw none at so_far
