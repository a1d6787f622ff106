-- The keys of a text that are ignored, since no scene has them.
use Rattle.std.specs.Prelude.{ℕ, Bool, not, List, [], ◌∷◌, ◌++◌, map, filter, flat_map, Option, Some, None}
use Rattle.std.specs.List.{list_any, enumerate_from}
use Rattle.std.specs.Option.{option_and_then, option_map_or}
use Rattle.std.specs.Str.{bytes_eq}
use Rattle.toml.specs.Data.{Data, Items, no_items, item, Members, no_members, member, as_array, as_table, get_member}
use Rattle.dmc_scene.specs.declared.key.Key.{Key}
use Rattle.dmc_scene.specs.declared.key.Key.TheVariants as key
use Rattle.dmc_scene.specs.Keys.{name_of}
use Rattle.dmc_scene.specs.Reading.{table_of}

-- An ignored key: the place of the client in whose table it is, counted from 1, if it is in one, and its name.
pub record IgnoredValue : Type 0 where
  pub client : Option ℕ
  pub name : List ℕ

-- the keys of a scene's own table
abbrev pub scene_keys : List Key
scene_keys =
    key.Hz ∷ key.IdleAge ∷ key.EraseAge ∷ key.Tags ∷ key.Servers ∷ key.Workers ∷ key.Step ∷ key.Seed ∷ key.MaxPulls ∷ key.Counting ∷ key.AtLimit ∷ key.Shares ∷ key.Client ∷ []

-- the keys of a client's table
abbrev pub client_keys : List Key
client_keys = key.Id ∷ key.Reservation ∷ key.Weight ∷ key.Limit ∷ key.Requests ∷ key.Window ∷ key.Costs ∷ []

-- whether one of the keys has the name
abbrev pub has_name : List Key → List ℕ → Bool
has_name known name = list_any (λ key. bytes_eq (name_of key) name) known

-- the names of a table's keys, which ascend by their bytes
abbrev pub names_of : Members → List (List ℕ)
names_of no_members = []
names_of (member name held more) = name ∷ names_of more

-- the items of a list
abbrev pub list_of : Items → List Data
list_of no_items = []
list_of (item held more) = held ∷ list_of more

-- of these names those that no key has
abbrev pub ignored_names : Option ℕ → List Key → List (List ℕ) → List IgnoredValue
ignored_names client known names = map (λ name. record { client = client; name = name }) (filter (λ name. not (has_name known name)) names)

-- those of the client at a place
abbrev pub ignored_of_client : ℕ × Data → List IgnoredValue
ignored_of_client numbered = option_map_or (λ table. ignored_names (Some numbered.0) client_keys (names_of table)) (as_table numbered.1) []

-- the items of the list of the clients
abbrev pub client_items : Members → List Data
client_items table = option_map_or list_of (option_and_then as_array (get_member (name_of key.Client) table)) []

-- those of a table, and then those of its clients in turn
abbrev pub ignored_of : Members → List IgnoredValue
ignored_of table = ignored_names None scene_keys (names_of table) ++ flat_map ignored_of_client (enumerate_from 1 (client_items table))

-- those of a text; none of one that is no TOML
abbrev pub ignored_in : List ℕ → List IgnoredValue
ignored_in text = option_map_or ignored_of (table_of text) []
