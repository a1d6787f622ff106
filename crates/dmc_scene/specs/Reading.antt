-- The scene of a table, or the first fault, in the order of the keys.
use Rattle.std.specs.Prelude.{ℕ, ◌+◌, ◌^◌, ◌-◌, ◌==◌, ◌&&◌, nat_le, not, ℤ, Bool, true, is_some, if◌then◌else◌, List, [], ◌∷◌, ◌++◌, length, Option, Some, None, Result, Ok, codes}
use Rattle.std.specs.List.{list_any}
use Rattle.std.specs.Option.{ok_or, option_and_then, option_map, option_to_list}
use Rattle.std.specs.Str.{bytes_eq, is_utf8}
use Rattle.dmc_types.specs.Limits.{max_hz, max_moment, max_step, max_window, max_client_requests, limit_of_pulls, max_scene_bytes, max_scene_clients, max_server_workers, max_servers}
use Rattle.dmc_types.specs.declared.config.AtLimit.{AtLimit}
use Rattle.dmc_types.specs.declared.config.AtLimit.TheVariants.{Wait, Allow}
use Rattle.dmc_types.specs.declared.config.Counting.{Counting}
use Rattle.dmc_types.specs.declared.config.Counting.TheVariants.{All, Others}
use Rattle.dmc_types.specs.declared.config.Shares.{Shares}
use Rattle.dmc_types.specs.declared.config.Shares.TheVariants.{Clock, Virtual}
use Rattle.dmc_types.specs.declared.config.TagKind.{TagKind}
use Rattle.dmc_types.specs.declared.config.TagKind.TheVariants.{Tick, Ratio}
use Rattle.dmc_tag.specs.Outcome.{◌>>=◌}
use Rattle.toml.specs.Data.{Data, Items, no_items, item, Members, as_integer, as_str, as_array, as_table}
use Rattle.toml.specs.Parse.{parse_document}
use Rattle.dmc_scene.specs.declared.key.Key.TheVariants as key
use Rattle.dmc_scene.specs.declared.fault.SceneFault.{SceneFault}
use Rattle.dmc_scene.specs.declared.fault.SceneFault.TheVariants.{Text}
use Rattle.dmc_scene.specs.declared.scene.Ages.{Ages}
use Rattle.dmc_scene.specs.declared.scene.Sizes.{Sizes}
use Rattle.dmc_scene.specs.SceneValue.{SceneValue, ClientValue, has_spacing, max_costs, max_scene_cost}
use Rattle.dmc_scene.specs.Keys.{required, optional, defaulted, number, passing, read_of_client}

abbrev pub tags_named : List ℕ → Option TagKind
tags_named text =
    if bytes_eq text (codes "tick") then Some Tick
    else if bytes_eq text (codes "ratio") then Some Ratio
    else None

abbrev pub counting_named : List ℕ → Option Counting
counting_named text =
    if bytes_eq text (codes "all") then Some All
    else if bytes_eq text (codes "others") then Some Others
    else None

abbrev pub at_limit_named : List ℕ → Option AtLimit
at_limit_named text =
    if bytes_eq text (codes "wait") then Some Wait
    else if bytes_eq text (codes "allow") then Some Allow
    else None

abbrev pub shares_named : List ℕ → Option Shares
shares_named text =
    if bytes_eq text (codes "clock") then Some Clock
    else if bytes_eq text (codes "virtual") then Some Virtual
    else None

-- a rate that has a spacing
abbrev pub rate : TagKind → ℕ → ℤ → Option ℕ
rate tags hz z = passing (has_spacing tags hz) (number 1 (2 ^ 32 - 1) z)

-- an id that none of these clients has
abbrev pub id_beside : List ClientValue → ℤ → Option ℕ
id_beside clients z = passing (λ id. not (list_any (λ c. c.id.0 == id) clients)) (number 0 (2 ^ 32 - 1) z)

-- whether each item of a list is a table
abbrev pub are_tables : Items → Bool
are_tables no_items = true
are_tables (item d ds) = is_some (as_table d) && are_tables ds

-- the tables of a list
abbrev pub tables_in : Items → List Members
tables_in no_items = []
tables_in (item d ds) = option_to_list (as_table d) ++ tables_in ds

-- the tables of a list of tables
abbrev pub tables_alone : Items → Option (List Members)
tables_alone ds = if are_tables ds then Some (tables_in ds) else None

abbrev pub as_tables : Data → Option (List Members)
as_tables held = option_and_then tables_alone (as_array held)

-- what the items of a list are, if each is of the kind
abbrev pub each_as : {A : Type 0} → (Data → Option A) → Items → Option (List A)
each_as kind no_items = Some []
each_as kind (item d ds) = option_and_then (λ x. option_map (λ xs. x ∷ xs) (each_as kind ds)) (kind d)

-- a list of whole numbers
abbrev pub as_integers : Data → Option (List ℤ)
as_integers held = option_and_then (each_as as_integer) (as_array held)

-- the numbers, if each is between the two bounds
abbrev pub numbers : ℕ → ℕ → List ℤ → Option (List ℕ)
numbers least greatest [] = Some []
numbers least greatest (z ∷ zs) = option_and_then (λ n. option_map (λ ns. n ∷ ns) (numbers least greatest zs)) (number least greatest z)

-- a client's costs: at least one of them, and at most as many as a list may have
abbrev pub some_costs : List ℤ → Option (List ℕ)
some_costs list = if nat_le 1 (length list) && nat_le (length list) max_costs then numbers 1 max_scene_cost list else None

-- at least one of them, and at most as many as a scene may have
abbrev pub some_clients : List Members → Option (List Members)
some_clients tables = if nat_le 1 (length tables) && nat_le (length tables) max_scene_clients then Some tables else None

-- the client of a table, after those before it
abbrev pub client_in : TagKind → ℕ → List ClientValue → Members → Result ClientValue SceneFault
client_in tags hz before table = do
  id ← required as_integer (id_beside before) key.Id table
  reservation ← optional as_integer (rate tags hz) key.Reservation table
  weight ← required as_integer (rate tags hz) key.Weight table
  limit ← optional as_integer (rate tags hz) key.Limit table
  requests ← required as_integer (number 0 max_client_requests) key.Requests table
  window ← required as_integer (number 1 max_window) key.Window table
  costs ← optional as_integers some_costs key.Costs table
  Ok (record {
    id = record { 0 = id };
    info = record { reservation = reservation; weight = weight; limit = limit };
    requests = requests;
    window = window;
    costs = costs;
  })

-- the same, and a fault says the place of the table, counted from 1
abbrev pub client_of : TagKind → ℕ → List ClientValue → Members → Result ClientValue SceneFault
client_of tags hz before table = read_of_client (length before + 1) (client_in tags hz before table)

-- the clients before, and the clients of the tables
abbrev pub clients_of : TagKind → ℕ → List ClientValue → List Members → Result (List ClientValue) SceneFault
clients_of tags hz before [] = Ok before
clients_of tags hz before (table ∷ tables) =
    client_of tags hz before table >>= λ client. clients_of tags hz (before ++ client ∷ []) tables

-- the ticks a second, and the ages
abbrev pub ages_of : Members → Result Ages SceneFault
ages_of table = do
  hz ← required as_integer (number 1 max_hz) key.Hz table
  idle_age ← defaulted max_moment as_integer (number 1 max_moment) key.IdleAge table
  erase_age ← defaulted max_moment as_integer (number idle_age max_moment) key.EraseAge table
  Ok (record { hz = hz; idle_age = idle_age; erase_age = erase_age })

-- the numbers besides those of the configuration and of the clients
abbrev pub sizes_of : Members → Result Sizes SceneFault
sizes_of table = do
  servers ← required as_integer (number 1 max_servers) key.Servers table
  workers ← required as_integer (number 1 max_server_workers) key.Workers table
  step ← required as_integer (number 1 max_step) key.Step table
  seed ← required as_integer (number 0 (2 ^ 63 - 1)) key.Seed table
  max_pulls ← required as_integer (number 1 limit_of_pulls) key.MaxPulls table
  Ok (record { servers = servers; workers = workers; step = step; seed = seed; max_pulls = max_pulls })

-- the scene of a table
abbrev pub scene_of : Members → Result SceneValue SceneFault
scene_of table = do
  ages ← ages_of table
  tags ← required as_str tags_named key.Tags table
  sizes ← sizes_of table
  counting ← defaulted All as_str counting_named key.Counting table
  at_limit ← defaulted Wait as_str at_limit_named key.AtLimit table
  shares ← defaulted Clock as_str shares_named key.Shares table
  tables ← required as_tables some_clients key.Client table
  clients ← clients_of tags ages.hz [] tables
  Ok (record {
    config = record { hz = ages.hz; idle_age = ages.idle_age; erase_age = ages.erase_age; at_limit = at_limit; shares = shares };
    tags = tags;
    servers = sizes.servers;
    workers = sizes.workers;
    step = sizes.step;
    seed = sizes.seed;
    max_pulls = sizes.max_pulls;
    counting = counting;
    clients = clients;
  })

-- the table of a text: UTF-8 of at most as many bytes as a scene may have, and TOML
abbrev pub table_of : List ℕ → Option Members
table_of text = if nat_le (length text) max_scene_bytes && is_utf8 text then parse_document text else None

-- the scene of a text
abbrev pub scene_in : List ℕ → Result SceneValue SceneFault
scene_in text = ok_or (table_of text) Text >>= scene_of
