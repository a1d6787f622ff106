-- The value of a key of a table. The checks of a key are, in order: it is missing, its value is of another kind, its value is out
-- of its limits.
use Rattle.std.specs.Prelude.{ℕ, ◌&&◌, nat_le, ℤ, pos, negsuc, Bool, if◌then◌else◌, List, Option, Some, None, Result, Ok, Err, codes}
use Rattle.std.specs.Option.{ok_or, unwrap_or}
use Rattle.dmc_tag.specs.Outcome.{◌>>=◌}
use Rattle.toml.specs.Data.{Data, Members, get_member}
use Rattle.dmc_scene.specs.declared.key.Key.{Key}
use Rattle.dmc_scene.specs.declared.key.Key.TheVariants as key
use Rattle.dmc_scene.specs.declared.fault.SceneFault.{SceneFault}
use Rattle.dmc_scene.specs.declared.fault.SceneFault.TheVariants.{Missing, Kind, Value}

-- how a key is written
abbrev pub name_of : Key → List ℕ
name_of key.Hz = codes "hz"
name_of key.IdleAge = codes "idle_age"
name_of key.EraseAge = codes "erase_age"
name_of key.Tags = codes "tags"
name_of key.Servers = codes "servers"
name_of key.Workers = codes "workers"
name_of key.Step = codes "step"
name_of key.Seed = codes "seed"
name_of key.MaxPulls = codes "max_pulls"
name_of key.Counting = codes "counting"
name_of key.AtLimit = codes "at_limit"
name_of key.Shares = codes "shares"
name_of key.Client = codes "client"
name_of key.Id = codes "id"
name_of key.Reservation = codes "reservation"
name_of key.Weight = codes "weight"
name_of key.Limit = codes "limit"
name_of key.Requests = codes "requests"
name_of key.Window = codes "window"
name_of key.Costs = codes "costs"

-- what a key's value represents: by its kind, and then by its limits
abbrev pub meaning : {A B : Type 0} → (Data → Option A) → (A → Option B) → Key → Data → Result B SceneFault
meaning kind value key held = do
  found ← ok_or (kind held) (Kind key None)
  ok_or (value found) (Value key None)

-- the values that a key may have
abbrev pub optional_meaning : {A B : Type 0} → (Data → Option A) → (A → Option B) → Key → Option Data → Result (Option B) SceneFault
optional_meaning kind value key None = Ok None
optional_meaning kind value key (Some held) = meaning kind value key held >>= λ found. Ok (Some found)

-- a key that must be there
abbrev pub required : {A B : Type 0} → (Data → Option A) → (A → Option B) → Key → Members → Result B SceneFault
required kind value key table = ok_or (get_member (name_of key) table) (Missing key None) >>= meaning kind value key

-- a key that may be absent
abbrev pub optional : {A B : Type 0} → (Data → Option A) → (A → Option B) → Key → Members → Result (Option B) SceneFault
optional kind value key table = optional_meaning kind value key (get_member (name_of key) table)

-- a key with a default
abbrev pub defaulted : {A B : Type 0} → B → (Data → Option A) → (A → Option B) → Key → Members → Result B SceneFault
defaulted default kind value key table = optional kind value key table >>= λ found. Ok (unwrap_or found default)

-- a whole number between two bounds
abbrev pub number : ℕ → ℕ → ℤ → Option ℕ
number least greatest (pos n) = if nat_le least n && nat_le n greatest then Some n else None
number least greatest (negsuc n) = None

-- only a value that passes the test
abbrev pub passing : {A : Type 0} → (A → Bool) → Option A → Option A
passing test None = None
passing test (Some x) = if test x then Some x else None

-- a fault of a key, in the table of the client at this place
abbrev pub fault_of_client : ℕ → SceneFault → SceneFault
fault_of_client place (Missing key client) = Missing key (Some place)
fault_of_client place (Kind key client) = Kind key (Some place)
fault_of_client place (Value key client) = Value key (Some place)
fault_of_client place fault = fault

-- what is read from that table
abbrev pub read_of_client : {A : Type 0} → ℕ → Result A SceneFault → Result A SceneFault
read_of_client place (Ok x) = Ok x
read_of_client place (Err fault) = Err (fault_of_client place fault)
