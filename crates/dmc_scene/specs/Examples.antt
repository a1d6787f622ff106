-- Parts of worked examples.
use Rattle.std.specs.Prelude.{ℕ, pos, List, None, codes}
use Rattle.toml.specs.Data.{array, integer, table, no_items, item, Members, member}
use Rattle.dmc_scene.specs.SceneValue.{ClientValue}

-- a key whose value is a whole number, before other keys
abbrev pub of_number : List ℕ → ℕ → Members → Members
of_number name n more = member name (integer (pos n)) more

-- the key of the clients, with two tables in its list, before other keys
abbrev pub clients : Members → Members → Members → Members
clients one other more = member (codes "client") (array (item (table one) (item (table other) no_items))) more

-- a client
abbrev pub first : ClientValue
first = record {
  id = record { 0 = 1 };
  info = record { reservation = None; weight = 1; limit = None };
  requests = 1;
  window = 1;
  costs = None;
}
