-- What the tokens of growing lists own. Such a list has a number of the set-up, which says for good what names its items.
use Rattle.std.specs.Prelude.{ℕ, List, [], map}
use base.Fraction.{full_share}
use base.Stored.{Gv, Coded}
use base.Growing.{Order, prefixes, latest, at_least}
use base.Fml.{Fml, fsep}
use Rattle.dmc_ledger.specs.Rows.{listed}

-- an item is kept as its ghost value, so that the algebra names no type parameter
abbrev pub as_it_is : Coded Gv
as_it_is = record { code = λ g. g; inj = λ x y p. p }

-- lists, of which a beginning is less than the whole
abbrev pub lists : Order (List Gv)
lists = prefixes as_it_is

-- the list that this number names, which has no item yet, and so no type
unfoldable pub blank_owns : ℕ → ℕ → ℕ → Fml
blank_owns name number items = fsep (listed name number items) (latest lists full_share items [])

-- the list that this number names, which is exactly these items now
unfoldable pub list_owns : {E : Type 0} → (E → Gv) → ℕ → ℕ → ℕ → List E → Fml
list_owns code name number items list = fsep (listed name number items) (latest lists full_share items (map code list))

-- the list that this number names has these items at its beginning, for good
unfoldable pub beginning_owns : {E : Type 0} → (E → Gv) → ℕ → ℕ → ℕ → List E → Fml
beginning_owns code name number items list = fsep (listed name number items) (at_least lists items (map code list))
