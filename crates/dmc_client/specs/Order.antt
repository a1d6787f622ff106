-- Tags in order.
use Rattle.std.specs.Prelude.{List, [], ◌∷◌, ⊤}
use Rattle.std.specs.List.{AllByRecursion}
use Rattle.dmc_tag.specs.Tag.{Tagging}
use Rattle.dmc_tag.specs.Order.{AtMost}

-- no tag is above a later one
abbrev pub InOrder : {T : Type 0} → Tagging T → List T → Type 0
InOrder ops [] = ⊤
InOrder ops (x ∷ xs) = AllByRecursion (AtMost ops x) xs × InOrder ops xs
