-- What an index of either form holds.
use Rattle.std.specs.Prelude.{⊤, ◌≤◌, List, Option, length}
use Rattle.dmc_heap.specs.declared.adaptive_index.Form.{Form}
use Rattle.dmc_heap.specs.declared.adaptive_index.Form.TheVariants.{Few, Many}
use Rattle.dmc_heap.specs.declared.adaptive_index.TheConstants.{FEW}

abbrev pub slots_in : {R : Type 0} → Form R → List (Option R)
slots_in (Few list) = list
slots_in (Many heap) = heap

-- a sorted vector has few keys
abbrev pub IsSized : {R : Type 0} → Form R → Type 0
IsSized (Few list) = length list ≤ FEW
IsSized (Many heap) = ⊤
