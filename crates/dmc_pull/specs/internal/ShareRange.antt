-- Between which two tags the P tags of a queue lie.
use Rattle.std.specs.Prelude.{List, Option, Some, None, ⊤}
use Rattle.std.specs.List.{AllByRecursion}
use Rattle.dmc_tag.specs.Tag.{Tagging}
use Rattle.dmc_tag.specs.Order.{AtMost}
use Rattle.dmc_client.specs.Record.{Rec, share_tags}
use Rattle.dmc_roster.specs.Entries.{Entry}
use Rattle.dmc_pull.specs.declared.range.ShareRange.{ShareRange}

-- a tag is in a range, if one is known
abbrev pub IsWithin : {T : Type 0} → Tagging T → Option (ShareRange T) → T → Type 0
IsWithin ops None tag = ⊤
IsWithin ops (Some range) tag = AtMost ops range.least tag × AtMost ops tag range.greatest

-- each P of a record is in the range
abbrev pub HasSharesIn : {T : Type 0} → Tagging T → Option (ShareRange T) → Rec T → Type 0
HasSharesIn ops range rec = AllByRecursion (IsWithin ops range) (share_tags rec)

-- 0 is in the range, which is the P of a client that registers, and so is each P of each client
pub record AreWithin {T : Type 0} (ops : Tagging T) (range : Option (ShareRange T)) (entries : List (Entry T)) : Type 0 where
  pub zero : IsWithin ops range (ops.of_moment 0)
  pub shares : AllByRecursion (λ e. HasSharesIn ops range e.rec) entries
