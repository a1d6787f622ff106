-- A rank less an amount.
use Rattle.dmc_tag.specs.Tag.{Tagging}
use Rattle.dmc_tag.specs.Rules.{less}
use Rattle.dmc_tag.specs.declared.rank.ReadyRank.{ReadyRank}

-- an amount off the tag of a rank
abbrev pub less_rank : {T : Type 0} → Tagging T → T → ReadyRank T → ReadyRank T
less_rank ops amount rank = record rank { tag = less ops amount rank.tag }
