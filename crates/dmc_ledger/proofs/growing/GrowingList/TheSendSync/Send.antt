use denote.RattleType.{RattleType}
use denote.Param.Send.{IsSend}
use Rattle.dmc_ledger.specs.declared.setup.Setup.{Ghosts}
use Rattle.dmc_ledger.specs.contracts.growing.GrowingList.{the_row}
use Rattle.dmc_ledger.proofs.GrowingLists.{list_keyless}

pub send : (H S : RattleType) (g : Ghosts S.Denot) → IsSend (the_row H S g)
send H S g = record { owned = λ d vs. ((λ vss. (tt, ((λ uss. (tt, tt)), tt))), list_keyless H.coded.code g.name d.number d.rows d.list); leaving = λ k f vs. tt }
