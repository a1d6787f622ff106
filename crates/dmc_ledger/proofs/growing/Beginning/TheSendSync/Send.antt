use denote.RattleType.{RattleType}
use denote.Param.Send.{IsSend}
use Rattle.dmc_ledger.specs.declared.setup.Setup.{Ghosts}
use Rattle.dmc_ledger.specs.contracts.growing.Beginning.{the_row}
use Rattle.dmc_ledger.proofs.GrowingLists.{beginning_keyless}

pub send : (H S : RattleType) (g : Ghosts S.Denot) → IsSend (the_row H S g)
send H S g = record { owned = λ d vs. ((λ vss. (tt, ((λ uss. (tt, tt)), tt))), beginning_keyless H.coded.code g.name d.number d.rows d.list); leaving = λ k f vs. tt }
