use denote.RattleType.{RattleType}
use denote.Param.Send.{IsSend}
use Rattle.dmc_ledger.specs.declared.setup.Setup.{Ghosts}
use Rattle.dmc_ledger.specs.contracts.growing.BlankList.{the_row}
use Rattle.dmc_ledger.proofs.GrowingLists.{blank_keyless}

pub send : (S : RattleType) (g : Ghosts S.Denot) → IsSend (the_row S g)
send S g = record { owned = λ d vs. ((λ vss. (tt, ((λ uss. (tt, tt)), tt))), blank_keyless g.name d.number d.rows); leaving = λ k f vs. tt }
