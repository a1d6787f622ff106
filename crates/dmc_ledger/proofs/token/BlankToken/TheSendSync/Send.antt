use denote.Param.Send.{IsSend}
use Rattle.dmc_ledger.specs.contracts.token.BlankToken.{the_row}
use Rattle.dmc_ledger.proofs.Shared.{mint_keyless}

pub send : IsSend the_row
send = record { owned = λ d vs. ((λ vss. (tt, ((λ uss. (tt, tt)), tt))), mint_keyless d.name 0 0); leaving = λ k f vs. tt }
