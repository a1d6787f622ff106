-- A handle may move to another thread.
use denote.Param.Send.{IsSend}
use Rattle.dmc_c.specs.contracts.handle.Handle.{the_row}
use Rattle.dmc_c.proofs.Sent.{owns_keyless}

pub send : IsSend the_row
send = record { owned = λ h vs. ((λ vss. (tt, (tt, ((tt, tt), tt)))), owns_keyless h.held h.at h.value); leaving = λ k d w. tt }
