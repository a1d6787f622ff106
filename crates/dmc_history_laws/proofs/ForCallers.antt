-- What a caller's proof may cite: the laws over plain variables.
-- a client's queued requests are those of its arrivals that wait; if it was never cancelled, its arrivals without the first ones
pub use Rattle.dmc_history_laws.proofs.Waiting.{in_order_of_arrival}
pub use Rattle.dmc_history_laws.proofs.Histories.{in_order_if_never_cancelled}
-- what was never cancelled, was not in a part of the history
pub use Rattle.dmc_history_laws.proofs.Histories.{never_split, never_to, never_at}
-- the bounds of the limit and of the reservation, whatever was taken back, and of a client that was never cancelled
pub use Rattle.dmc_history_laws.proofs.Spans.{holds_limit_with_cancels, holds_reservation_with_cancels}
pub use Rattle.dmc_history_laws.proofs.Never.{holds_limit, holds_reservation}
-- the arrivals of two parts of a history; the front of a list up to an element
pub use Rattle.dmc_history_laws.proofs.Parts.{arrivals-append, take_one}
-- with adds refused at the limit, nobody waits longer than the threshold
pub use Rattle.dmc_history_laws.proofs.Rejected.{added_in_time, queued_in_time, future_in_time}
-- with shares in virtual time, no client has a credit, and none has a debt
pub use Rattle.dmc_history_laws.proofs.Credit.{no_credit}
pub use Rattle.dmc_history_laws.proofs.Debt.{no_debt}
pub use Rattle.dmc_history_laws.proofs.DebtWithCancels.{no_debt_with_cancels}
