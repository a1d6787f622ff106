-- What a caller's proof may cite: a tracker's list through one more entry, and what holds of a tracked list.

-- the empty list is tracked, and a list stays tracked by a stamp that carries what it demands, by a skip and by a response
pub use Rattle.dmc_tracker.proofs.LawLemmas.{IsTracked-nil, IsTracked-stamp, IsTracked-skip, IsTracked-response, IsTracked-front}
-- a new tracker represents the empty list; what a stamp carries; what a tracker represents after a stamp, a skip, a response
pub use Rattle.dmc_tracker.proofs.RepresentsLemmas.{RepresentsEvents-new, next_params-represents, RepresentsEvents-stamp, RepresentsEvents-skip, RepresentsEvents-response}
-- a server with the number of another is that one; a response leaves as many servers
pub use Rattle.dmc_tracker.proofs.RepresentsLemmas.{same_server, length-servers_grown}
-- what was sent to a server, what was skipped and what is pending there, in `All` and in `Others`
pub use Rattle.dmc_tracker.proofs.LawLemmas.{sums-all, sums-others}
-- in `All` what was sent, with what is demanded, is at most the completions; what was sent between two stamps
pub use Rattle.dmc_tracker.proofs.LawLemmas.{next-all, sent-between}
-- what is pending is at most the completions
pub use Rattle.dmc_tracker.proofs.LawLemmas.{pending-le}
-- a stamp whose request no server took leaves no trace, if its counts go into the next stamp to its server
pub use Rattle.dmc_tracker.proofs.ReturnedLemmas.{IsTracked-returned}
-- the completions at a server and those at the other servers are all completions
pub use Rattle.dmc_tracker.proofs.CountLemmas.{completions-by_server}
-- one more entry: what was sent to a server, by a stamp to it, by a stamp to another, by a skip, by a response
pub use Rattle.dmc_tracker.proofs.ListLemmas.{sent-stamp_same, sent-stamp_other, sent-skip, sent-response}
-- the stamps to a server, and what they cost
pub use Rattle.dmc_tracker.proofs.ListLemmas.{stamps-stamp_same, stamps-stamp_other, stamps-skip, stamps-response}
pub use Rattle.dmc_tracker.proofs.ListLemmas.{stamp_costs-stamp_same, stamp_costs-stamp_other, stamp_costs-skip, stamp_costs-response}
-- the skips of a server, and what they skip
pub use Rattle.dmc_tracker.proofs.ListLemmas.{skips-stamp, skips-response, skipped-none}
-- the completions
pub use Rattle.dmc_tracker.proofs.ListLemmas.{completions-stamp, completions-skip, completions-response}
-- what is pending at a server
pub use Rattle.dmc_tracker.proofs.ListLemmas.{pending-stamp_same, pending-stamp_other, pending-skip_same, pending-skip_other, pending-response}
-- the responses of a server in a phase, by its own response there, by another server's, by one in the other phase, by a stamp, by a skip
pub use Rattle.dmc_tracker.proofs.CountLemmas.{responses-response_same, responses-response_other}
pub use Rattle.dmc_tracker.proofs.CountLemmas.{responses-reservation-priority, responses-priority-reservation, responses-stamp, responses-skip}
-- what the responses of a server in a phase cost, by the same entries
pub use Rattle.dmc_tracker.proofs.CountLemmas.{response_costs-response_same, response_costs-response_other}
pub use Rattle.dmc_tracker.proofs.CountLemmas.{response_costs-reservation-priority, response_costs-priority-reservation, response_costs-stamp, response_costs-skip}
-- the completions at a server
pub use Rattle.dmc_tracker.proofs.CountLemmas.{completions_at-response_same, completions_at-response_other, completions_at-stamp, completions_at-skip}
-- no list has more stamps or responses than entries
pub use Rattle.dmc_tracker.proofs.CountLemmas.{stamps-le-length, responses-le-length}
-- counts are the same if both are; sums of counts
pub use Rattle.dmc_tracker.proofs.ListLemmas.{same_counts, plus-none, none-plus, plus-assoc}
-- one more element ends what comes after the last that passes, or belongs to it
pub use Rattle.dmc_tracker.proofs.ListLemmas.{after_last-push}
