pub use Rattle.dmc_types.specs.Values
-- The value of a tag: which fraction it represents, and what its operations compute.
pub mod Tag
-- Tags in order, and that an assignment keeps them in order.
pub mod Order
-- The orders of ranks. Each compares its fields in turn.
pub mod Rank
-- The result of a rule: a value, or the refusal that ends it.
pub mod Outcome
-- The spacing of a rate q is hz/q ticks.
pub mod Spacing
-- The plain state: each client with its queued requests, and nothing that a rule can compute.
pub mod State
-- Sets of requests, and the best of a set over all clients: the member with the least (tag, client, order of arrival).
pub mod Best
-- The rules of dmClock over the plain state, each under its name.
pub mod Rules
-- Cancel: requests that are taken back give back what they were charged, if their stamps counted it.
pub mod Cancel
-- One command: the state after it and the reply that the rules give. A refused command leaves the state.
pub mod Step
-- Whole runs: the state and the replies after a list of commands, and whether recorded replies are those.
pub mod Replay
-- What a scheduler's calls return, as replies. A failed allocation has no reply.
pub mod Answers
-- What a scheduler promises of each call.
pub mod Steps
-- What follows from the rules, in the words of the subject.
pub mod Laws
-- Which clients have queued requests.
pub mod Queued
-- The words of worked examples: settings, commands as the lines of a script, and replies.
pub mod Examples
