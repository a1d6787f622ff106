pub use Rattle.dmc_any_queue.specs.AnyState
-- The codes of the header.
pub mod Codes
-- What numbers from C say. The values are judged in the order moment, params, cost, rate.
pub mod Reading
-- What C reads of a reply. A call that is not DMC_OK writes nothing.
pub mod Outputs
-- What a handle owns: the box behind its pointer, if something is held.
pub mod Ownership
-- What each call of the header does. In each, answer is what the call returns: a value or the fault.
pub mod Calls
-- What each call of the header on shards does. In each, answer is what the call returns: a value or the fault.
pub mod ShardCalls
-- What each call of the header on rates and clocks returns: a number, or the fault.
pub mod Rates
-- What only contracts of private functions and proofs cite.
pub mod internal
