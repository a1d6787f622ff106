-- What contracts see of a queue's book and of a worker's pass.
pub mod BookState
-- What a call does to a book and a pass, and what it is refused for.
pub mod Calls
-- What holds of all accounts, and of every queue's book: the invariants of their types.
pub mod Consistent
-- Counts over a queue's history: what each event adds to a count, and the sums.
pub mod Counts
-- Workers that come later.
pub mod Enrolling
-- Clients that come later, and passes that are extended to their desks.
pub mod Joining
-- What a call of a queue's book leaves as it was: a rotation, and every other call that a lock with a witness offers. `admit` and
-- `enrol` it does not offer.
pub mod Later
-- Workers that leave.
pub mod Leaving
-- What a pass lends, and what it is once that came back.
pub mod Lending
-- What an event moves in a book and in the pass of its worker.
pub mod Moves
-- A queue's book that is made.
pub mod Opening
-- One thing for each count of a worker.
pub mod PerCount
-- Sums of tokens that begin anew.
pub mod Renewing
-- A queue's book that releases events.
pub mod Rotating
-- A queue's book that is settled.
pub mod Settling
-- What `status` returns.
pub mod Status
-- What only contracts of private functions and proofs cite.
pub mod internal
