-- Room that is made for a pass.
pub mod Rooms
-- What a command that is no Add does.
pub mod Runs
-- What a submit does, and if it finds the desk of its stamp.
pub mod Submits
-- The accounts after an event.
pub mod Moves
-- The accounts after a worker's tills were renewed.
pub mod Renewing
-- Capacity that opening has made.
pub mod Opening
-- What follows from the invariant of a queue's book.
pub mod Consistent
-- The accounts after a rotation.
pub mod Rotating
-- What the queue of a book replies.
pub mod Calls
-- The accounts after a client or a till was added.
pub mod Joining
-- How much an event adds to a count.
pub mod Counts
-- The accounts after a worker was enrolled.
pub mod Enrolling
-- The accounts while a book is settled.
pub mod Settling
