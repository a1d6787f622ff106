-- What contracts see of a tracker book, and of a book behind its lock.
pub mod BookState
-- What a refusal of a part is called by the book.
pub mod Causes
-- What holds of every tracker book: the invariant of its type.
pub mod Consistent
-- What a stamp, a skip and a response do to a tracker book.
pub mod Entries
-- What a call of a tracker's book leaves as it was: every call but a rotation, and a rotation.
pub mod Later
-- A tracker book that is made.
pub mod Opening
-- A tracker's list that is released in segments.
pub mod Segments
-- A tracker book that is settled.
pub mod Settling
-- What `status` returns.
pub mod Status
-- What only contracts of private functions and proofs cite.
pub mod internal
