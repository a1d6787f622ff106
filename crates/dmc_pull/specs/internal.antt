-- An add: the shift of all records but one, and the results of its tests.
pub mod Adding
-- The result of a grant with the caller's test.
pub mod Allowed
-- The client whose first request a pull grants.
pub mod Choice
-- A clean, record by record.
pub mod Cleaning
-- Heads at a moment, marks, and outcomes without their values.
pub mod Queue
-- The range of P tags after a new tag and after a shift.
pub mod Range
-- The results of the tests of a registration and of an update.
pub mod Registering
-- Between which two tags the P tags of a queue lie.
pub mod ShareRange
