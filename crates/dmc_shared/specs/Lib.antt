-- The numbers of desks, by which a later state of a book is known.
pub mod Later
-- A list whose first records may have been released, in segments.
pub mod Segmented
