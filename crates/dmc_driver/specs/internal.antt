-- What is looked at in the rows of a report.
pub mod Rows
-- What the walks over a history and over stops have found so far.
pub mod Walks
