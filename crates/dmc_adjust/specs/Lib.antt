-- The adjustment and the reduction of one record.
pub mod Changes
