-- Ids that are not taken.
pub mod SceneValue
-- A list of costs in an array, with zeros behind it.
pub mod CostLists
-- Texts that are parsed.
pub mod Texts
