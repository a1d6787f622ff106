-- What contracts see of a scene, and the limits that each scene is within.
pub mod SceneValue
-- The value of a key of a table. The checks of a key are, in order: it is missing, its value is of another kind, its value is out
-- of its limits.
pub mod Keys
-- The scene of a table, or the first fault, in the order of the keys.
pub mod Reading
-- The keys of a text that are ignored, since no scene has them.
pub mod Ignored
-- Parts of worked examples.
pub mod Examples
-- What only contracts of private functions and proofs cite.
pub mod internal
