-- That one request keeps to the limits of a scene.
pub mod Limits
