pub mod Reduce
pub mod Wide
