-- A client's book while it is opened.
pub mod Opening
