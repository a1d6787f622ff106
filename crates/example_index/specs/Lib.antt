-- What an index by reservation has of a client.
pub mod Keys
