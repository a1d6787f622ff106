-- An index that holds the first keys, each under a rank of its own client.
pub mod Keys
