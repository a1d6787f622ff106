-- The order of packed ranks is that of the ranks.
pub mod PackedOrder
