-- Bounds of a client's grants over whole histories: of its limit and of its reservation.
pub mod Bounds
-- Small histories on which the laws are computed: clients of weight 1, 1,000 ticks a second, whole ticks as tags.
pub mod Examples
-- What refusing adds at the limit means for whole histories: nobody waits for a limit longer than the threshold.
pub mod Rejecting
-- What shares in virtual time mean for whole histories: no client has a credit, and none has a debt.
pub mod Shares
