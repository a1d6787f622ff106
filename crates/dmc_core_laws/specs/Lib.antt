-- The history of a server in a cluster run: each client's registration first, then each command that an event gives to the
-- server's queue, with the queue's reply.
pub mod Histories
-- The bounds of the limit and of the reservation over a cluster run. The arrivals of a client at a server, a_1, a_2, .., are the
-- accepted adds of the client in the server's history.
pub mod Bounds
-- The events that a cluster core was called with, one after the other, and the replies of its step.
pub mod Steps
-- Small runs on which the bounds are computed: one server, client 1 of weight 1, 1,000 ticks a second, whole ticks as tags.
pub mod Examples
