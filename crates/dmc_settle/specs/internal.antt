-- That the parts are those of one cluster, place by place.
pub mod Checks
-- What settling fills into a row.
pub mod Filled
-- Servers and clients by their places.
pub mod Places
