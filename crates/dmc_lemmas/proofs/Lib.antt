-- numbers that are compared
pub mod Booleans
-- lists: what holds of each element, what is found, parts and maps
pub mod Lists
-- options: by cases, through a map, and under a test; and what the error of a result is
pub mod Options
-- orderings, and orders that compare alike
pub mod Orderings
