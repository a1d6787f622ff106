-- The greatest common divisor, computed.
pub mod Gcd
-- That `gcd` is the greatest common divisor, and what follows from that.
pub mod GcdLaws
-- An integer as the difference of two naturals, `up` less `down`.
pub mod Products
-- Lowest terms.
pub mod Lowest
-- The value of a ratio tag, a fraction in lowest terms, and what its operations compute.
pub mod Ratio
-- The operations of ratio tags are exact.
pub mod RatioExact
-- Ratios are in a total order, by cross products.
pub mod RatioOrder
-- Worked examples: the replies that the rules give in ratio tags, computed.
pub mod Examples
