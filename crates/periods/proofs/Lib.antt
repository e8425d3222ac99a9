pub mod Each
pub mod Divisors
pub mod Multiples
pub mod Periods
