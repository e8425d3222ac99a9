pub mod Multiples
pub mod Periods
