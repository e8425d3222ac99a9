pub mod Words
pub mod Written
pub mod Chosen
pub mod Traced
pub mod LentRuns
