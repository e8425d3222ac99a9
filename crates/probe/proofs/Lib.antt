pub mod Words
pub mod Traces
pub mod LentRuns
