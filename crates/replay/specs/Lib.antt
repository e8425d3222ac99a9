pub mod Outcome
pub mod Arrays
pub mod Endings
pub mod ReplayLaws
