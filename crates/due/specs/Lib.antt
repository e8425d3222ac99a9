pub mod Kept
pub mod KeptTimes
pub mod DueLaws
pub mod Answers
pub mod OddJobs
