pub mod Lists
pub mod Keeping
pub mod NewestKept
pub mod Answers
pub mod DueAnswers
pub mod OddJobs
