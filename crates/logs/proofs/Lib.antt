pub mod Records
pub mod Logs
pub mod Answers
