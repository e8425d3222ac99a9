pub mod Records
pub mod Chooser
pub mod Scripts
pub mod Answers
pub mod Choices
