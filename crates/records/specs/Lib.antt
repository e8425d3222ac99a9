pub mod Numbers
pub mod Answers
pub mod PassedTests
pub mod TestLaws
