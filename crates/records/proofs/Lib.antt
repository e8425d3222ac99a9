pub mod Tests
pub mod ReadRecords
pub mod Alone
pub mod Answers
