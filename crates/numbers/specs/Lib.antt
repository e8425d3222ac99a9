pub mod Spelling
pub mod Reading
pub mod Writing
pub mod SpelledNumbers
pub mod NumberLaws
pub mod Answers
pub mod BadByte
