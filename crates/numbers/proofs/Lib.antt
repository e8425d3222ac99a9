pub mod Reading
pub mod Spellings
pub mod Answers
pub mod BadByte
