pub mod Words
pub mod StoredWords
pub mod WordLaws
