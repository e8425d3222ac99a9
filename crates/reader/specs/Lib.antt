pub mod Reader
pub mod ReaderPlaces
pub mod ReaderLaws
