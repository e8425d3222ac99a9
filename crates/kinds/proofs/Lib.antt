pub mod Numbering
pub mod Lists
pub mod Apart
