pub mod Lists
pub mod Keeping
pub mod Storing
pub mod RingAnswers
pub mod Holding
