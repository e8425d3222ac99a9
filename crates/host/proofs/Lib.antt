pub mod Bytes
pub mod Verdicts
pub mod Answering
pub mod Live
