pub mod Sound
pub mod Fresh
pub mod Release
pub mod Ticking
pub mod Ending
pub mod ManyTicks
pub mod Answers
pub mod WithoutServers
