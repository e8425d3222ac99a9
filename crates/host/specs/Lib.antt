pub mod Answer
pub mod Buffers
pub mod HostLaws
pub mod Live
