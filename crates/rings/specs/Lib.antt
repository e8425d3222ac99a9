pub mod Rings
pub mod RingShapes
pub mod RingLaws
pub mod OneRing
