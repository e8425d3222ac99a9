pub mod Play
pub mod Late
pub mod LogRecords
pub mod PlayLaws
pub mod Refusals
pub mod StoppingLaws
