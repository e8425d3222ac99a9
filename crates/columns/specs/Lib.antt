pub mod Columns
pub mod Ticks
pub mod Ordered
pub mod Answers
pub mod Outcomes
pub mod ColumnLaws
