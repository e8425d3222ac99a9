pub mod Log
pub mod SpelledLogs
pub mod LogLaws
