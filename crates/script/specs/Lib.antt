pub mod Records
pub mod Chooser
pub mod SpelledScripts
pub mod TwoScripts
pub mod ChooserLaws
pub mod ScriptLaws
pub mod Answers
