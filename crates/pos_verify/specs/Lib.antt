pub mod Verdict
pub mod Levels
