pub mod Challenges
pub mod Summaries
pub mod SummaryLaws
pub mod Steps
pub mod Surveys
