pub mod Answers
pub mod Plots
pub mod ReadingCauses
pub mod Readings
pub mod Spans
pub mod Steps
