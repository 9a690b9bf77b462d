pub mod Faults
pub mod PlotFiles
pub mod PlotRuns
pub mod PlotLaws
pub mod Steps
pub mod Filling
