pub mod Targets
pub mod Places
pub mod Hits
pub mod Pairs
pub mod PairsBelow
