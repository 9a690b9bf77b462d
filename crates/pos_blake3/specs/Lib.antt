pub mod Blake3
pub mod Lanes
