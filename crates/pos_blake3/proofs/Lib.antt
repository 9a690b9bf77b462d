pub mod BlakeLemmas
pub mod LaneLemmas
pub mod Worked
