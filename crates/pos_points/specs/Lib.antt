pub mod Points
pub mod Root
