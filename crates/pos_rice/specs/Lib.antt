pub mod Park
pub mod Reading
pub mod Steps
