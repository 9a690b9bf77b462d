pub mod Passes
pub mod Choosing
pub mod Gathering
pub mod Blocks
pub mod Levels
pub mod Relocating
pub mod Numbers
