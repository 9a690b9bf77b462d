pub mod Gates
pub mod Works
