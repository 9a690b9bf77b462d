pub mod Order
pub mod OrderLaws
pub mod Turned
pub mod Values
pub mod Quality
