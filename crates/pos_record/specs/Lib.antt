pub mod Fields
pub mod Kinds
pub mod KindLaws
pub mod Packing
