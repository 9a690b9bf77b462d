pub mod Stream
pub mod Match
pub mod Node
pub mod Proof
