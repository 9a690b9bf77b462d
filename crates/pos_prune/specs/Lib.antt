pub mod KeptTables
pub mod Marking
pub mod Passes
