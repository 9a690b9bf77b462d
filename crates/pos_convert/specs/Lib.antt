pub mod Faults
pub mod Conversions
pub mod ConversionLaws
pub mod Copies
