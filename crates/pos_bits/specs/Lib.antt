pub mod Bits
pub mod BytesLaws
pub mod Codes
pub mod Blocks
pub mod Written
pub mod SameBits
