pub mod Bits
pub mod Multiplied
pub mod Signed
