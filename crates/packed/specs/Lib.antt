pub mod Part
pub mod Packed
