pub mod Parts
pub mod Stepped
pub mod Tabled
