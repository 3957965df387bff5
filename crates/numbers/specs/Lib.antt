pub mod Digits
pub mod Numbers
pub mod Parts
