pub mod Decimals
pub mod Digits
pub mod Lengths
pub mod Numbers
pub mod Puts
