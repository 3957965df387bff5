pub mod Calls
pub mod Decode
