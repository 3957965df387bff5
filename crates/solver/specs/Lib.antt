pub mod Prepared
pub mod Solved
