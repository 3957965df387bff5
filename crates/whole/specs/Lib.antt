pub mod Read
pub mod Rounded
pub mod Whole
