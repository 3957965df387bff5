pub mod Parts
pub mod Singly
pub mod Site
pub mod Turns
