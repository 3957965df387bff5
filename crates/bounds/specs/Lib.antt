pub mod Bounds
pub mod Files
pub mod Sites
