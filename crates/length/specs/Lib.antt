pub mod Length
pub mod Level
pub mod Levels
