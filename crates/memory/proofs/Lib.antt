pub mod Bounds
pub mod Forgets
pub mod Leasts
pub mod Memories
pub mod Raises
