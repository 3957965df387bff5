pub mod Calls
pub mod Chose
pub mod Closest
pub mod Looked
pub mod Search
