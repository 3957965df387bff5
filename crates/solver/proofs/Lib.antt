pub mod Indexes
pub mod Solving
