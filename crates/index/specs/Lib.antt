pub mod Index
pub mod Indexing
