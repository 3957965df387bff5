pub mod Parts
pub mod Records
pub mod Reply
