pub mod Completed
pub mod Copying
pub mod Judged
pub mod Paired
pub mod Pairs
pub mod Resourced
pub mod Served
pub mod Shaped
