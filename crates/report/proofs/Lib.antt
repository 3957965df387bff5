pub mod Belts
pub mod Examples
pub mod Judged
pub mod Packing
pub mod Rowed
pub mod Showing
pub mod Written
