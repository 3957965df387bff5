pub mod Deliver
pub mod Host
pub mod Serve
