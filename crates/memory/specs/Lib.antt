pub mod Below
pub mod Forgotten
pub mod Least
pub mod Memory
pub mod Raised
