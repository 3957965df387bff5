pub mod Listed
pub mod Listing
pub mod Shown
