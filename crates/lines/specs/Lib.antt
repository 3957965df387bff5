pub mod Meaning
pub mod Number
pub mod Pieces
pub mod Text
