pub mod Bytes
pub mod Counted
pub mod Digits
pub mod Meant
pub mod Pieces
pub mod Split
pub mod WordFront
pub mod WordStarts
