pub mod FromTwos
pub mod Signed
