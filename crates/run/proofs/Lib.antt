pub mod Begun
pub mod Chosen
pub mod Iterated
pub mod Longer
pub mod Noted
pub mod Onward
pub mod Ready
pub mod Running
