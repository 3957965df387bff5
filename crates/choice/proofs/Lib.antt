pub mod Found
pub mod FoundExample
pub mod Looks
pub mod Reach
pub mod Ready
pub mod Selects
pub mod Slack
pub mod Turns
