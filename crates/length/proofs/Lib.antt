pub mod Bounds
mod Every
pub mod Figures
mod Lookup
pub mod Rounding
pub mod Rule
pub mod Size
pub mod Slack
