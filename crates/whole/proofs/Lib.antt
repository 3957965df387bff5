pub mod Leaves
pub mod Parted
pub mod ReadBack
pub mod Reading
pub mod Rounding
