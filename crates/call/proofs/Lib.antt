pub mod Counting
pub mod Equal
pub mod Hosts
pub mod Judged
pub mod Lengths
pub mod Offices
pub mod ReadBack
