pub mod File
pub mod OneCommodity
pub mod Progress
pub mod Reading
pub mod Result
pub mod Stage
