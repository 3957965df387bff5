pub mod Calls
pub mod Results
pub mod Tables
