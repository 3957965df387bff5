pub mod Calls
pub mod Results
