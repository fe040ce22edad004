pub mod Stored
pub mod Results
