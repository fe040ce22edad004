pub mod Fixed
pub mod Stands
pub mod Answers
pub mod Numbers
pub mod Reading
pub mod Promise
