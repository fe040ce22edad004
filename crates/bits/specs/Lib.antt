pub mod Area
pub mod Laws
pub mod Marks
pub mod Words
