pub mod Layouts
pub mod Lines
pub mod Stays
pub mod Texts
