pub mod Blocks
pub mod Fields
pub mod Held
pub mod Kinds
pub mod Noise
pub mod Refusals
pub mod Words
