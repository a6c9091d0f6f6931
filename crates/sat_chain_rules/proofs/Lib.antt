pub mod Whole
pub mod Bounds
