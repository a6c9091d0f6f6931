pub mod LinesSay
pub mod Sound
pub mod Bounds
pub mod Whole
pub mod Reading
pub mod Going
pub mod Doing
