pub mod Watching
pub mod Times
pub mod Ticking
pub mod Needed
pub mod Gathered
pub mod Nexts
pub mod Shown
