pub mod OwnActs
pub mod Lines
pub mod Readings
pub mod Histories
pub mod Texts
pub mod Steps
pub mod Held
