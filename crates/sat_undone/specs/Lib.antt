pub mod Undone
pub mod Counted
