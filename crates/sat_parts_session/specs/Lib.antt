pub mod Asked
pub mod Groups
pub mod Steps
