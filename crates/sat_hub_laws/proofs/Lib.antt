pub mod Sites
pub mod Lines
pub mod Parts
pub mod Joined
pub mod Replayed
pub mod Changes
pub mod Exact
pub mod Tables
