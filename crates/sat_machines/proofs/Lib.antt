pub mod Keepers
pub mod Plain
pub mod Peers
pub mod Replies
pub mod Serials
pub mod Worked
