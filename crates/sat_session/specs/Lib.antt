pub mod Owned
pub mod Notes
pub mod Sessions
pub mod Calls
pub mod Replies
