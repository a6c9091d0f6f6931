pub mod Transports
pub mod Handed
pub mod Told
pub mod Posting
pub mod Kept
