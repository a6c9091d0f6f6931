pub mod Senders
pub mod Taken
