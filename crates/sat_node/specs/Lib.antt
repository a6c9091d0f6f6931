pub mod Meanings
pub mod Seen
pub mod Puts
pub mod Links
pub mod Together
pub mod Opened
pub mod Laws
