pub mod Proxy
pub mod Asks
pub mod Helps
pub mod Steps
pub mod Answers
pub mod Stands
pub mod Laws
