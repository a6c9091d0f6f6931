pub mod Opened
pub mod Hosts
pub mod Keeping
pub mod Laws
pub mod Within
pub mod Collected
