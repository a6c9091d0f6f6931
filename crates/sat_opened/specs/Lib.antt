pub mod Keeping
pub mod Opened
pub mod Fits
pub mod Laws
pub mod Delivered
pub mod Hosts
