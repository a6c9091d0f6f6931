pub mod Numbers
pub mod Lanes
pub mod Fits
pub mod Hearing
pub mod Order
