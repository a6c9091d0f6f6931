pub mod Placing
pub mod Ways
pub mod Search
pub mod Shape
pub mod Texts
pub mod Laws
