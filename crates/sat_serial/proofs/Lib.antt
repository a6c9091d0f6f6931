pub mod Ways
pub mod Boxes
pub mod Places
pub mod Lent
