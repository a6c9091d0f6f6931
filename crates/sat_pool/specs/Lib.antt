pub mod Pool
pub mod Places
pub mod Rows
pub mod Laws
