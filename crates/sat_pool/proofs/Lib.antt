pub mod Firsts
pub mod Keyed
pub mod Labels
pub mod Members
pub mod Parts
pub mod Pools
pub mod Places
