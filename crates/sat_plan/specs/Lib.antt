pub mod Sums
pub mod Config
pub mod Mismatch
pub mod Steps
pub mod Texts
pub mod Laws
pub mod Routes
pub mod Drafts
