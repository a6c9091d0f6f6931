pub mod Notes
pub mod Filing
pub mod Differences
pub mod Comparing
pub mod Naming
pub mod Collecting
pub mod Laws
