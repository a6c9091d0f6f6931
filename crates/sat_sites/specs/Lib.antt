pub mod Interested
