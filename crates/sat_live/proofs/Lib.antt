pub mod Members
pub mod Differing
pub mod Coming
pub mod Journals
pub mod Reruns
pub mod Outcomes
pub mod Grouping
