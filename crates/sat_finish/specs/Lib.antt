pub mod Finishing
pub mod Parts
pub mod Partings
pub mod Walking
pub mod Ends
pub mod Findings
pub mod Marks
