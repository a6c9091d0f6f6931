pub mod Texts
pub mod Fronts
pub mod Frames
pub mod Answers
pub mod Holdings
pub mod Faults
pub mod Summary
