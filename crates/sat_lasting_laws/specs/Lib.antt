pub mod Reached
pub mod Lastings
pub mod LastingAnswers
pub mod LastingRuns
pub mod Goals
pub mod Ranges
