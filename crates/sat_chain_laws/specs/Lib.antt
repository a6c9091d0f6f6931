pub mod Rows
pub mod Chains
pub mod ChainAnswers
pub mod ChainRuns
pub mod Goals
pub mod Ranges
