pub mod Complete
pub mod Last
pub mod Newest
pub mod Passed
pub mod Rising
pub mod Rows
pub mod Twice
