pub mod Followed
pub mod LineByLine
