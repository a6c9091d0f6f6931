pub mod Told
pub mod Lines
pub mod Texts
pub mod Histories
pub mod Fronts
pub mod Noted
pub mod Steps
pub mod Judging
