pub mod Equals
pub mod Rising
pub mod Walks
pub mod Named
pub mod Agree
pub mod Parted
pub mod Journaled
pub mod Marked
