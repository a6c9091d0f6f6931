pub mod Clusters
pub mod Doing
pub mod Ends
pub mod Locking
