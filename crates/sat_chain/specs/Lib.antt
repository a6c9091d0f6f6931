pub mod Tallies
pub mod Chained
pub mod StandsChain
pub mod Stands
pub mod Applies
pub mod Starts
