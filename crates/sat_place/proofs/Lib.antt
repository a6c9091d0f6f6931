pub mod Order
pub mod Found
pub mod Costs
pub mod Waymarks
pub mod Worth
pub mod Blocks
pub mod Trees
