pub mod Small
pub mod Trees
pub mod Above
pub mod Rows
pub mod Ways
pub mod Everywhere
pub mod Unique
pub mod PlanLine
